use Rattle.std.proofs.Common.{◌∙◌, ◌&&◌, cond, refl, ap}
use Rattle.nb_model.specs.Network.{Network, same}
use Rattle.nb_change.proofs.OneByOne.{none_seen, looked_at, all_seen}
use Rattle.nb_change.proofs.owned.drop_each.Goals as goal

pub loop-held-init : goal.loop-held-init
loop-held-init g c = record {
  rise = c.requires.rise;
  done = none_seen g.R.Record.number (λ r. same c.args.owner (g.R.Owned.owner_of r) && g.T.Test.holds c.args.test.now r) (g.R.Owned.list c.args.work.now.records);
  same = refl;
  back = refl;
}

pub loop-held-preserved : goal.loop-held-preserved
loop-held-preserved g c =
    let net = c.loop-held.work.records in
    let it =
    looked_at g.R.Owned.list g.R.Owned.with_list g.met.R.Owned.part g.R.Record.number g.R.Owned.owner_of c.args.owner
    (g.T.Test.holds c.args.test.now) c.loop-held.after net c.loop-held.invariant.done c.remove_if.new.work.records c.in-Some.held.now c.in-Some.ensures c.loop-held.invariant.rise
    c.holds-goes.result c.holds-goes.ensures c.number-number.result c.number-number.ensures
    (c.in_ok-remove_if.ensures.ok ∙ ap (λ (left : Network). cond c.holds-goes.result left net) (c.place.ensures net)) in
    record {
      rise = it.rise;
      done = it.done;
      same = it.same ∙ c.loop-held.invariant.same;
      back = c.in_ok-remove_if.ensures.back ∙ c.loop-held.invariant.back;
    }

pub loop-held-smaller : goal.loop-held-smaller
loop-held-smaller g c =
    let net = c.loop-held.work.records in
    let it =
    looked_at g.R.Owned.list g.R.Owned.with_list g.met.R.Owned.part g.R.Record.number g.R.Owned.owner_of c.args.owner
    (g.T.Test.holds c.args.test.now) c.loop-held.after net c.loop-held.invariant.done c.remove_if.new.work.records c.in-Some.held.now c.in-Some.ensures c.loop-held.invariant.rise
    c.holds-goes.result c.holds-goes.ensures c.number-number.result c.number-number.ensures
    (c.in_ok-remove_if.ensures.ok ∙ ap (λ (left : Network). cond c.holds-goes.result left net) (c.place.ensures net)) in
    it.smaller

pub returns-clause-ok : goal.returns-clause-ok
returns-clause-ok g c =
    all_seen g.R.Owned.list g.R.Owned.with_list g.met.R.Owned.part g.R.Record.number g.R.Owned.owner_of c.args.owner
    (g.T.Test.holds c.args.test.now) c.loop-held.after c.loop-held.work.records c.loop-held.invariant.done c.in_default.ensures
    ∙ c.loop-held.invariant.same
