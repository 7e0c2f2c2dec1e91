use Rattle.std.proofs.Common.{◌≡◌, ◌∷◌, [], ◌++◌, sym, ap, ◌∙◌, subst}
use Rattle.std.specs.declared.cmp.Ordering.TheVariants.{Less, Equal, Greater}
use Rattle.nv_map.specs.Map.{KeysRise}
use Rattle.nv_map.proofs.Values.{exact_order}
use Rattle.inc_table.specs.Delta.{IsAbove}
use Rattle.inc_table.proofs.Ends.{above_append}
use Rattle.inc_group.proofs.Merged.{all_there, below_after, below_empty, below_first, gone_here, gone_nowhere, next_above, rise_without}
use Rattle.inc_group.proofs.merge.copy_below.Goals as goal

pub push-requires : goal.push-requires
push-requires g c = next_above g.K.Ord.cmp c.loop-first.members c.loop-first.rest.now c.in-Some.after.now (c.args.members.now ++ c.args.rest.now) c.in-Some.first.now c.in_ok-copy-in-Less.field-0 c.in-Some.ensures.cases.0 c.in_ok-copy-in-Less.ensures c.loop-first.invariant.all c.requires.rise

pub loop-first-preserved : goal.loop-first-preserved
loop-first-preserved g c =
    let less : g.K.Ord.cmp c.in_ok-copy-in-Less.field-0 c.args.key.now ≡ Less = ap (λ q. g.K.Ord.cmp q c.args.key.now) c.in_ok-copy-in-Less.ensures ∙ sym c.cmp.ensures ∙ c.in-Less.is in
    record {
      all = all_there c.loop-first.members c.push.new.self c.loop-first.rest.now c.in-Some.after.now c.in-Some.first.now c.in_ok-copy-in-Less.field-0 c.in_ok-copy-in-Less-2.field-0 c.in-Some.ensures.cases.0 c.in_ok-copy-in-Less.ensures c.in_ok-copy-in-Less-2.ensures c.in_ok-push-in-Less.ensures.ok ∙ c.loop-first.invariant.all;
      above = subst (IsAbove g.K.Ord.cmp c.args.key.now) (sym c.in_ok-push-in-Less.ensures.ok) (above_append g.K.Ord.cmp c.args.key.now c.loop-first.members ((c.in_ok-copy-in-Less.field-0, c.in_ok-copy-in-Less-2.field-0) ∷ []) c.loop-first.invariant.above (less, tt));
    }

pub returns-in-Equal-clause-applied : goal.returns-in-Equal-clause-applied
returns-in-Equal-clause-applied g c =
    gone_here g.met.K.Ord.total (exact_order g.K.PartialEq.eq g.K.Ord.cmp g.met.K.Ord.matches_eq g.met.K.Kept.exact) c.loop-first.members c.loop-first.rest.now c.in-Some.after.now (c.args.members.now ++ c.args.rest.now) c.in-Some.first.now c.args.key.now c.in-Some.ensures.cases.0 c.loop-first.invariant.all c.requires.rise c.loop-first.invariant.above (sym c.cmp.ensures ∙ c.in-Equal.is)

pub returns-in-Equal-clause-rise : goal.returns-in-Equal-clause-rise
returns-in-Equal-clause-rise g c =
    rise_without g.K.Ord.cmp c.loop-first.members c.in-Some.first.now c.in-Some.after.now
    (subst (KeysRise g.K.Ord.cmp) (sym c.loop-first.invariant.all ∙ ap (λ l. c.loop-first.members ++ l) c.in-Some.ensures.cases.0) c.requires.rise)

pub returns-in-Equal-clause-below : goal.returns-in-Equal-clause-below
returns-in-Equal-clause-below g c =
    below_after g.met.K.Ord.total (exact_order g.K.PartialEq.eq g.K.Ord.cmp g.met.K.Ord.matches_eq g.met.K.Kept.exact) c.loop-first.members c.loop-first.rest.now c.in-Some.after.now (c.args.members.now ++ c.args.rest.now) c.in-Some.first.now c.args.key.now c.in-Some.ensures.cases.0 c.loop-first.invariant.all c.requires.rise (sym c.cmp.ensures ∙ c.in-Equal.is)

pub returns-in-Greater-clause-applied : goal.returns-in-Greater-clause-applied
returns-in-Greater-clause-applied g c =
    let exact = exact_order g.K.PartialEq.eq g.K.Ord.cmp g.met.K.Ord.matches_eq g.met.K.Kept.exact in
    gone_nowhere g.met.K.Ord.total exact c.loop-first.members c.loop-first.rest.now (c.args.members.now ++ c.args.rest.now) c.args.key.now c.loop-first.invariant.all c.loop-first.invariant.above
    (below_first g.met.K.Ord.total exact c.loop-first.members c.loop-first.rest.now c.in-Some.after.now (c.args.members.now ++ c.args.rest.now) c.in-Some.first.now c.args.key.now c.in-Some.ensures.cases.0 c.loop-first.invariant.all c.requires.rise (sym c.cmp.ensures ∙ c.in-Greater.is))

pub returns-in-Greater-clause-below : goal.returns-in-Greater-clause-below
returns-in-Greater-clause-below g c =
    below_first g.met.K.Ord.total (exact_order g.K.PartialEq.eq g.K.Ord.cmp g.met.K.Ord.matches_eq g.met.K.Kept.exact) c.loop-first.members c.loop-first.rest.now c.in-Some.after.now (c.args.members.now ++ c.args.rest.now) c.in-Some.first.now c.args.key.now c.in-Some.ensures.cases.0 c.loop-first.invariant.all c.requires.rise (sym c.cmp.ensures ∙ c.in-Greater.is)

pub returns-clause-applied : goal.returns-clause-applied
returns-clause-applied g c =
    gone_nowhere g.met.K.Ord.total (exact_order g.K.PartialEq.eq g.K.Ord.cmp g.met.K.Ord.matches_eq g.met.K.Kept.exact) c.loop-first.members c.loop-first.rest.now (c.args.members.now ++ c.args.rest.now) c.args.key.now c.loop-first.invariant.all c.loop-first.invariant.above
    (below_empty g.K.Ord.cmp c.args.key.now c.loop-first.rest.now c.in_default.ensures.cases)
