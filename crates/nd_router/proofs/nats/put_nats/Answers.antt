use Rattle.std.proofs.Common.{◌++◌, ap, ◌∙◌}
use Rattle.std.specs.List.{flat_map}
use Rattle.std.specs.Prelude.{Some}
use Rattle.nb_records.specs.declared.router.Nat.{Nat}
use Rattle.nb_model.specs.Network.{same}
use Rattle.nv_table.proofs.Through.{all_left, these_after, these_fewer, these_next, these_whole}
use Rattle.nb_router.specs.Vocabulary.{nats_of}
use Rattle.nd_router.specs.inner.Made.{nat_rows}
use Rattle.nd_inputs.proofs.Sound.{nats_rise}
use Rattle.nd_router.proofs.nats.put_nats.Goals as goal

pub loop-nat-init : goal.loop-nat-init
loop-nat-init c = ap (λ left. c.args.rows.now ++ flat_map nat_rows left) (all_left (λ (x : Nat). x.id) (nats_of c.args.records.now c.args.router))

pub loop-nat-smaller : goal.loop-nat-smaller
loop-nat-smaller c = these_fewer (λ (x : Nat). x.id) (λ (x : Nat). same c.args.router x.router) c.loop-nat.last c.args.records.now.nats c.in-Some.nat.now (nats_rise c.args.records.now c.requires) c.in-Some.ensures

pub loop-nat-preserved : goal.loop-nat-preserved
loop-nat-preserved c =
    ap (λ made. made ++ flat_map nat_rows (these_after (λ (x : Nat). x.id) (λ (x : Nat). same c.args.router x.router) (Some c.in-Some.nat.now.id) c.args.records.now.nats)) c.in_ok-put_nat.ensures
    ∙ these_next (λ (x : Nat). x.id) (λ (x : Nat). same c.args.router x.router) c.loop-nat.last c.args.records.now.nats c.in-Some.nat.now (nats_rise c.args.records.now c.requires) c.in-Some.ensures
    nat_rows c.loop-nat.rows (c.args.rows.now ++ flat_map nat_rows (nats_of c.args.records.now c.args.router)) c.loop-nat.invariant

pub returns : goal.returns
returns c =
    these_whole (λ (x : Nat). x.id) (λ (x : Nat). same c.args.router x.router) c.loop-nat.last c.args.records.now.nats c.in_default.ensures
    nat_rows c.loop-nat.rows (c.args.rows.now ++ flat_map nat_rows (nats_of c.args.records.now c.args.router)) c.loop-nat.invariant
