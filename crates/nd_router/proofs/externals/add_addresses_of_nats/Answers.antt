use Rattle.std.proofs.Common.{◌++◌, [], ◌∷◌, map, ap, ◌∙◌}
use Rattle.std.specs.List.{flat_map}
use Rattle.std.specs.Prelude.{Some}
use Rattle.nb_records.specs.declared.router.Nat.{Nat}
use Rattle.nb_model.specs.Network.{same}
use Rattle.nv_table.proofs.Through.{all_left, these_after, these_fewer, these_next, these_whole}
use Rattle.nb_router.specs.Vocabulary.{nats_of}
use Rattle.nd_inputs.proofs.First.{one_by_one}
use Rattle.nd_inputs.proofs.Sound.{nats_rise}
use Rattle.nd_router.proofs.externals.add_addresses_of_nats.Goals as goal

pub loop-nat-init : goal.loop-nat-init
loop-nat-init c =
    ap (λ left. c.args.addrs.now.items ++ flat_map (λ (x : Nat). x.external ∷ []) left) (all_left (λ (x : Nat). x.id) (nats_of c.args.records.now c.args.router))
    ∙ ap (λ addrs. c.args.addrs.now.items ++ addrs) (one_by_one (λ (x : Nat). x.external) (nats_of c.args.records.now c.args.router))

pub loop-nat-smaller : goal.loop-nat-smaller
loop-nat-smaller c = these_fewer (λ (x : Nat). x.id) (λ (x : Nat). same c.args.router x.router) c.loop-nat.last c.args.records.now.nats c.in-Some.nat.now (nats_rise c.args.records.now c.requires) c.in-Some.ensures

pub loop-nat-preserved : goal.loop-nat-preserved
loop-nat-preserved c =
    ap (λ made. made ++ flat_map (λ (x : Nat). x.external ∷ []) (these_after (λ (x : Nat). x.id) (λ (x : Nat). same c.args.router x.router) (Some c.in-Some.nat.now.id) c.args.records.now.nats)) c.in_ok-push.ensures.items
    ∙ these_next (λ (x : Nat). x.id) (λ (x : Nat). same c.args.router x.router) c.loop-nat.last c.args.records.now.nats c.in-Some.nat.now (nats_rise c.args.records.now c.requires) c.in-Some.ensures
    (λ (x : Nat). x.external ∷ []) c.loop-nat.addrs.items (c.args.addrs.now.items ++ map (λ (x : Nat). x.external) (nats_of c.args.records.now c.args.router)) c.loop-nat.invariant

pub returns : goal.returns
returns c =
    these_whole (λ (x : Nat). x.id) (λ (x : Nat). same c.args.router x.router) c.loop-nat.last c.args.records.now.nats c.in_default.ensures
    (λ (x : Nat). x.external ∷ []) c.loop-nat.addrs.items (c.args.addrs.now.items ++ map (λ (x : Nat). x.external) (nats_of c.args.records.now c.args.router)) c.loop-nat.invariant
