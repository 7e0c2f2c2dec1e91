use Rattle.std.proofs.Common.{not, ap, sym, ◌∙◌}
use Rattle.std.specs.List.{list_any}
use Rattle.nb_records.specs.declared.router.Nat.{Nat}
use Rattle.nb_model.specs.Belongs.{is_snat}
use Rattle.nb_model.specs.Network.{same}
use Rattle.nb_router.specs.Vocabulary.{nats_of}
use Rattle.nv_table.proofs.Through.{all_left, these_fail, these_fewer, these_none, these_pass}
use Rattle.nd_inputs.proofs.Sound.{nats_rise}
use Rattle.nd_inputs.proofs.nats.has_dnat.Goals as goal

pub loop-nat-init : goal.loop-nat-init
loop-nat-init c = ap (list_any (λ (x : Nat). not (is_snat x.kind))) (all_left (λ (x : Nat). x.id) (nats_of c.args.records.now c.args.router))

pub loop-nat-smaller : goal.loop-nat-smaller
loop-nat-smaller c = these_fewer (λ (x : Nat). x.id) (λ (x : Nat). same c.args.router x.router) c.loop-nat.last c.args.records.now.nats c.in-Some.nat.now (nats_rise c.args.records.now c.requires) c.in-Some.ensures

pub loop-nat-preserved : goal.loop-nat-preserved
loop-nat-preserved c =
    these_fail (λ (x : Nat). x.id) (λ (x : Nat). same c.args.router x.router) c.loop-nat.last c.args.records.now.nats c.in-Some.nat.now (nats_rise c.args.records.now c.requires) c.in-Some.ensures
    (λ (x : Nat). not (is_snat x.kind)) (list_any (λ (x : Nat). not (is_snat x.kind)) (nats_of c.args.records.now c.args.router)) c.loop-nat.invariant (ap not (sym c.is_snat.ensures ∙ c.if-not-is_snat.false))

pub returns-then-not-is_snat : goal.returns-then-not-is_snat
returns-then-not-is_snat c =
    these_pass (λ (x : Nat). x.id) (λ (x : Nat). same c.args.router x.router) c.loop-nat.last c.args.records.now.nats c.in-Some.nat.now (nats_rise c.args.records.now c.requires) c.in-Some.ensures
    (λ (x : Nat). not (is_snat x.kind)) (list_any (λ (x : Nat). not (is_snat x.kind)) (nats_of c.args.records.now c.args.router)) c.loop-nat.invariant (ap not (sym c.is_snat.ensures ∙ c.if-not-is_snat.true))

pub returns : goal.returns
returns c =
    these_none (λ (x : Nat). x.id) (λ (x : Nat). same c.args.router x.router) c.loop-nat.last c.args.records.now.nats c.in_default.ensures
    (λ (x : Nat). not (is_snat x.kind)) (list_any (λ (x : Nat). not (is_snat x.kind)) (nats_of c.args.records.now c.args.router)) c.loop-nat.invariant
