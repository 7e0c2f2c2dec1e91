use Rattle.std.proofs.Common.{◌≡◌, not, length}
use Rattle.std.specs.List.{list_any}
use Rattle.nb_model.specs.Belongs.{is_snat}
use Rattle.nb_model.specs.Network.{same}
use Rattle.nb_router.specs.Vocabulary.{nats_of}
use Rattle.nv_table.proofs.Through.{these_after}
use Rattle.nd_inputs.proofs.nats.has_dnat.Given as goal

-- there is such a rule where one of those that are left is such
abbrev pub invariant-loop-nat : goal.invariant-loop-nat
invariant-loop-nat l = list_any (λ nat. not (is_snat nat.kind)) (these_after (λ x. x.id) (λ x. same l.router x.router) l.last l.records.nats) ≡ list_any (λ nat. not (is_snat nat.kind)) (nats_of l.records l.router)

abbrev pub decreases-loop-nat : goal.decreases-loop-nat
decreases-loop-nat l = length (these_after (λ x. x.id) (λ x. same l.router x.router) l.last l.records.nats)
