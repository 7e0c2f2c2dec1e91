use Rattle.std.proofs.Common.{◌≡◌, ◌++◌, length}
use Rattle.std.specs.List.{flat_map}
use Rattle.nb_model.specs.Network.{same}
use Rattle.nb_router.specs.Vocabulary.{nats_of}
use Rattle.nd_router.specs.inner.Made.{nat_rows}
use Rattle.nv_table.proofs.Through.{these_after}
use Rattle.nd_router.proofs.nats.put_nats.Given as goal

-- the rows so far, and then those of the NAT rules that are left, are all
abbrev pub invariant-loop-nat : goal.invariant-loop-nat
invariant-loop-nat l = l.rows ++ flat_map nat_rows (these_after (λ x. x.id) (λ x. same l.router x.router) l.last l.records.nats) ≡ l.fn.rows ++ flat_map nat_rows (nats_of l.records l.router)

abbrev pub decreases-loop-nat : goal.decreases-loop-nat
decreases-loop-nat l = length (these_after (λ x. x.id) (λ x. same l.router x.router) l.last l.records.nats)
