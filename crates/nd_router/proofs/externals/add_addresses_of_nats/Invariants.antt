use Rattle.std.proofs.Common.{◌≡◌, ◌++◌, [], ◌∷◌, map, length}
use Rattle.std.specs.List.{flat_map}
use Rattle.nb_model.specs.Network.{same}
use Rattle.nb_router.specs.Vocabulary.{nats_of}
use Rattle.nv_table.proofs.Through.{these_after}
use Rattle.nd_router.proofs.externals.add_addresses_of_nats.Given as goal

-- the addresses so far, and then those of the NAT rules that are left, are all
abbrev pub invariant-loop-nat : goal.invariant-loop-nat
invariant-loop-nat l = l.addrs.items ++ flat_map (λ nat. nat.external ∷ []) (these_after (λ x. x.id) (λ x. same l.router x.router) l.last l.records.nats) ≡ l.fn.addrs.items ++ map (λ nat. nat.external) (nats_of l.records l.router)

abbrev pub decreases-loop-nat : goal.decreases-loop-nat
decreases-loop-nat l = length (these_after (λ x. x.id) (λ x. same l.router x.router) l.last l.records.nats)
