use Rattle.std.proofs.Common.{◌≡◌, not, map, take}
use Rattle.std.specs.Prelude.{filter}
use Rattle.nb_router.specs.Vocabulary.{is_address}
use Rattle.nd_router.proofs.ports.free_addresses.Given as goal

-- the free addresses are those of the networks so far
abbrev pub invariant-loop-net : goal.invariant-loop-net
invariant-loop-net l = l.free ≡ filter (λ addr. not (is_address addr l.external)) (map (λ net. net.base) (take l.net-index l.nets))
