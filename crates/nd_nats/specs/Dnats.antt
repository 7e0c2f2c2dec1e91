-- Which NAT rules change destinations.
use Rattle.std.specs.Prelude.{Bool, not, List}
use Rattle.nv_base.specs.declared.object.ObjId.{ObjId}
use Rattle.nb_records.specs.declared.router.Nat.{Nat}
use Rattle.nb_model.specs.Belongs.{is_snat}
use Rattle.nb_model.specs.Network.{Network}
use Rattle.nd_owners.specs.Owners.{with_owners}

-- a `dnat` or a `dnat_and_snat` rule
abbrev pub is_dnat : Nat → Bool
is_dnat nat = not (is_snat nat.kind)

-- these rules, each with its router
abbrev pub dnat_rules : Network → List (ObjId × ObjId)
dnat_rules net = with_owners (λ nat. nat.id) (λ nat. nat.router) is_dnat net.nats
