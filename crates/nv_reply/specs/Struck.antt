-- What of the state goes with the objects that a line removes (this profile's own): what is removed and made again has a new number.
use Rattle.std.specs.Prelude.{Bool, not, List, filter}
use Rattle.ct_core.specs.declared.zone.Zone.{Zone}
use Rattle.ct_core.specs.declared.zone.Zone.TheVariants.{Port, Dnat, Snat}
use Rattle.ct_core.specs.State.{State}
use Rattle.nb_model.specs.Network.{Network}
use Rattle.nb_model.specs.Sound.{port_ids, router_ids, router_port_ids}
use Rattle.nb_check.specs.Gone.{is_gone}

-- the object that a zone is of was there, and is no more
abbrev pub is_zone_gone : Network → Network → Zone → Bool
is_zone_gone old new (Port number) = is_gone (port_ids old) (port_ids new) number
is_zone_gone old new (Dnat number) = is_gone (router_ids old) (router_ids new) number
is_zone_gone old new (Snat number) = is_gone (router_ids old) (router_ids new) number

-- without the connections of zones that are gone, and what ports of routers that are gone have learnt
abbrev pub struck : Network → Network → State → State
struck old new state = record {
  conns = filter (λ entry. not (is_zone_gone old new entry.zone)) state.conns;
  nbrs = filter (λ neighbour. not (is_gone (router_port_ids old) (router_port_ids new) neighbour.port)) state.nbrs;
}
