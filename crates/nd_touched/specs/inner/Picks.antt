-- The keys of touches, kind by kind.
use Rattle.std.specs.Prelude.{Option, None, Some}
use Rattle.nv_base.specs.declared.object.ObjId.{ObjId}
use Rattle.nb_store.specs.declared.step.Place.TheVariants as place
use Rattle.nb_store.specs.declared.step.Touch.{Touch}
use Rattle.nb_store.specs.declared.step.Touch.TheVariants.{Whole, Listed}

-- ---- the number of a record that came, went or changed

abbrev pub whole_switch : Touch → Option ObjId
whole_switch (Whole (place.Switch number)) = Some number
whole_switch _ = None

abbrev pub whole_port : Touch → Option ObjId
whole_port (Whole (place.Port number)) = Some number
whole_port _ = None

abbrev pub whole_router : Touch → Option ObjId
whole_router (Whole (place.Router number)) = Some number
whole_router _ = None

abbrev pub whole_router_port : Touch → Option ObjId
whole_router_port (Whole (place.RouterPort number)) = Some number
whole_router_port _ = None

abbrev pub whole_route : Touch → Option ObjId
whole_route (Whole (place.Route number)) = Some number
whole_route _ = None

abbrev pub whole_nat : Touch → Option ObjId
whole_nat (Whole (place.Nat number)) = Some number
whole_nat _ = None

abbrev pub whole_lb : Touch → Option ObjId
whole_lb (Whole (place.Lb number)) = Some number
whole_lb _ = None

abbrev pub whole_acl : Touch → Option ObjId
whole_acl (Whole (place.Acl number)) = Some number
whole_acl _ = None

abbrev pub whole_group : Touch → Option ObjId
whole_group (Whole (place.Group number)) = Some number
whole_group _ = None

abbrev pub whole_binding : Touch → Option ObjId
whole_binding (Whole (place.Binding number)) = Some number
whole_binding _ = None

-- ---- what lists a number that came or went, and that number

abbrev pub listed_on_switches : Touch → Option (ObjId × ObjId)
listed_on_switches (Listed (place.Switch owner) number) = Some (owner, number)
listed_on_switches _ = None

abbrev pub listed_on_routers : Touch → Option (ObjId × ObjId)
listed_on_routers (Listed (place.Router owner) number) = Some (owner, number)
listed_on_routers _ = None

abbrev pub listed_in_groups : Touch → Option (ObjId × ObjId)
listed_in_groups (Listed (place.Group owner) number) = Some (owner, number)
listed_in_groups _ = None
