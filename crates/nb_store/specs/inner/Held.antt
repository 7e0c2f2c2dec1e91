-- What a network holds at the number of an object.
use Rattle.std.specs.Prelude.{Bool, Option}
use Rattle.std.specs.Option.{option_map}
use Rattle.nb_model.specs.Network.{Network}
use Rattle.nv_table.specs.Swapped.{fits, swapped_out}
use Rattle.nv_table.specs.Table.{NumbersRise, record_of}
use Rattle.nb_records.specs.Longer.{switch_longer, router_longer, group_longer}
use Rattle.nb_store.specs.declared.step.LeanObject.{LeanObject}
use Rattle.nb_store.specs.declared.step.LeanObject.TheVariants as lean
use Rattle.nb_store.specs.declared.step.Object.{Object}
use Rattle.nb_store.specs.declared.step.Object.TheVariants as object
use Rattle.nb_store.specs.declared.step.Place.{Place}
use Rattle.nb_store.specs.declared.step.Place.TheVariants as place

-- the object of this kind and number
abbrev pub held : Place → Network → Option Object
held (place.Switch n) net = option_map object.Switch (record_of (λ x. x.id) n net.switches)
held (place.Port n) net = option_map object.Port (record_of (λ x. x.id) n net.ports)
held (place.Router n) net = option_map object.Router (record_of (λ x. x.id) n net.routers)
held (place.RouterPort n) net = option_map object.RouterPort (record_of (λ x. x.id) n net.router_ports)
held (place.Route n) net = option_map object.Route (record_of (λ x. x.id) n net.routes)
held (place.Nat n) net = option_map object.Nat (record_of (λ x. x.id) n net.nats)
held (place.Lb n) net = option_map object.Lb (record_of (λ x. x.id) n net.lbs)
held (place.Acl n) net = option_map object.Acl (record_of (λ x. x.id) n net.acls)
held (place.Set n) net = option_map object.Set (record_of (λ x. x.id) n net.sets)
held (place.Group n) net = option_map object.Group (record_of (λ x. x.id) n net.groups)
held (place.Binding n) net = option_map object.Binding (record_of (λ x. x.id) n net.bindings)

-- whether the record differs by its one number from the one of its number
abbrev pub is_fitting : LeanObject → Network → Bool
is_fitting (lean.Switch s) net = fits (λ x. x.id) switch_longer s net.switches
is_fitting (lean.Router s) net = fits (λ x. x.id) router_longer s net.routers
is_fitting (lean.Group s) net = fits (λ x. x.id) group_longer s net.groups

-- what swaps back
abbrev pub swaps_back : LeanObject → Network → Option LeanObject
swaps_back (lean.Switch s) net = option_map lean.Switch (swapped_out switch_longer s (record_of (λ x. x.id) s.0.id net.switches))
swaps_back (lean.Router s) net = option_map lean.Router (swapped_out router_longer s (record_of (λ x. x.id) s.0.id net.routers))
swaps_back (lean.Group s) net = option_map lean.Group (swapped_out group_longer s (record_of (λ x. x.id) s.0.id net.groups))

-- the numbers of its kind rise
abbrev pub RisesAt : Place → Network → Type 0
RisesAt (place.Switch n) net = NumbersRise (λ x. x.id) net.switches
RisesAt (place.Port n) net = NumbersRise (λ x. x.id) net.ports
RisesAt (place.Router n) net = NumbersRise (λ x. x.id) net.routers
RisesAt (place.RouterPort n) net = NumbersRise (λ x. x.id) net.router_ports
RisesAt (place.Route n) net = NumbersRise (λ x. x.id) net.routes
RisesAt (place.Nat n) net = NumbersRise (λ x. x.id) net.nats
RisesAt (place.Lb n) net = NumbersRise (λ x. x.id) net.lbs
RisesAt (place.Acl n) net = NumbersRise (λ x. x.id) net.acls
RisesAt (place.Set n) net = NumbersRise (λ x. x.id) net.sets
RisesAt (place.Group n) net = NumbersRise (λ x. x.id) net.groups
RisesAt (place.Binding n) net = NumbersRise (λ x. x.id) net.bindings
