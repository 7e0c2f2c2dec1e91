-- What undoing changes does to a network.
use Rattle.std.specs.Prelude.{ℕ, ◌-◌, Bool, true, false, if◌then◌else◌, List, [], ◌∷◌, Option, Some, None, slice_get}
use Rattle.nv_base.specs.declared.object.ObjId.{ObjId}
use Rattle.nb_model.specs.Belongs.{is_number}
use Rattle.nb_model.specs.Network.{Network}
use Rattle.nv_table.specs.Swapped.{Swap, with_swapped}
use Rattle.nv_table.specs.Table.{record_of, with_exchanged, without_number}
use Rattle.nb_records.specs.Longer.{switch_longer, router_longer, group_longer}
use Rattle.nb_store.specs.declared.step.LeanObject.{LeanObject}
use Rattle.nb_store.specs.declared.step.LeanObject.TheVariants as lean
use Rattle.nb_store.specs.declared.step.Object.{Object}
use Rattle.nb_store.specs.declared.step.Object.TheVariants as object
use Rattle.nb_store.specs.declared.step.Place.{Place}
use Rattle.nb_store.specs.declared.step.Place.TheVariants as place
use Rattle.nb_store.specs.declared.step.Step.{Step}
use Rattle.nb_store.specs.declared.step.Step.TheVariants.{Restore, Remove, Next}
use Rattle.nb_store.specs.declared.step.Step.TheVariants as step
use Rattle.nb_store.specs.declared.undo.Undo.{Undo}

-- the record in place of the one of its number
abbrev pub restored : Object → Network → Network
restored (object.Switch r) net = record net { switches = with_exchanged (λ x. x.id) r net.switches }
restored (object.Port r) net = record net { ports = with_exchanged (λ x. x.id) r net.ports }
restored (object.Router r) net = record net { routers = with_exchanged (λ x. x.id) r net.routers }
restored (object.RouterPort r) net = record net { router_ports = with_exchanged (λ x. x.id) r net.router_ports }
restored (object.Route r) net = record net { routes = with_exchanged (λ x. x.id) r net.routes }
restored (object.Nat r) net = record net { nats = with_exchanged (λ x. x.id) r net.nats }
restored (object.Lb r) net = record net { lbs = with_exchanged (λ x. x.id) r net.lbs }
restored (object.Acl r) net = record net { acls = with_exchanged (λ x. x.id) r net.acls }
restored (object.Set r) net = record net { sets = with_exchanged (λ x. x.id) r net.sets }
restored (object.Group r) net = record net { groups = with_exchanged (λ x. x.id) r net.groups }
restored (object.Binding r) net = record net { bindings = with_exchanged (λ x. x.id) r net.bindings }

-- the record in place of the one of its number, where the two differ by its one number
abbrev pub swapped : LeanObject → Network → Network
swapped (lean.Switch s) net = record net { switches = with_swapped (λ x. x.id) switch_longer s net.switches }
swapped (lean.Router s) net = record net { routers = with_swapped (λ x. x.id) router_longer s net.routers }
swapped (lean.Group s) net = record net { groups = with_swapped (λ x. x.id) group_longer s net.groups }

-- the number whose tag is at a place of a record, if it is there: the name's comes first
abbrev pub number_at : {R : Type 0} → (R → List ObjId) → ℕ → Option R → Option ObjId
number_at lists at None = None
number_at lists at (Some r) = slice_get (lists r) (at - 1)

-- the number that a record lists more than the one of its number, or that this one lists more
abbrev pub listed_more : {R : Type 0} → (R → List ObjId) → Swap R → Option R → Option ObjId
listed_more lists swap held = if swap.2 then number_at lists swap.1 (Some swap.0) else number_at lists swap.1 held

abbrev pub differing : LeanObject → Network → Option ObjId
differing (lean.Switch s) net = listed_more (λ x. x.lbs) s (record_of (λ x. x.id) s.0.id net.switches)
differing (lean.Router s) net = listed_more (λ x. x.lbs) s (record_of (λ x. x.id) s.0.id net.routers)
differing (lean.Group s) net = listed_more (λ x. x.ports) s (record_of (λ x. x.id) s.0.id net.groups)

-- without the record of the number
abbrev pub removed : Place → Network → Network
removed (place.Switch n) net = record net { switches = without_number (λ x. x.id) n net.switches }
removed (place.Port n) net = record net { ports = without_number (λ x. x.id) n net.ports }
removed (place.Router n) net = record net { routers = without_number (λ x. x.id) n net.routers }
removed (place.RouterPort n) net = record net { router_ports = without_number (λ x. x.id) n net.router_ports }
removed (place.Route n) net = record net { routes = without_number (λ x. x.id) n net.routes }
removed (place.Nat n) net = record net { nats = without_number (λ x. x.id) n net.nats }
removed (place.Lb n) net = record net { lbs = without_number (λ x. x.id) n net.lbs }
removed (place.Acl n) net = record net { acls = without_number (λ x. x.id) n net.acls }
removed (place.Set n) net = record net { sets = without_number (λ x. x.id) n net.sets }
removed (place.Group n) net = record net { groups = without_number (λ x. x.id) n net.groups }
removed (place.Binding n) net = record net { bindings = without_number (λ x. x.id) n net.bindings }

-- one change undone
abbrev pub undone : Step → Network → Network
undone (Restore r) net = restored r net
undone (step.Swap s number) net = if is_number (differing s net) number then swapped s net else net
undone (Remove n) net = removed n net
undone (Next n) net = record net { next = n }

-- changes undone, the last one first
abbrev pub back_steps : List Step → Network → Network
back_steps [] net = net
back_steps (last ∷ steps) net = undone last (back_steps steps net)

-- an edit undone
abbrev pub back : Undo → Network → Network
back undo net = back_steps undo.steps.items net

-- there are no changes
abbrev pub is_nothing : List Step → Bool
is_nothing [] = true
is_nothing (last ∷ steps) = false

-- an edit that changed nothing
abbrev pub changes_nothing : Undo → Bool
changes_nothing undo = is_nothing undo.steps.items
