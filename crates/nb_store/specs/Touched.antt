-- Which objects an edit changed.
use Rattle.std.specs.Prelude.{◌≡◌, ⊤, ℕ, List, Contains, Option, None, Some}
use Rattle.std.specs.List.{filter_map}
use Rattle.std.specs.List.Sorted.{IsStrictlySortedBy}
use Rattle.nv_base.specs.declared.object.ObjId.{ObjId}
use Rattle.nb_records.specs.declared.router.Router.{Router}
use Rattle.nb_records.specs.declared.sets.Group.{Group}
use Rattle.nb_records.specs.declared.switch.Switch.{Switch}
use Rattle.nb_model.specs.Belongs.{is_among}
use Rattle.nb_model.specs.Network.{Network}
use Rattle.nv_table.specs.Table.{record_of}
use Rattle.nb_store.specs.contracts.step.TouchOrd.TheImpl as touch_ord
use Rattle.nb_store.specs.declared.step.LeanObject.{LeanObject}
use Rattle.nb_store.specs.declared.step.LeanObject.TheVariants as lean
use Rattle.nb_store.specs.declared.step.Object.{Object}
use Rattle.nb_store.specs.declared.step.Object.TheVariants as object
use Rattle.nb_store.specs.declared.step.Place.{Place}
use Rattle.nb_store.specs.declared.step.Place.TheVariants as place
use Rattle.nb_store.specs.declared.step.Step.{Step}
use Rattle.nb_store.specs.declared.step.Step.TheVariants.{Restore, Swap, Remove, Next}
use Rattle.nb_store.specs.declared.step.Touch.{Touch}
use Rattle.nb_store.specs.declared.step.Touch.TheVariants.{Whole, Listed}
use Rattle.nb_store.specs.declared.undo.Undo.{Undo}

-- the kind of an object, and its number
abbrev pub place_of : Object → Place
place_of (object.Switch r) = place.Switch r.id
place_of (object.Port r) = place.Port r.id
place_of (object.Router r) = place.Router r.id
place_of (object.RouterPort r) = place.RouterPort r.id
place_of (object.Route r) = place.Route r.id
place_of (object.Nat r) = place.Nat r.id
place_of (object.Lb r) = place.Lb r.id
place_of (object.Acl r) = place.Acl r.id
place_of (object.Set r) = place.Set r.id
place_of (object.Group r) = place.Group r.id
place_of (object.Binding r) = place.Binding r.id

abbrev pub place_of_lean : LeanObject → Place
place_of_lean (lean.Switch s) = place.Switch s.0.id
place_of_lean (lean.Router s) = place.Router s.0.id
place_of_lean (lean.Group s) = place.Group s.0.id

-- what undoing a change touches: a record; or what it lists, where it swaps a record for one that differs by a number
abbrev pub touched_by : Step → Option Touch
touched_by (Restore r) = Some (Whole (place_of r))
touched_by (Swap s number) = Some (Listed (place_of_lean s) number)
touched_by (Remove place) = Some (Whole place)
touched_by (Next n) = None

-- what an edit's changes touch, in their order
abbrev pub touched : Undo → List Touch
touched undo = filter_map touched_by undo.steps.items

-- in two lists of records of a kind the record of each number is the same, or none is in either, but for those that are touched as a whole
abbrev pub AgreeBut : {R : Type 0} → List Touch → (ObjId → Place) → (R → ObjId) → List R → List R → Type 0
AgreeBut touches at number old new = (n : ObjId) → (Contains touches (Whole (at n)) → ⊥) → record_of number n old ≡ record_of number n new

-- of two records that list numbers, if they are there, both list each number but those that moved, or neither does, and all else is the same
abbrev pub AreAlikeBut : {R S : Type 0} → (ObjId → Type 0) → (R → List ObjId) → (R → S) → Option R → Option R → Type 0
AreAlikeBut moved lists rest None None = ⊤
AreAlikeBut moved lists rest (Some a) (Some b) = (rest a ≡ rest b) × ((n : ObjId) → (moved n → ⊥) → is_among n (lists a) ≡ is_among n (lists b))
AreAlikeBut moved lists rest _ _ = ⊥

-- so the records of each number, but for those that are touched as a whole, and for the numbers that are touched of what they list
abbrev pub AgreeOnLists : {R S : Type 0} → List Touch → (ObjId → Place) → (R → ObjId) → (R → List ObjId) → (R → S) → List R → List R → Type 0
AgreeOnLists touches at number lists rest old new =
    (n : ObjId) → (Contains touches (Whole (at n)) → ⊥) → AreAlikeBut (λ k. Contains touches (Listed (at n) k)) lists rest (record_of number n old) (record_of number n new)

-- what a record has beside what it lists: its number and its name
abbrev pub switch_label : Switch → ObjId × List ℕ
switch_label switch = (switch.id, switch.name)

abbrev pub router_label : Router → ObjId × List ℕ
router_label router = (router.id, router.name)

abbrev pub group_label : Group → ObjId × List ℕ
group_label group = (group.id, group.name)

-- two networks have the same records, but for what is touched
pub record AreSameBut (touches : List Touch) (old new : Network) : Type 0 where
  pub switches : AgreeOnLists touches place.Switch (λ x. x.id) (λ x. x.lbs) switch_label old.switches new.switches
  pub ports : AgreeBut touches place.Port (λ x. x.id) old.ports new.ports
  pub routers : AgreeOnLists touches place.Router (λ x. x.id) (λ x. x.lbs) router_label old.routers new.routers
  pub router_ports : AgreeBut touches place.RouterPort (λ x. x.id) old.router_ports new.router_ports
  pub routes : AgreeBut touches place.Route (λ x. x.id) old.routes new.routes
  pub nats : AgreeBut touches place.Nat (λ x. x.id) old.nats new.nats
  pub lbs : AgreeBut touches place.Lb (λ x. x.id) old.lbs new.lbs
  pub acls : AgreeBut touches place.Acl (λ x. x.id) old.acls new.acls
  pub sets : AgreeBut touches place.Set (λ x. x.id) old.sets new.sets
  pub groups : AgreeOnLists touches place.Group (λ x. x.id) (λ x. x.ports) group_label old.groups new.groups
  pub bindings : AgreeBut touches place.Binding (λ x. x.id) old.bindings new.bindings

-- touches in their order, each once
abbrev pub TouchesRise : List Touch → Type 0
TouchesRise touches = IsStrictlySortedBy (touch_ord.ghosts).cmp touches
