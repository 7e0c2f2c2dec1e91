-- Which records two networks have the same, where this was touched.
use Rattle.std.specs.Prelude.{◌≡◌, false, true, List}
use Rattle.nv_base.specs.declared.object.ObjId.{ObjId}
use Rattle.nb_model.specs.Network.{Network}
use Rattle.nb_store.specs.Touched.{AreAlikeBut, group_label, router_label, switch_label}
use Rattle.nv_table.specs.Table.{record_of}
use Rattle.inc_feed.specs.Feed.{has_key}
use Rattle.net_units.specs.Keys.{by_number, by_numbers}
use Rattle.nd_touched.specs.declared.touched.Touched.{Touched}

-- the number is none of these
abbrev pub IsNot : ObjId → List ObjId → Type 0
IsNot number touched = has_key by_number number touched ≡ false

-- in two lists of records of a kind the record of each number is the same, or none is in either, but for those that are touched
abbrev pub AgreeBut : {R : Type 0} → List ObjId → (R → ObjId) → List R → List R → Type 0
AgreeBut touched number old new = (n : ObjId) → IsNot n touched → record_of number n old ≡ record_of number n new

-- so the records of each number, but for those that are touched, and for the numbers that are touched of what they list
abbrev pub AgreeOnLists : {R S : Type 0} → List ObjId × List (ObjId × ObjId) → (R → ObjId) → (R → List ObjId) → (R → S) → List R → List R → Type 0
AgreeOnLists touched number lists rest old new =
    (n : ObjId) → IsNot n touched.0 → AreAlikeBut (λ k. has_key by_numbers (n, k) touched.1 ≡ true) lists rest (record_of number n old) (record_of number n new)

-- two networks have the same records, but for what is touched
pub record AreSameButFor (touched : Touched) (old new : Network) : Type 0 where
  pub switches : AgreeOnLists (touched.switches, touched.on_switches) (λ x. x.id) (λ x. x.lbs) switch_label old.switches new.switches
  pub ports : AgreeBut touched.ports (λ x. x.id) old.ports new.ports
  pub routers : AgreeOnLists (touched.routers, touched.on_routers) (λ x. x.id) (λ x. x.lbs) router_label old.routers new.routers
  pub router_ports : AgreeBut touched.router_ports (λ x. x.id) old.router_ports new.router_ports
  pub routes : AgreeBut touched.routes (λ x. x.id) old.routes new.routes
  pub nats : AgreeBut touched.nats (λ x. x.id) old.nats new.nats
  pub lbs : AgreeBut touched.lbs (λ x. x.id) old.lbs new.lbs
  pub acls : AgreeBut touched.acls (λ x. x.id) old.acls new.acls
  pub groups : AgreeOnLists (touched.groups, touched.in_groups) (λ x. x.id) (λ x. x.ports) group_label old.groups new.groups
  pub bindings : AgreeBut touched.bindings (λ x. x.id) old.bindings new.bindings
