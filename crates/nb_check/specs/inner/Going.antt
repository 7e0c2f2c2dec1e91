-- The ports of switches, the ports of routers and the routers that an edit removes, and what is noted of them.
use Rattle.std.specs.Prelude.{◌≡◌, ℕ, ◌≤◌, ◌<◌, ◌++◌, nat_lt, if◌then◌else◌, true, false, List, [], ◌∷◌, map, filter, Option, Some, None}
use Rattle.std.specs.List.{flat_map}
use Rattle.nv_base.specs.declared.object.ObjId.{ObjId}
use Rattle.nb_records.specs.declared.edit.Edit.{Edit}
use Rattle.nb_records.specs.declared.edit.Edit.TheVariants as edit
use Rattle.nb_model.specs.Belongs.{is_among, is_number}
use Rattle.nb_model.specs.Network.{Network, port_id, router_id, router_port_id, switch_id}
use Rattle.nb_model.specs.Sound.{port_ids, router_ids, router_port_ids}
use Rattle.nb_check.specs.declared.changes.GoneObjects.{GoneObjects}

-- a number, if there is one
abbrev pub given : Option ObjId → List ObjId
given None = []
given (Some number) = number ∷ []

-- the numbers of the ports of the switch of a name
abbrev pub ports_of : Network → List ℕ → List ObjId
ports_of net name = map (λ port. port.id) (filter (λ port. is_number (switch_id net name) port.switch) net.ports)

-- the numbers of the ports of the router of a name
abbrev pub router_ports_of : Network → List ℕ → List ObjId
router_ports_of net name = map (λ port. port.id) (filter (λ port. is_number (router_id net name) port.router) net.router_ports)

-- the numbers of the ports of switches that an edit removes
abbrev pub removed_ports : Network → Edit → List ObjId
removed_ports net (edit.LsDel name may) = ports_of net name
removed_ports net (edit.LspDel name may) = given (port_id net name)
removed_ports net _ = []

-- the numbers of the ports of routers that an edit removes
abbrev pub removed_router_ports : Network → Edit → List ObjId
removed_router_ports net (edit.LrDel name may) = router_ports_of net name
removed_router_ports net (edit.LrpDel name may) = given (router_port_id net name)
removed_router_ports net _ = []

-- the number of the router that an edit removes
abbrev pub removed_routers : Network → Edit → List ObjId
removed_routers net (edit.LrDel name may) = given (router_id net name)
removed_routers net _ = []

-- a number, if it is below the first
abbrev pub below : ℕ → ObjId → List ObjId
below first number = if nat_lt number.0 first then number ∷ [] else []

-- nothing is noted
abbrev pub no_objects : GoneObjects
no_objects = record { ports = []; router_ports = []; routers = [] }

-- with those that an edit removes of which the numbers are below the first
abbrev pub with_removed : ℕ → Network → Edit → GoneObjects → GoneObjects
with_removed first net edit gone = record {
  ports = gone.ports ++ flat_map (below first) (removed_ports net edit);
  router_ports = gone.router_ports ++ flat_map (below first) (removed_router_ports net edit);
  routers = gone.routers ++ flat_map (below first) (removed_routers net edit);
}

-- These numbers are those of the objects of a kind that were there at the start and are no more there now. No object of the kind that
-- was not there at the start has a number below the next one of then.
pub record Since (ids : Network → List ObjId) (start now : Network) (gone : List ObjId) : Type 0 where
  pub later : start.next ≤ now.next
  pub old : (n : ObjId) → n.0 < start.next → is_among n (ids now) ≡ true → is_among n (ids start) ≡ true
  pub lost : (n : ObjId) → is_among n (ids start) ≡ true → is_among n (ids now) ≡ false → is_among n gone ≡ true
  pub were : (n : ObjId) → is_among n gone ≡ true → is_among n (ids start) ≡ true
  pub left : (n : ObjId) → is_among n gone ≡ true → is_among n (ids now) ≡ false

-- so for each of the three kinds
pub record AreSince (start now : Network) (gone : GoneObjects) : Type 0 where
  pub ports : Since port_ids start now gone.ports
  pub router_ports : Since router_port_ids start now gone.router_ports
  pub routers : Since router_ids start now gone.routers
