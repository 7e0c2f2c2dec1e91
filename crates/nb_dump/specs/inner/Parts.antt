-- The parts of a dump, each by rising number.
use Rattle.std.specs.Prelude.{◌≡◌, ℕ, ◌<◌, List, [], None, map}
use Rattle.std.specs.List.{flat_map, range_with_len}
use Rattle.nv_base.specs.declared.object.ObjId.{ObjId}
use Rattle.nb_records.specs.declared.edit.Edit.{Edit}
use Rattle.nb_model.specs.Network.{Network}
use Rattle.nb_dump.specs.Edits.{object_edits, edits_for, members_edits, switch_lb_edits, router_lb_edits, switch_numbered, port_numbered, router_numbered, router_port_numbered, route_numbered, nat_numbered, lb_numbered, acl_numbered, set_numbered, group_numbered, binding_numbered}
use Rattle.nb_dump.specs.declared.parts.Part.{Part}
use Rattle.nb_dump.specs.declared.parts.Part.TheVariants as part

-- the number as an object's
abbrev pub object : ℕ → ObjId
object n = record { 0 = n }

-- the edits for the object of a number
abbrev pub edits_at : Part → Network → ObjId → List Edit
edits_at part.Objects net n = object_edits net n
edits_at part.Members net n = edits_for (members_edits net) (group_numbered net n)
edits_at part.SwitchLbs net n = edits_for (switch_lb_edits net) (switch_numbered net n)
edits_at part.RouterLbs net n = edits_for (router_lb_edits net) (router_numbered net n)

-- those of the first numbers
abbrev pub first_edits : (ObjId → List Edit) → ℕ → List Edit
first_edits edits count = flat_map edits (map object (range_with_len 1 count))

-- between two numbers there are no edits
abbrev pub AreNone : (ObjId → List Edit) → ℕ → ℕ → Type 0
AreNone edits low high = (n : ℕ) → low < n → n < high → edits (object n) ≡ []

-- no datapath and no port has the number
pub record IsNoDatapath (net : Network) (n : ObjId) : Type 0 where
  pub switches : switch_numbered net n ≡ None
  pub ports : port_numbered net n ≡ None
  pub routers : router_numbered net n ≡ None
  pub router_ports : router_port_numbered net n ≡ None

-- no route, NAT rule, load balancer or ACL has the number
pub record IsNoRule (net : Network) (n : ObjId) : Type 0 where
  pub routes : route_numbered net n ≡ None
  pub nats : nat_numbered net n ≡ None
  pub lbs : lb_numbered net n ≡ None
  pub acls : acl_numbered net n ≡ None

-- no set, group or binding has the number
pub record IsNotListed (net : Network) (n : ObjId) : Type 0 where
  pub sets : set_numbered net n ≡ None
  pub groups : group_numbered net n ≡ None
  pub bindings : binding_numbered net n ≡ None
