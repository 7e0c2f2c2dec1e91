-- The network: the records of the northbound database, each kind by rising number, and the number that the next object gets
-- (ovn-nb(5)).
use Rattle.std.specs.Prelude.{ℕ, Bool, ◌==◌, List, [], Option, option_map}
use Rattle.std.specs.List.{find}
use Rattle.std.specs.Str.{bytes_eq}
use Rattle.nv_base.specs.declared.object.ObjId.{ObjId}
pub use Rattle.nb_records.specs.declared.acl.Acl.{Acl}
pub use Rattle.nb_records.specs.declared.balancer.Lb.{Lb}
pub use Rattle.nb_records.specs.declared.router.Binding.{Binding}
pub use Rattle.nb_records.specs.declared.router.Nat.{Nat}
pub use Rattle.nb_records.specs.declared.router.Route.{Route}
pub use Rattle.nb_records.specs.declared.router.Router.{Router}
pub use Rattle.nb_records.specs.declared.router.RouterPort.{RouterPort}
pub use Rattle.nb_records.specs.declared.sets.AddrSet.{AddrSet}
pub use Rattle.nb_records.specs.declared.sets.Group.{Group}
pub use Rattle.nb_records.specs.declared.switch.Port.{Port}
pub use Rattle.nb_records.specs.declared.switch.Switch.{Switch}

pub record Network : Type 0 where
  pub switches : List Switch
  pub ports : List Port
  pub routers : List Router
  pub router_ports : List RouterPort
  pub routes : List Route
  pub nats : List Nat
  pub lbs : List Lb
  pub acls : List Acl
  pub sets : List AddrSet
  pub groups : List Group
  pub bindings : List Binding
  pub next : ℕ

-- the network before the first line: numbers begin at 1
abbrev pub empty_network : Network
empty_network = record {
  switches = [];
  ports = [];
  routers = [];
  router_ports = [];
  routes = [];
  nats = [];
  lbs = [];
  acls = [];
  sets = [];
  groups = [];
  bindings = [];
  next = 1;
}

-- the number that the next object gets
abbrev pub next_number : Network → ObjId
next_number net = record { 0 = net.next }

-- two numbers are one
abbrev pub same : ObjId → ObjId → Bool
same a b = a.0 == b.0

-- the object of this name
abbrev pub switch_named : Network → List ℕ → Option Switch
switch_named net name = find (λ switch. bytes_eq switch.name name) net.switches

abbrev pub router_named : Network → List ℕ → Option Router
router_named net name = find (λ router. bytes_eq router.name name) net.routers

abbrev pub port_named : Network → List ℕ → Option Port
port_named net name = find (λ port. bytes_eq port.name name) net.ports

abbrev pub router_port_named : Network → List ℕ → Option RouterPort
router_port_named net name = find (λ port. bytes_eq port.name name) net.router_ports

abbrev pub lb_named : Network → List ℕ → Option Lb
lb_named net name = find (λ lb. bytes_eq lb.name name) net.lbs

abbrev pub set_named : Network → List ℕ → Option AddrSet
set_named net name = find (λ set. bytes_eq set.name name) net.sets

abbrev pub group_named : Network → List ℕ → Option Group
group_named net name = find (λ group. bytes_eq group.name name) net.groups

-- the number of the object of this name
abbrev pub switch_id : Network → List ℕ → Option ObjId
switch_id net name = option_map (λ switch. switch.id) (switch_named net name)

abbrev pub router_id : Network → List ℕ → Option ObjId
router_id net name = option_map (λ router. router.id) (router_named net name)

abbrev pub port_id : Network → List ℕ → Option ObjId
port_id net name = option_map (λ port. port.id) (port_named net name)

abbrev pub router_port_id : Network → List ℕ → Option ObjId
router_port_id net name = option_map (λ port. port.id) (router_port_named net name)

abbrev pub lb_id : Network → List ℕ → Option ObjId
lb_id net name = option_map (λ lb. lb.id) (lb_named net name)

abbrev pub group_id : Network → List ℕ → Option ObjId
group_id net name = option_map (λ group. group.id) (group_named net name)
