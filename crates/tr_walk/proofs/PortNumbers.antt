-- The ports of a network by their numbers, and those of a group on a switch.
use Rattle.std.proofs.Common.{◌≡◌, Bool, true, false, cond, ◌&&◌, List, [], ◌∷◌, map, sym, ap, refl, ◌∙◌}
use Rattle.std.specs.Prelude.{Option, Some, None, option_map, unwrap_or, filter}
use Rattle.std.specs.List.{flat_map}
use Rattle.nv_base.specs.declared.object.ObjId.{ObjId}
use Rattle.nb_records.specs.declared.router.RouterPort.{RouterPort}
use Rattle.nb_records.specs.declared.switch.Port.{Port}
use Rattle.nb_model.specs.Belongs.{peer_port}
use Rattle.nb_model.specs.Network.{Network, same}
use Rattle.nv_table.specs.Table.{has_number, record_of}
use Rattle.nb_store.specs.Places.{on_datapath, peer_by, peer_of_router_port}
use Rattle.nb_store.proofs.Found.{same_found, turned}
use Rattle.net_meaning.specs.Places.{datapath_at, peer_side, router_port, side_of, side_of_router_port, switch_port}
use Rattle.nb_model.specs.Ports.{takes_unknown}
use Rattle.tr_walk.specs.declared.ports.Group.{Group}
use Rattle.tr_walk.specs.declared.ports.Group.TheVariants.{Flood, Unknown}
use Rattle.tr_walk.specs.inner.Sides.{is_member, numbers_in, ports_of}

-- ---- by their numbers

pub switch_port_is : (net : Network) (number : ObjId) → switch_port net number ≡ record_of (λ (port : Port). port.id) number net.ports
switch_port_is net number = same_found (λ (port : Port). same port.id number) (has_number (λ (port : Port). port.id) number) (λ port. turned port.id.0 number.0) net.ports

router_port_is : (net : Network) (number : ObjId) → router_port net number ≡ record_of (λ (port : RouterPort). port.id) number net.router_ports
router_port_is net number = same_found (λ (port : RouterPort). same port.id number) (has_number (λ (port : RouterPort). port.id) number) (λ port. turned port.id.0 number.0) net.router_ports

pub datapath_is : (net : Network) (number : ObjId) → datapath_at net number ≡ unwrap_or (on_datapath net number) (record { 0 = 0 })
datapath_is net number = rw (switch_port_is net number, router_port_is net number) refl

-- the other side of the port of a router
pub side_of_router : (net : Network) (number : ObjId) → None ≡ record_of (λ (p : Port). p.id) number net.ports → side_of net number ≡ peer_side (peer_of_router_port net number)
side_of_router net number none = rw (switch_port_is net number ∙ sym none, router_port_is net number) (by (record_of (λ (p : RouterPort). p.id) number net.router_ports))
  where
    by : (at : Option RouterPort) → side_of_router_port net at ≡ peer_side (peer_by (λ port. option_map (λ peer. peer.id) (peer_port net port)) at)
    by None = refl
    by (Some port) = refl

-- ---- those of a group

-- the numbers of those of the switch's ports that pass a test
chosen : (switch : ObjId) (group : Group) (q : Port → Bool) → ((port : Port) → q port ≡ (same switch port.switch && is_member group port)) → (ports : List Port)
    → flat_map (numbers_in group) (filter (λ port. same switch port.switch) ports) ≡ map (λ port. port.id) (filter q ports)
chosen switch group q agree [] = refl
chosen switch group q agree (port ∷ ports) = rw (agree port) (by (same switch port.switch) (is_member group port) refl (chosen switch group q agree ports))
  where
    own : List Port
    own = filter (λ p. same switch p.switch) ports

    by : (a b : Bool) → is_member group port ≡ b → flat_map (numbers_in group) own ≡ map (λ p. p.id) (filter q ports)
        → flat_map (numbers_in group) (cond a (port ∷ own) own) ≡ map (λ p. p.id) (cond (a && b) (port ∷ filter q ports) (filter q ports))
    by true true is rest = rw is (ap (λ more. port.id ∷ more) rest)
    by true false is rest = rw is rest
    by false b is rest = rest

same_switch : (a b : ObjId) → same a b ≡ same b a
same_switch a b = turned a.0 b.0

and_assoc : (a b c : Bool) → ((a && b) && c) ≡ (a && (b && c))
and_assoc true b c = refl
and_assoc false b c = refl

pub members : (net : Network) (switch : ObjId) (group : Group) → flat_map (numbers_in group) (filter (λ (port : Port). same switch port.switch) net.ports) ≡ ports_of net switch group
members net switch Flood =
    chosen switch Flood (λ port. same port.switch switch && port.enabled) (λ port. ap (λ b. b && port.enabled) (same_switch port.switch switch)) net.ports
members net switch Unknown =
    chosen switch Unknown (λ port. (same port.switch switch && port.enabled) && takes_unknown port)
    (λ port. ap (λ b. (b && port.enabled) && takes_unknown port) (same_switch port.switch switch) ∙ and_assoc (same switch port.switch) port.enabled (takes_unknown port)) net.ports
