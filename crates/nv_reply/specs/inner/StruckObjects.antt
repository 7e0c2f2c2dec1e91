-- A state from which objects are struck out one by one.
use Rattle.std.specs.Prelude.{List, [], ◌∷◌}
use Rattle.nv_base.specs.declared.object.ObjId.{ObjId}
use Rattle.ct_core.specs.Changes.{without_zone}
use Rattle.ct_core.specs.Neighbours.{without_port}
use Rattle.ct_core.specs.State.{State, with_conns}
use Rattle.ct_core.specs.declared.zone.Zone.TheVariants.{Port, Dnat, Snat}
use Rattle.ct_state.specs.Work.{with_nbrs}
use Rattle.nb_check.specs.declared.changes.GoneObjects.{GoneObjects}

-- without the connections of the zones of these ports of switches
abbrev pub struck_ports : List ObjId → State → State
struck_ports [] state = state
struck_ports (port ∷ ports) state = struck_ports ports (with_conns (without_zone (Port port) state.conns) state)

-- without the connections of both zones of these routers
abbrev pub struck_routers : List ObjId → State → State
struck_routers [] state = state
struck_routers (router ∷ routers) state = struck_routers routers (with_conns (without_zone (Snat router) (without_zone (Dnat router) state.conns)) state)

-- without what these ports of routers have learnt
abbrev pub struck_router_ports : List ObjId → State → State
struck_router_ports [] state = state
struck_router_ports (port ∷ ports) state = struck_router_ports ports (with_nbrs (without_port port state.nbrs) state)

-- all of them
abbrev pub struck_objects : GoneObjects → State → State
struck_objects gone state = struck_router_ports gone.router_ports (struck_routers gone.routers (struck_ports gone.ports state))
