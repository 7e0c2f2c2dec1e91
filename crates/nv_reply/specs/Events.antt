-- How the events of a trace are written.
use Rattle.std.specs.Prelude.{ℕ, List, [], ◌++◌, option_map, unwrap_or, codes, decimal}
use Rattle.std.specs.List.{flat_map}
use Rattle.nv_base.specs.declared.object.ObjId.{ObjId}
use Rattle.pkt_core.specs.Text.{packet_text}
use Rattle.nb_model.specs.Belongs.{either}
use Rattle.nb_model.specs.Network.{Network}
use Rattle.nv_table.specs.Table.{record_of}
use Rattle.sb_model.specs.Stage.{stage_name}
use Rattle.net_meaning.specs.Cause.{cause_name}
use Rattle.tr_walk.specs.declared.event.Event.{Event}
use Rattle.tr_walk.specs.declared.event.Event.TheVariants.{Hit, Output, Drop, Reject, HopLimit}

-- the name of the switch or the router of this number, or nothing where there is none
abbrev pub datapath_name : Network → ObjId → List ℕ
datapath_name net number =
    unwrap_or (either (option_map (λ switch. switch.name) (record_of (λ switch. switch.id) number net.switches)) (option_map (λ router. router.name) (record_of (λ router. router.id) number net.routers))) []

-- the name of the port of this number, of a switch or of a router, or nothing where there is none
abbrev pub port_name : Network → ObjId → List ℕ
port_name net number =
    unwrap_or (either (option_map (λ port. port.name) (record_of (λ port. port.id) number net.ports)) (option_map (λ port. port.name) (record_of (λ port. port.id) number net.router_ports))) []

-- an event's line
abbrev pub event_line : Network → Event → List ℕ
event_line net (Hit hit) =
    codes "hit " ++ datapath_name net hit.dp ++ codes " " ++ stage_name hit.stage ++ codes " " ++ decimal hit.priority ++ codes " " ++ decimal hit.hint.0 ++ codes "\n"
event_line net (Output port packet) = codes "output " ++ port_name net port ++ codes " " ++ packet_text packet ++ codes "\n"
event_line net (Drop dp cause) = codes "drop " ++ datapath_name net dp ++ codes " " ++ cause_name cause ++ codes "\n"
event_line net (Reject port) = codes "reject " ++ port_name net port ++ codes "\n"
event_line net (HopLimit port) = codes "hop-limit " ++ port_name net port ++ codes "\n"

-- the lines of events
abbrev pub event_lines : Network → List Event → List ℕ
event_lines net events = flat_map (event_line net) events
