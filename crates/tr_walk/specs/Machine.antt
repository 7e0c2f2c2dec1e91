-- The walk of a packet through the network by its rows: each part is a pipeline of a datapath (ovn-architecture(7), 'Life Cycle of a
-- Packet'; ovn-trace(8)).
use Rattle.std.specs.Prelude.{ℕ, zero, ◌==◌, if◌then◌else◌, Option, Some, None}
use Rattle.nv_base.specs.declared.object.ObjId.{ObjId}
use Rattle.nv_base.specs.declared.field.Field.TheVariants.{Outport}
use Rattle.pkt_core.specs.Packet.{Values, value}
use Rattle.nb_model.specs.Network.{Network}
use Rattle.sb_model.specs.declared.stage.Pipeline.TheVariants.{Ingress, Egress}
use Rattle.net_meaning.specs.Places.{datapath_at}
use Rattle.net_meaning.specs.Switches.{open_ports, unknown_ports}
use Rattle.net_meaning.specs.Walk.{Target, Passed, Part, Parts, Walked, walk}
use Rattle.net_meaning.specs.Walk.Passed.{GoesOn, Drops, Makes}
use Rattle.net_meaning.specs.Walk.Target.{OnePort, Ports, Late}
use Rattle.net_meaning.specs.declared.answer.Answer.{Answer}
use Rattle.net_meaning.specs.declared.answer.Answer.TheVariants.{Reject, Arp}
use Rattle.ct_core.specs.State.{State}
use Rattle.tr_pipe.specs.Machine.{PipelineRun, run_pipeline}
use Rattle.tr_stage.specs.Machine.{kind_of}
use Rattle.tr_stage.specs.declared.outcome.Hit.{Hit}
use Rattle.tr_stage.specs.declared.outcome.Outcome.{Outcome}
use Rattle.tr_stage.specs.declared.outcome.Outcome.TheVariants.{Leave, Deliver, Made, Drop}
use Rattle.ls_laws.specs.Steps.{flows_at}
use Rattle.sb_model.specs.Stage.{last_table}
use Rattle.nv_base.specs.Object.{flood_number, unknown_number}

-- the port of this number
abbrev pub numbered : ℕ → ObjId
numbered number = record { 0 = number }

-- where a packet with this `outport` goes: by each port of a multicast group of the datapath, or by one port
abbrev pub target_of : Network → ObjId → ℕ → Target
target_of net dp number =
    if number == flood_number then Ports (open_ports net dp)
    else if number == unknown_number then Ports (unknown_ports net dp)
    else OnePort (numbered number)

-- the table of egress by which packets leave a datapath late: its last
abbrev pub late_table : Network → ObjId → ℕ
late_table net dp = last_table (kind_of (flows_at net dp))

-- a packet that leaves ingress goes to where its `outport` says; by the last table of egress alone, late by that port
abbrev pub sent_on : Network → ObjId → Values → ℕ → Option Passed
sent_on net dp packet zero = Some (GoesOn (target_of net dp (value packet Outport)) packet)
sent_on net dp packet table = if table == late_table net dp then Some (GoesOn (Late (numbered (value packet Outport))) packet) else None

-- the table of egress by which a packet that is made leaves: an ARP request by all of egress, as other packets do
abbrev pub table_of : Network → ObjId → Answer → ℕ
table_of net dp Reject = late_table net dp
table_of net dp Arp = 0

-- a packet that is made leaves by its `outport`
abbrev pub made : Network → ObjId → Values → ℕ → Answer → Option Passed
made net dp packet table answer = if table == table_of net dp answer then Some (Makes answer (numbered (value packet Outport)) packet) else None

-- what becomes of a packet after ingress
abbrev pub after_ingress : Network → ObjId → Option Outcome → Option Passed
after_ingress net dp (Some (Leave packet table)) = sent_on net dp packet table
after_ingress net dp (Some (Made packet table answer)) = made net dp packet table answer
after_ingress net dp (Some (Drop cause)) = Some (Drops cause)
after_ingress net dp _ = None

-- and after egress
abbrev pub after_egress : Network → ObjId → Option Outcome → Option Passed
after_egress net dp (Some (Deliver packet)) = Some (GoesOn (OnePort (numbered (value packet Outport))) packet)
after_egress net dp (Some (Made packet table answer)) = made net dp packet table answer
after_egress net dp (Some (Drop cause)) = Some (Drops cause)
after_egress net dp _ = None

-- a pipeline's run as a part of a walk
abbrev pub part_of : (Option Outcome → Option Passed) → PipelineRun → Part Hit State
part_of after run = record { notes = run.hits; passed = after run.outcome; state = run.state }

-- the pipelines of the datapath of a port, from a table of egress on
abbrev pub ingress : Network → ObjId → Values → State → Part Hit State
ingress net port packet state =
    part_of (after_ingress net (datapath_at net port)) (run_pipeline (flows_at net (datapath_at net port)) Ingress 0 packet state)

abbrev pub egress : Network → ℕ → ObjId → Values → State → Part Hit State
egress net table port packet state = part_of (after_egress net (datapath_at net port)) (run_pipeline (flows_at net (datapath_at net port)) Egress table packet state)

abbrev pub late_egress : Network → ObjId → Values → State → Part Hit State
late_egress net port packet state = egress net (late_table net (datapath_at net port)) port packet state

-- the pipelines of the network as the parts of a walk
abbrev pub pipelines : Network → Parts Hit State
pipelines net = record { arriving = ingress net; leaving = egress net 0; late = late_egress net }

-- what the rows do with a packet that comes in by a port and may take so many hops, from a state on
abbrev pub machine : Network → ℕ → ObjId → Values → State → Walked Hit State
machine net hops port packet state = walk net (pipelines net) hops port packet state
