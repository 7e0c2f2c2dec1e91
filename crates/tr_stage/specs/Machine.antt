-- What the rows of a stage do with a packet of which they ask for no connection (ovn-sb(5), 'Logical_Flow TABLE'; ovn-architecture(7)).
use Rattle.std.specs.Prelude.{ℕ, ◌-◌, true, ◌&&◌, List, [], ◌∷◌, Option, Some, None, option_map, if◌then◌else◌}
use Rattle.std.specs.Str.{bytes_eq}
use Rattle.nv_base.specs.declared.object.ObjId.{ObjId}
use Rattle.nv_base.specs.declared.field.Field.TheVariants.{Outport, EthSrc, EthDst, EthType, IpTtl, ArpSha}
use Rattle.nv_base.specs.declared.field.Prerequisite.TheVariants.{Tcp}
use Rattle.pkt_core.specs.Packet.{Values, value, with_value, with_values, exchanged, workings}
use Rattle.pkt_core.specs.Prerequisite.{meets}
use Rattle.pkt_core.specs.Replies.{is_answerable, reset, icmp_error}
use Rattle.pkt_core.specs.declared.replies.IcmpReason.TheVariants.{PortUnreachable}
use Rattle.expr_core.specs.Lookup.{Lookup}
use Rattle.act_core.specs.declared.action.Action.{Action}
use Rattle.act_core.specs.declared.action.Action.TheVariants as action
use Rattle.act_core.specs.declared.step.Step.{Step}
use Rattle.act_core.specs.declared.step.Step.TheVariants.{Next, Jump, Output, Drop, Set, Copy, SetOutport, Exchange, DecTtl}
use Rattle.sb_model.specs.declared.stage.Stage.{Stage}
use Rattle.sb_model.specs.declared.stage.Stage.TheVariants.{LsInCheckPortSec, LsInAclEval, LsInL2Unknown, LsOutAclEval, LsOutCheckPortSec, LrInAdmission, LrInIpInput, LrInIpRouting, LrOutDelivery}
use Rattle.sb_model.specs.declared.stage.DatapathKind.{DatapathKind}
use Rattle.sb_model.specs.declared.stage.DatapathKind.TheVariants.{Switch, Router}
use Rattle.sb_model.specs.declared.stage.Pipeline.{Pipeline}
use Rattle.sb_model.specs.declared.stage.Pipeline.TheVariants.{Ingress, Egress}
use Rattle.sb_model.specs.declared.row.Row.{Row}
use Rattle.sb_model.specs.Stage.{pipeline_of, next_stage}
use Rattle.sb_rows.specs.Match.{select}
use Rattle.net_meaning.specs.declared.answer.Answer.{Answer}
use Rattle.net_meaning.specs.declared.answer.Answer.TheVariants.{Reject, Arp}
use Rattle.net_meaning.specs.declared.cause.Cause.{Cause}
use Rattle.net_meaning.specs.declared.cause.Cause.TheVariants.{PortSec, Acl, Unknown, Admission, IpInput, NoRoute, Delivery}
use Rattle.tr_stage.specs.declared.outcome.Hit.{Hit}
use Rattle.tr_stage.specs.declared.outcome.Outcome.{Outcome}
use Rattle.tr_stage.specs.declared.outcome.Outcome.TheVariants as outcomes
use Rattle.tr_stage.specs.Part.{with_part}
use Rattle.nv_base.specs.Object.{flood_number, unknown_number}
use Rattle.nv_base.specs.Name.{flood_group, unknown_group}

-- a datapath, the rows that its pipelines go by, and what the names in these mean
pub record Flows : Type 0 where
  pub rows : List Row
  pub net : Lookup
  pub dp : ObjId

abbrev pub flows_of : List Row → Lookup → ObjId → Flows
flows_of rows net dp = record { rows = rows; net = net; dp = dp }

-- why a packet is dropped in the stage, if it may be
abbrev pub cause_at : Stage → Option Cause
cause_at LsInCheckPortSec = Some PortSec
cause_at LsInAclEval = Some Acl
cause_at LsInL2Unknown = Some Unknown
cause_at LsOutAclEval = Some Acl
cause_at LsOutCheckPortSec = Some PortSec
cause_at LrInAdmission = Some Admission
cause_at LrInIpInput = Some IpInput
cause_at LrInIpRouting = Some NoRoute
cause_at LrOutDelivery = Some Delivery
cause_at _ = None

-- what `outport` becomes for a name: the number of the multicast group, each port or each port for unknown addresses, or of the port
abbrev pub number_of : Lookup → List ℕ → Option ℕ
number_of net name =
    if bytes_eq name flood_group then Some flood_number
    else if bytes_eq name unknown_group then Some unknown_number
    else option_map (λ port. port.0) (net.port name)

-- what becomes of a packet that goes out: from ingress to table 0 of egress, from egress to its port
abbrev pub sent : Pipeline → Values → Outcome
sent Ingress packet = outcomes.Leave packet 0
sent Egress packet = outcomes.Deliver packet

-- How a packet's step through a stage ends: it goes on at a stage, or it comes to the end of the pipeline. There is no outcome
-- where no row takes it, or where a row says what has no meaning in its stage.
pub data StageEnd : Type 0 where
  On : Stage → Values → StageEnd
  Ends : Option Outcome → StageEnd

-- on to the stage, if there is one
abbrev pub on_to : Option Stage → Values → StageEnd
on_to (Some stage) packet = On stage packet
on_to None packet = Ends None

-- a packet goes to a table of egress, from ingress
abbrev pub left_for : Pipeline → ℕ → Values → StageEnd
left_for Ingress table packet = Ends (Some (outcomes.Leave packet table))
left_for Egress table packet = Ends None

-- what an action does: it changes the packet, or it ends the step
pub data Effect : Type 0 where
  Changed : Values → Effect
  Done : StageEnd → Effect

-- the packet, to go out by the port or the group of this number, if there is one
abbrev pub bound_for : Option ℕ → Values → Effect
bound_for (Some number) packet = Changed (with_value packet Outport number)
bound_for None packet = Done (Ends None)

-- what an action of a row in a stage does to a packet (ovn-sb(5), actions)
abbrev pub effect : Lookup → Stage → Step → Values → Effect
effect net stage Next packet = Done (on_to (next_stage stage) packet)
effect net stage (Jump true table) packet = Done (left_for (pipeline_of stage) table packet)
effect net stage Output packet = Done (Ends (Some (sent (pipeline_of stage) packet)))
effect net stage Drop packet = Done (Ends (option_map outcomes.Drop (cause_at stage)))
effect net stage (Set field bits constant) packet = Changed (with_part packet field bits constant.value)
effect net stage (Copy field bits from) packet = Changed (with_part packet field bits (value packet from))
effect net stage (SetOutport name) packet = bound_for (number_of net name) packet
effect net stage (Exchange one other) packet = Changed (exchanged packet one other)
effect net stage DecTtl packet = Changed (with_value packet IpTtl (value packet IpTtl - 1))
effect net stage _ packet = Done (Ends None)

-- after an action: the others follow with the changed packet, or none does
abbrev pub after : Effect → (Values → StageEnd) → StageEnd
after (Changed packet) others = others packet
after (Done ending) others = ending

-- in a block only changes have others after them
abbrev pub after_change : Effect → (Values → StageEnd) → StageEnd
after_change (Changed packet) others = others packet
after_change (Done ending) others = Ends None

-- a packet that is made goes out of the first table of egress, from ingress
abbrev pub made_for : Pipeline → Answer → Values → StageEnd
made_for Ingress answer packet = Ends (Some (outcomes.Made packet 0 answer))
made_for Egress answer packet = Ends None

-- a block's last action: the packet that is made goes out of a table of egress
abbrev pub end_block : Stage → Answer → Step → Values → StageEnd
end_block stage answer (Jump true table) packet = Ends (Some (outcomes.Made packet table answer))
end_block stage answer Output packet = made_for (pipeline_of stage) answer packet
end_block stage answer _ packet = Ends None

-- what a block does to the packet that is made: changes, and then the last action
abbrev pub run_block : Lookup → Stage → Answer → List Step → Values → StageEnd
run_block net stage answer [] packet = Ends None
run_block net stage answer (last ∷ []) packet = end_block stage answer last packet
run_block net stage answer (step ∷ others) packet = after_change (effect net stage step packet) (run_block net stage answer others)

-- the reset that answers a packet, and the ICMP error, where it may be answered; a rejected packet is answered by the first if it is TCP
abbrev pub reset_for : Values → Option Values
reset_for packet = if is_answerable packet && meets packet Tcp then Some (reset packet) else None

abbrev pub error_for : Values → Option Values
error_for packet = if is_answerable packet then Some (icmp_error packet PortUnreachable) else None

abbrev pub answer_for : Values → Option Values
answer_for packet = if meets packet Tcp then reset_for packet else error_for packet

-- the ARP packet that takes the place of a packet: from and to its Ethernet addresses, and all else zero, but the working fields stay
abbrev pub arp_for : Values → Values
arp_for packet = with_values (workings packet) ((EthSrc, value packet EthSrc) ∷ (EthDst, value packet EthDst) ∷ (EthType, 0x806) ∷ (ArpSha, value packet EthSrc) ∷ [])

-- the block runs on the packet that answers; one that may not be answered is dropped
abbrev pub answered : Lookup → Stage → List Step → Option Values → StageEnd
answered net stage block (Some packet) = run_block net stage Reject block packet
answered net stage block None = Ends (option_map outcomes.Drop (cause_at stage))

-- what actions do, one after the other; nothing follows a block
abbrev pub run_actions : Lookup → Stage → List Action → Values → StageEnd
run_actions net stage [] packet = Ends None
run_actions net stage (action.Step step ∷ others) packet = after (effect net stage step packet) (run_actions net stage others)
run_actions net stage (action.TcpReset block ∷ []) packet = answered net stage block (reset_for packet)
run_actions net stage (action.Icmp4 block ∷ []) packet = answered net stage block (error_for packet)
run_actions net stage (action.Reject block ∷ []) packet = answered net stage block (answer_for packet)
run_actions net stage (action.Arp block ∷ []) packet = run_block net stage Arp block (arp_for packet)
run_actions net stage (_ ∷ others) packet = Ends None

-- the row that acts on a packet in a stage
abbrev pub acting : Flows → Stage → Values → Option Row
acting flows stage packet = select flows.dp stage flows.net packet flows.rows

-- what a row does
abbrev pub acted : Lookup → Stage → Values → Option Row → StageEnd
acted net stage packet (Some row) = run_actions net stage row.actions packet
acted net stage packet None = Ends None

-- a packet's step through a stage
unfoldable pub step : Flows → Stage → Values → StageEnd
step flows stage packet = acted flows.net stage packet (acting flows stage packet)

-- the hit of a row that acts
abbrev pub hit_of : ObjId → Stage → Option Row → List Hit
hit_of dp stage (Some row) = record { dp = dp; stage = stage; priority = row.priority; hint = row.hint } ∷ []
hit_of dp stage None = []

-- what is told of the row that acts on a packet in a stage
unfoldable pub hit_at : Flows → Stage → Values → List Hit
hit_at flows stage packet = hit_of flows.dp stage (acting flows stage packet)

-- how many steps a packet may take in one pipeline
abbrev pub step_budget : ℕ
step_budget = 128

-- what the datapath is
abbrev pub kind_of : Flows → DatapathKind
kind_of flows = if flows.net.is_switch flows.dp then Switch else Router
