-- What a packet's step through the stages of ACLs, of load balancers and of connections does on a switch that tracks connections, said of the
-- network's objects and of the connections: the stage laws, each of both directions but that of load balancers, which are asked on arriving.
use Rattle.std.specs.Prelude.{◌≡◌, ℕ, Bool, true, false, ◌==◌, if◌then◌else◌, Option, Some}
use Rattle.std.specs.Option.{option_map_or}
use Rattle.nv_base.specs.declared.field.Field.{Field}
use Rattle.nv_base.specs.declared.field.Field.TheVariants.{Inport, Outport, CtState, CtMarkBlocked, Reg0}
use Rattle.nv_base.specs.declared.object.ObjId.{ObjId}
use Rattle.pkt_core.specs.declared.tuple.Tuple.{Tuple}
use Rattle.pkt_core.specs.Packet.{Values, value}
use Rattle.pkt_core.specs.Prerequisite.{is_ip4}
use Rattle.ct_core.specs.declared.look.Look.{Look}
use Rattle.ct_core.specs.declared.look.Look.TheVariants.{Invalid, New, Found}
use Rattle.ct_core.specs.declared.look.Side.TheVariants.{Orig}
use Rattle.ct_core.specs.Changes.{marked}
use Rattle.ct_core.specs.Look.{flags_of, is_marked}
use Rattle.ct_core.specs.State.{with_conns}
use Rattle.ct_core.specs.Translation.{followed}
use Rattle.ct_core.specs.declared.zone.Zone.{Zone}
use Rattle.expr_core.specs.Width.{bits_of}
use Rattle.expr_core.specs.declared.part.Bits.TheVariants.{Bit}
use Rattle.nb_records.specs.declared.acl.Acl.{Acl}
use Rattle.nb_records.specs.declared.acl.Way.{Way}
use Rattle.nb_records.specs.declared.acl.Way.TheVariants.{From, To}
use Rattle.nb_records.specs.declared.switch.Port.{Port}
use Rattle.nb_records.specs.declared.switch.Switch.{Switch}
use Rattle.nb_model.specs.Applies.{balances, lbs_on, tracks}
use Rattle.nb_model.specs.Network.{Network}
use Rattle.sb_model.specs.declared.stage.Pipeline.{Pipeline}
use Rattle.sb_model.specs.declared.stage.Pipeline.TheVariants.{Ingress, Egress}
use Rattle.sb_model.specs.declared.stage.Stage.{Stage}
use Rattle.sb_model.specs.declared.stage.Stage.TheVariants.{LsInPreAcl, LsInPreStateful, LsInAclEval, LsInLb, LsInStateful, LsInArpRsp, LsOutPreAcl, LsOutPreStateful, LsOutAclEval, LsOutStateful, LsOutCheckPortSec}
use Rattle.net_meaning.specs.AclVerdict.{Decision, deciding, decided_by}
use Rattle.net_meaning.specs.AclVerdict.Decision.{Allowed}
use Rattle.net_meaning.specs.Balancing.{balanced_tuple}
use Rattle.net_meaning.specs.Tracked.{is_to_keep, is_tracked}
use Rattle.net_meaning.specs.declared.cause.Cause.TheVariants.{Acl as acl_cause}
use Rattle.tr_stage.specs.Part.{with_part}
use Rattle.tr_stage.specs.declared.outcome.Outcome.TheVariants.{Drop}
use Rattle.tr_pipe.specs.Machine.{StageEnd, after, bound, ended, kept, step}
use Rattle.tr_pipe.specs.Machine.StageEnd.{On, Ends}
use Rattle.tr_pipe.specs.Tracking.{Flight, bit, committed, tracked, with_packet, zone_of}
use Rattle.tr_pipe.specs.Translating.{tracked_by}
use Rattle.ls_laws.specs.Steps.{IsOn, IsPortOf, decided, flows_at}

-- ---- the stages of a direction

abbrev pub pipeline_for : Way → Pipeline
pipeline_for From = Ingress
pipeline_for To = Egress

-- the field that has the number of a packet's port
abbrev pub port_field : Way → Field
port_field From = Inport
port_field To = Outport

-- where it is asked which packets are to be tracked, and where these are looked up
abbrev pub pre_acl : Way → Stage
pre_acl From = LsInPreAcl
pre_acl To = LsOutPreAcl

abbrev pub pre_stateful : Way → Stage
pre_stateful From = LsInPreStateful
pre_stateful To = LsOutPreStateful

-- where ACLs decide, and the stage after it
abbrev pub acl_eval : Way → Stage
acl_eval From = LsInAclEval
acl_eval To = LsOutAclEval

abbrev pub after_acls : Way → Stage
after_acls From = LsInLb
after_acls To = LsOutStateful

-- where connections are recorded, and the stage after it
abbrev pub stateful : Way → Stage
stateful From = LsInStateful
stateful To = LsOutStateful

abbrev pub after_stateful : Way → Stage
after_stateful From = LsInArpRsp
after_stateful To = LsOutCheckPortSec

-- the step of a packet through a stage of a switch that tracks is this
abbrev pub Steps : Network → Switch → Stage → Flight → StageEnd → Type 0
Steps net switch stage flight end = IsOn net switch flight.packet → tracks net switch.id ≡ true → step (flows_at net switch.id) stage flight ≡ end

-- ---- which packets are tracked

-- a bit of the first register is 1: of bit 0, that the packet is to be tracked; of bit 1, that its connection is to be kept
abbrev pub has_bit : ℕ → Values → Bool
has_bit n packet = bits_of (Bit n) (value packet Reg0) == 1

abbrev pub with_bit : ℕ → Flight → Flight
with_bit n flight = with_packet flight (with_part flight.packet Reg0 (Bit n) 1)

-- what the meaning tracks at the packet's port is noted: what is of IPv4 and for one receiver, unless the port leads to a router or an
-- `allow-stateless` ACL takes it
abbrev pub Asks : Way → Type 0
Asks way =
    (net : Network) (switch : Switch) (flight : Flight) (port : Port) → IsPortOf net switch port → value flight.packet (port_field way) ≡ port.id.0
    → Steps net switch (pre_acl way) flight (On (pre_stateful way) (if is_tracked net way port flight.packet then with_bit 0 flight else flight))

-- a packet is looked up in a zone; where the switch balances load, one of a connection gets the addresses that this gives it
abbrev pub looked_up : Network → ObjId → Zone → Flight → Flight
looked_up net switch zone flight = if balances net switch then tracked_by followed zone flight else tracked zone flight

-- it is looked up in the zone of its port
abbrev pub LooksUp : Way → Type 0
LooksUp way =
    (net : Network) (switch : Switch) (flight : Flight)
    → Steps net switch (pre_stateful way) flight (On (acl_eval way) (if has_bit 0 flight.packet then looked_up net switch.id (zone_of (pipeline_for way) flight.packet) flight else flight))

-- ---- what ACLs do with it

-- the look-up, if there was one, is noted in the packet
pub record IsNoted (found : Option Look) (packet : Values) : Type 0 where
  pub flags : value packet CtState ≡ option_map_or flags_of found 0
  pub mark : value packet CtMarkBlocked ≡ option_map_or (λ look. bit (is_marked look)) found 0

-- a packet that an ACL allows goes on, to be kept unless the ACL is stateless; another ends here
abbrev pub goes : Bool → Decision → Stage → Flight → StageEnd
goes true Allowed next flight = On next (with_bit 1 flight)
goes keep what next flight = ended flight (decided what next flight.packet)

-- with this mark of the entry at a place
abbrev pub marking : ℕ → Bool → Flight → Flight
marking place blocked flight = record flight { state = with_conns (marked place blocked flight.state.conns) flight.state }

-- one in the original direction of a connection, which is blocked where the packet is refused
abbrev pub goes_again : Bool → Decision → ℕ → Stage → Flight → StageEnd
goes_again keep Allowed place next flight = goes keep Allowed next flight
goes_again keep what place next flight = goes keep what next (marking place true flight)

-- What follows where this ACL decides, by what the look-up told: it decides on what is not tracked, new, or in the original direction; a
-- reply, or an ICMP error, goes on unless its connection is blocked.
abbrev pub ruled_on : Option Acl → Stage → Flight → Option Look → StageEnd
ruled_on acl next flight (Some Invalid) = Ends (Some (Drop acl_cause)) flight.state
ruled_on acl next flight (Some (Found place Orig false blocked)) = goes_again (is_to_keep acl) (decided_by acl) place next flight
ruled_on acl next flight (Some (Found place side related blocked)) = if blocked then Ends (Some (Drop acl_cause)) flight.state else On next flight
ruled_on acl next flight found = goes (is_to_keep acl) (decided_by acl) next flight

abbrev pub Rules : Way → Type 0
Rules way =
    (net : Network) (switch : Switch) (flight : Flight) → IsNoted flight.look flight.packet
    → Steps net switch (acl_eval way) flight (ruled_on (deciding net switch.id way flight.packet) (after_acls way) flight flight.look)

-- ---- what goes to a backend

-- the connection is not to be kept as it is
abbrev pub kept_no_more : Flight → Flight
kept_no_more flight = with_packet flight (with_part flight.packet Reg0 (Bit 1) 0)

-- a packet that begins a connection, and gets this tuple, goes on with it, and that connection is recorded; where there is no room it is
-- dropped
abbrev pub balanced : Option Tuple → Flight → Option Look → StageEnd
balanced (Some t) flight (Some New) = bound (Some LsInStateful) (zone_of Ingress flight.packet) t (kept_no_more flight)
balanced to flight found = On LsInStateful flight

abbrev pub Balances : Type 0
Balances =
    (net : Network) (switch : Switch) (flight : Flight) → IsNoted flight.look flight.packet
    → Steps net switch LsInLb flight (if is_ip4 flight.packet then balanced (balanced_tuple (lbs_on net switch.id) flight.packet) flight flight.look else On LsInStateful flight)

-- ---- what is kept

-- a packet that is to be kept is recorded, or its connection is no longer blocked, and it goes on; where there is no room it is dropped
abbrev pub keeps : Way → Flight → StageEnd
keeps way flight = after (kept flight (committed (zone_of (pipeline_for way) flight.packet) false flight.packet flight.state flight.look)) (On (after_stateful way))

abbrev pub Keeps : Way → Type 0
Keeps way =
    (net : Network) (switch : Switch) (flight : Flight)
    → Steps net switch (stateful way) flight (if has_bit 1 flight.packet then keeps way flight else On (after_stateful way) flight)
