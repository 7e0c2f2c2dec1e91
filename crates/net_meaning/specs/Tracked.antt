-- What ACLs and load balancers do with a packet where connections are tracked (after ovn-nb(5), 'ACL TABLE', `allow-related`, and
-- 'Load_Balancer TABLE'; that only what is new or in the original direction is decided anew is this profile's own).
use Rattle.std.specs.Prelude.{ℕ, Bool, true, false, not, ◌&&◌, if◌then◌else◌, Option, Some, None, List}
use Rattle.std.specs.List.{list_any}
use Rattle.nv_base.specs.declared.object.ObjId.{ObjId}
use Rattle.nv_base.specs.declared.field.Field.TheVariants.{EthDst}
use Rattle.pkt_core.specs.Packet.{Values, value}
use Rattle.pkt_core.specs.Prerequisite.{is_ip4}
use Rattle.pkt_core.specs.declared.tuple.Tuple.{Tuple}
use Rattle.pkt_core.specs.Tuple.{tuple, with_tuple}
use Rattle.ct_core.specs.declared.entry.Entry.{Entry}
use Rattle.ct_core.specs.declared.look.Look.{Look}
use Rattle.ct_core.specs.declared.look.Look.TheVariants.{Invalid, New, Found}
use Rattle.ct_core.specs.declared.look.Side.TheVariants.{Orig}
use Rattle.ct_core.specs.declared.zone.Zone.{Zone}
use Rattle.ct_core.specs.declared.zone.Zone.TheVariants as zone
use Rattle.ct_core.specs.Changes.{marked, recorded}
use Rattle.ct_core.specs.Look.{look}
use Rattle.ct_core.specs.State.{State, with_conns}
use Rattle.ct_core.specs.Translation.{begun_as, followed}
use Rattle.expr_eval.specs.MatchMeaning.{holds}
use Rattle.nb_records.specs.declared.acl.Acl.{Acl}
use Rattle.nb_records.specs.declared.acl.Verdict.{Verdict}
use Rattle.nb_records.specs.declared.acl.Verdict.TheVariants.{AllowStateless}
use Rattle.nb_records.specs.declared.acl.Way.{Way}
use Rattle.nb_records.specs.declared.acl.Way.TheVariants.{From, To}
use Rattle.nb_records.specs.declared.switch.Port.{Port}
use Rattle.nb_model.specs.Applies.{acls, balances, lbs_on, tracks}
use Rattle.nb_model.specs.Belongs.{is_to_router}
use Rattle.nb_model.specs.Names.{names}
use Rattle.nb_model.specs.Network.{Network}
use Rattle.net_meaning.specs.AclVerdict.{Decision, decided_by, deciding}
use Rattle.net_meaning.specs.AclVerdict.Decision.{Allowed, Dropped, Full}
use Rattle.net_meaning.specs.Address.{is_multicast}
use Rattle.net_meaning.specs.Balancing.{balanced_tuple}

abbrev pub is_stateless : Verdict → Bool
is_stateless AllowStateless = true
is_stateless _ = false

-- whether an `allow-stateless` ACL of the direction takes the packet, whatever its priority
abbrev pub passes_untracked : Network → ObjId → Way → Values → Bool
passes_untracked net switch way packet = list_any (λ acl. is_stateless acl.verdict && holds (names net) packet acl.matching) (acls net switch way)

-- whether a packet is tracked at a port: it is one of IPv4 for one receiver, at the port of a host, on a switch that tracks connections
abbrev pub is_tracked : Network → Way → Port → Values → Bool
is_tracked net way port packet =
    tracks net port.switch && is_ip4 packet && not (is_multicast (value packet EthDst)) && not (is_to_router port) && not (passes_untracked net port.switch way packet)

-- what is done with a packet, as it is then, and the state that is left
pub record Ruled : Type 0 where
  pub what : Decision
  pub packet : Values
  pub state : State

abbrev pub ruled_as : Decision → Values → State → Ruled
ruled_as what packet state = record { what = what; packet = packet; state = state }

-- ---- connections that begin

-- a packet that begins a connection, as it goes on, and the connection
pub record Begun : Type 0 where
  pub packet : Values
  pub entry : Entry

-- its connection is kept as it is
abbrev pub kept_as_is : Zone → Values → Begun
kept_as_is zone packet = record { packet = packet; entry = begun_as zone (tuple packet) packet }

-- it goes to another destination
abbrev pub sent_to : Zone → Tuple → Values → Begun
sent_to zone t packet = record { packet = with_tuple packet t; entry = begun_as zone t packet }

-- what a packet begins which is allowed, and may begin a connection: it goes to the backend of a VIP, or it is to be kept, or neither
abbrev pub begins : Bool → Option Tuple → Zone → Values → Option Begun
begins keep (Some t) zone packet = Some (sent_to zone t packet)
begins true None zone packet = Some (kept_as_is zone packet)
begins false None zone packet = None

-- what a switch balances is what comes in
abbrev pub to_backend : Network → Way → ObjId → Values → Option Tuple
to_backend net From switch packet = balanced_tuple (lbs_on net switch) packet
to_backend net To switch packet = None

-- what `allow-stateless` allows is not kept
abbrev pub is_to_keep : Option Acl → Bool
is_to_keep None = true
is_to_keep (Some acl) = not (is_stateless acl.verdict)

-- ---- what is done

-- with one more connection, if there is room for it
abbrev pub with_one : Begun → Values → State → Option (List Entry) → Ruled
with_one new packet state (Some conns) = ruled_as Allowed new.packet (with_conns conns state)
with_one new packet state None = ruled_as Full packet state

-- a packet that may begin a connection, by what the ACL that decides says: that is recorded where it is allowed
abbrev pub asked_new : Option Begun → Decision → Values → State → Ruled
asked_new (Some new) Allowed packet state = with_one new packet state (recorded new.entry state.conns)
asked_new new what packet state = ruled_as what packet state

-- one in the original direction of the connection at a place: that is no longer blocked where it is allowed, and blocked where it is not
abbrev pub asked_again : Bool → Decision → ℕ → Values → State → Ruled
asked_again true Allowed place packet state = ruled_as Allowed packet (with_conns (marked place false state.conns) state)
asked_again false Allowed place packet state = ruled_as Allowed packet state
asked_again keep what place packet state = ruled_as what packet (with_conns (marked place true state.conns) state)

-- what is done with a tracked packet, by what its look-up told: the ACL that decides is asked for one that is new or goes in the original
-- direction; a reply, or an ICMP error, goes with its connection
abbrev pub ruled_by : Option Acl → Option Begun → Values → State → Look → Ruled
ruled_by acl new packet state Invalid = ruled_as Dropped packet state
ruled_by acl new packet state New = asked_new new (decided_by acl) packet state
ruled_by acl new packet state (Found place Orig false blocked) = asked_again (is_to_keep acl) (decided_by acl) place packet state
ruled_by acl new packet state (Found place side related blocked) = ruled_as (if blocked then Dropped else Allowed) packet state

module _ (net : Network) (way : Way) (port : Port) where
  -- the zone of a port's connections
  abbrev pub zone_of_port : Zone
  zone_of_port = zone.Port port.id

  -- a packet that was looked up: where the switch balances load, one of a connection gets the addresses that this gives it
  abbrev pub as_found : List Entry → Values → Look → Values
  as_found conns packet found = if balances net port.switch then followed conns packet found else packet

  -- the ACL that decides on a packet, and what it begins where that allows it
  abbrev pub asked_acl : Values → Option Acl
  asked_acl packet = deciding net port.switch way packet

  abbrev pub may_begin : Values → Option Begun
  may_begin packet = begins (is_to_keep (asked_acl packet)) (to_backend net way port.switch packet) zone_of_port packet

  -- what is done with a packet that was looked up, as it is after that
  abbrev pub ruled_after : Values → State → Look → Ruled
  ruled_after packet state found = ruled_by (asked_acl packet) (may_begin packet) packet state found

  -- what a switch does with a packet at one of its ports, by the ACLs and the load balancers of a direction
  abbrev pub ruled : Values → State → Ruled
  ruled packet state =
      if is_tracked net way port packet
      then ruled_after (as_found state.conns packet (look state.conns zone_of_port packet)) state (look state.conns zone_of_port packet)
      else ruled_as (decided_by (asked_acl packet)) packet state
