-- How a router changes the addresses of packets (ovn-nb(5), 'NAT TABLE' and 'Load_Balancer TABLE'; ovn-northd(8), 'Ingress Table: UNSNAT',
-- 'DEFRAG', 'DNAT' and 'Egress Table: UNDNAT', 'SNAT'). Which connection's rules hold is told by two zones of the router.
use Rattle.std.specs.Prelude.{ℕ, ◌==◌, nat_lt, Bool, not, ◌&&◌, if◌then◌else◌, List, fold, filter, Option, Some, None, option_map}
use Rattle.std.specs.List.{find, list_any}
use Rattle.nv_base.specs.declared.ip4.Ip4.{Ip4}
use Rattle.nv_base.specs.declared.object.ObjId.{ObjId}
use Rattle.nv_base.specs.declared.field.Field.TheVariants.{Ip4Src, Ip4Dst}
use Rattle.pkt_core.specs.declared.tuple.Tuple.{Tuple}
use Rattle.pkt_core.specs.Packet.{Values, value}
use Rattle.pkt_core.specs.Prerequisite.{is_ip4}
use Rattle.pkt_core.specs.Tuple.{tuple, with_tuple}
use Rattle.ct_core.specs.declared.entry.Entry.{Entry}
use Rattle.ct_core.specs.declared.look.Look.{Look}
use Rattle.ct_core.specs.declared.look.Look.TheVariants.{New}
use Rattle.ct_core.specs.declared.zone.Zone.{Zone}
use Rattle.ct_core.specs.declared.zone.Zone.TheVariants.{Dnat, Snat}
use Rattle.ct_core.specs.Changes.{recorded}
use Rattle.ct_core.specs.Look.{look}
use Rattle.ct_core.specs.State.{State, with_conns}
use Rattle.ct_core.specs.Translation.{back, begun_as, forth, is_reply, snat_port, with_destination, with_source}
use Rattle.nb_records.specs.declared.router.Nat.{Nat}
use Rattle.nb_records.specs.declared.router.NatKind.{NatKind}
use Rattle.nb_records.specs.declared.router.NatKind.TheVariants as kind
use Rattle.nb_model.specs.Belongs.{either, is_snat, same_nat_kind}
use Rattle.nb_model.specs.Network.{Network}
use Rattle.nb_router.specs.Vocabulary.{dnats, lbs_of, nats_of}
use Rattle.net_router.specs.Input.{is_in_network}
use Rattle.net_meaning.specs.Balancing.{balanced_tuple}
use Rattle.net_meaning.specs.declared.cause.Cause.{Cause}
use Rattle.net_meaning.specs.declared.cause.Cause.TheVariants.{CtFull, NoPort}

-- ---- packets that begin one

-- what becomes of a packet whose addresses may change: it goes on with a state, or it is dropped and leaves the state as it was
pub data Changed : Type 0 where
  Onward : Values → State → Changed
  Stopped : Cause → Changed

abbrev pub where_room : Option (List Entry) → Values → State → Changed
where_room (Some conns) packet state = Onward packet (with_conns conns state)
where_room None packet state = Stopped CtFull

-- a packet gets this tuple, and begins a connection in a zone, if there is room for it
abbrev pub bound : Zone → Tuple → Values → State → Changed
bound zone t packet state = where_room (recorded (begun_as zone t packet) state.conns) (with_tuple packet t) state

-- ---- destinations: load balancers, and rules

-- the rule that changes the destination of a packet
abbrev pub destination_rule : Network → ObjId → Values → Option Nat
destination_rule net router packet = find (λ nat. not (is_snat nat.kind) && (nat.external.0 == value packet Ip4Dst)) (nats_of net router)

-- the tuple that a packet gets which begins a connection: to a backend, else to the logical address of a rule
abbrev pub new_tuple : Network → ObjId → Values → Option Tuple
new_tuple net router packet =
    either (balanced_tuple (lbs_of net router) packet)
    (option_map (λ nat. with_destination nat.logical.base None (tuple packet)) (destination_rule net router packet))

abbrev pub bound_if : Zone → Option Tuple → Values → State → Changed
bound_if zone None packet state = Onward packet state
bound_if zone (Some t) packet state = bound zone t packet state

abbrev pub redirected : Network → ObjId → Values → State → Look → Changed
redirected net router packet state New = bound_if (Dnat router) (new_tuple net router packet) packet state
redirected net router packet state found = Onward (forth state.conns packet found) state

-- what becomes of the destination of a packet that arrives
abbrev pub dnatted : Network → ObjId → Values → State → Changed
dnatted net router packet state =
    if dnats net router then redirected net router packet state (look state.conns (Dnat router) packet) else Onward packet state

-- ---- sources: rules

-- the rule changes sources
abbrev pub changes_source : NatKind → Bool
changes_source of_kind = not (same_nat_kind of_kind kind.Dnat)

-- a reply to an external address goes to whom that stands for
abbrev pub unsnatted : Network → ObjId → List Entry → Values → Values
unsnatted net router conns packet =
    if list_any (λ nat. changes_source nat.kind && (nat.external.0 == value packet Ip4Dst)) (nats_of net router)
    then back conns packet (look conns (Snat router) packet)
    else packet

-- of two rules the one of the longer logical prefix; of equals the earlier, whose number is lower
abbrev pub closer : Option Nat → Nat → Option Nat
closer None nat = Some nat
closer (Some first) nat = if nat_lt first.logical.len nat.logical.len then Some nat else Some first

-- the rule that changes the source of a packet
abbrev pub source_rule : Network → ObjId → Values → Option Nat
source_rule net router packet =
    fold closer None (filter (λ nat. changes_source nat.kind && is_in_network (value packet Ip4Src) nat.logical) (nats_of net router))

-- a packet gets an external address and the port that is chosen
abbrev pub with_port : Zone → Ip4 → Option ℕ → Values → State → Changed
with_port zone external None packet state = Stopped NoPort
with_port zone external (Some port) packet state = bound zone (with_source external port (tuple packet)) packet state

abbrev pub hidden_behind : Zone → Ip4 → Values → State → Look → Changed
hidden_behind zone external packet state New = with_port zone external (snat_port state.conns zone (tuple packet) external) packet state
hidden_behind zone external packet state found = Onward (forth state.conns packet found) state

abbrev pub hidden_by : ObjId → Option Nat → Values → State → Changed
hidden_by router None packet state = Onward packet state
hidden_by router (Some nat) packet state = hidden_behind (Snat router) nat.external packet state (look state.conns (Snat router) packet)

-- What becomes of the addresses of an IPv4 packet that leaves: a reply to a changed destination comes from that again, and of any other a
-- rule may change the source.
abbrev pub snatted : Network → ObjId → Values → State → Look → Changed
snatted net router packet state found =
    if dnats net router && is_reply found then Onward (back state.conns packet found) state else hidden_by router (source_rule net router packet) packet state

abbrev pub changed_out : Network → ObjId → Values → State → Changed
changed_out net router packet state =
    if is_ip4 packet then snatted net router packet state (look state.conns (Dnat router) packet) else Onward packet state
