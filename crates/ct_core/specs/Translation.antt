-- What a connection makes of a packet's addresses (ovn-sb(5), `ct_lb`, `ct_dnat` and `ct_snat`), and what is chosen for a new one.
use Rattle.std.specs.Prelude.{ℕ, ◌+◌, ◌-◌, ◌%◌, ◌==◌, Bool, true, false, not, ◌||◌, if◌then◌else◌, List, Option, Some, None, slice_get, unwrap_or}
use Rattle.std.specs.List.{find, list_any, range_with_len}
use Rattle.std.specs.Option.{option_map_or}
use Rattle.nv_base.specs.declared.field.Field.TheVariants.{Ip4Src, Ip4Dst}
use Rattle.nv_base.specs.declared.ip4.Ip4.{Ip4}
use Rattle.pkt_core.specs.declared.tuple.Tuple.{Tuple}
use Rattle.pkt_core.specs.Packet.{Values, value, with_value}
use Rattle.pkt_core.specs.Prerequisite.{is_icmp_error}
use Rattle.pkt_core.specs.Replies.{with_quote}
use Rattle.pkt_core.specs.Tuple.{swap, tuple, with_tuple}
use Rattle.ct_core.specs.declared.entry.Entry.{Entry}
use Rattle.ct_core.specs.declared.look.Look.{Look}
use Rattle.ct_core.specs.declared.look.Look.TheVariants.{Found}
use Rattle.ct_core.specs.declared.look.Side.{Side}
use Rattle.ct_core.specs.declared.look.Side.TheVariants.{Orig, Reply}
use Rattle.ct_core.specs.declared.zone.Zone.{Zone}
use Rattle.ct_core.specs.Entry.{tuple_on, has}

-- the direction against one
abbrev pub other : Side → Side
other Orig = Reply
other Reply = Orig

-- the source of an ICMP error in the direction of the tuple `own`, that of the other direction being `back`: where it comes from the
-- host that the packets of this direction come from, it comes after it from whom that host stands for
abbrev pub error_source : Tuple → Tuple → Values → ℕ
error_source own back packet = if value packet Ip4Src == own.src.0 then back.dst.0 else value packet Ip4Src

-- the error after it: it quotes the packet of the other direction, and goes to whom that came from
abbrev pub translated_error : Tuple → Tuple → Values → Values
translated_error own back packet = with_quote (with_value (with_value packet Ip4Src (error_source own back packet)) Ip4Dst back.src.0) back

-- a packet that was found in a direction, as it is after translation: with the tuple of the other direction, turned round; its
-- protocol stays
abbrev pub translated : Entry → Side → Values → Values
translated e side packet =
    if is_icmp_error packet then translated_error (tuple_on side e) (tuple_on (other side) e) packet
    else with_tuple packet (swap (tuple_on (other side) e))

-- with the addresses that the connection at a place gives to packets of a direction
abbrev pub translated_at : List Entry → ℕ → Side → Values → Values
translated_at conns place side packet = option_map_or (λ e. translated e side packet) (slice_get conns place) packet

-- a packet that was looked up, translated where it is of a connection
abbrev pub followed : List Entry → Values → Look → Values
followed conns packet (Found place side related blocked) = translated_at conns place side packet
followed conns packet _ = packet

-- where it goes in the direction of its connection
abbrev pub forth : List Entry → Values → Look → Values
forth conns packet (Found place Orig related blocked) = translated_at conns place Orig packet
forth conns packet _ = packet

-- and where it is a reply
abbrev pub back : List Entry → Values → Look → Values
back conns packet (Found place Reply related blocked) = translated_at conns place Reply packet
back conns packet _ = packet

abbrev pub is_reply : Look → Bool
is_reply (Found place Reply related blocked) = true
is_reply _ = false

-- the connection of a packet that gets this tuple
abbrev pub begun_as : Zone → Tuple → Values → Entry
begun_as zone t packet = record { zone = zone; orig = tuple packet; reply = swap t; blocked = false }

-- the tuple to another address, and to a port where one is given
abbrev pub with_destination : Ip4 → Option ℕ → Tuple → Tuple
with_destination addr port t = record t { dst = addr; dport = unwrap_or port t.dport }

-- the number, from 0, of the backend that a packet goes to, of so many
abbrev pub balance : Tuple → ℕ → ℕ
balance t count = (t.src.0 + t.dst.0 + t.sport + t.dport + t.proto) % count

-- so many ports from one on
unfoldable pub ports : ℕ → ℕ → List ℕ
ports first count = range_with_len first count

-- the tuple with this source
abbrev pub with_source : Ip4 → ℕ → Tuple → Tuple
with_source addr port t = record t { src = addr; sport = port }

-- whether no connection of the zone has the reply direction that this source gives
abbrev pub is_free : List Entry → Zone → Ip4 → Tuple → ℕ → Bool
is_free conns zone external t port = not (list_any (has Reply zone (swap (with_source external port t))) conns)

-- the source port that a connection of this tuple gets with an external address: its own where that is free, else for TCP and UDP
-- the least free one from 1024 to 65535
abbrev pub snat_port : List Entry → Zone → Tuple → Ip4 → Option ℕ
snat_port conns zone t external =
    if is_free conns zone external t t.sport then Some t.sport
    else (if (t.proto == 6) || (t.proto == 17) then find (is_free conns zone external t) (ports 1024 (65536 - 1024))
    else None)
