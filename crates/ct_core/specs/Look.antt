-- Looking up (ovn-sb(5), `ct_next`, and `ct.new` to `ct.trk` of 'Logical_Flow TABLE'): what is known of a packet in a zone, by the
-- list of connections. That any original direction goes before any reply direction is this profile's own.
use Rattle.std.specs.Prelude.{◌≡◌, ℕ, ◌+◌, ◌<◌, Bool, false, ◌||◌, if◌then◌else◌, List, Option, Some, None, slice_get, slice_index_or}
use Rattle.std.specs.List.{position}
use Rattle.std.specs.Option.{option_map_or}
use Rattle.nv_base.specs.declared.field.Field.TheVariants.{QuoteProto, QuoteSrc, QuoteSport, QuoteDst, QuoteDport}
use Rattle.nv_base.specs.Ip4.{address}
use Rattle.pkt_core.specs.declared.tuple.Tuple.{Tuple}
use Rattle.pkt_core.specs.Packet.{Values, value}
use Rattle.pkt_core.specs.Prerequisite.{is_icmp_error}
use Rattle.pkt_core.specs.Replies.{is_reset}
use Rattle.pkt_core.specs.Tuple.{swap, tuple}
use Rattle.ct_core.specs.declared.entry.Entry.{Entry}
use Rattle.ct_core.specs.declared.look.Look.{Look}
use Rattle.ct_core.specs.declared.look.Look.TheVariants.{Invalid, New, Found}
use Rattle.ct_core.specs.declared.look.Side.{Side}
use Rattle.ct_core.specs.declared.look.Side.TheVariants.{Orig, Reply}
use Rattle.ct_core.specs.declared.zone.Zone.{Zone}
use Rattle.ct_core.specs.Entry.{tuple_on, has}

-- the tuple of the packet that an ICMP error quotes
abbrev pub quoted : Values → Tuple
quoted packet = record { proto = value packet QuoteProto; src = address (value packet QuoteSrc); sport = value packet QuoteSport; dst = address (value packet QuoteDst); dport = value packet QuoteDport }

-- the tuple that is looked for: the packet's own, and for an ICMP error that of the quoted packet's way back
abbrev pub sought : Values → Tuple
sought packet = if is_icmp_error packet then swap (quoted packet) else tuple packet

-- where no entry is found: an ICMP error and a TCP reset begin no connection
abbrev pub unfound : Values → Look
unfound packet = if is_icmp_error packet || is_reset packet then Invalid else New

-- the mark of the entry at a place
abbrev pub blocked_at : List Entry → ℕ → Bool
blocked_at conns place = option_map_or (λ e. e.blocked) (slice_get conns place) false

-- the entry at a place is found, in a direction
abbrev pub found_at : List Entry → Values → Side → ℕ → Look
found_at conns packet side place = Found place side (is_icmp_error packet) (blocked_at conns place)

-- what is known of a packet in a zone: the first entry whose original direction has the tuple, else the first whose reply has it
abbrev pub look : List Entry → Zone → Values → Look
look conns zone packet =
    option_map_or (found_at conns packet Orig) (position (has Orig zone (sought packet)) conns)
    (option_map_or (found_at conns packet Reply) (position (has Reply zone (sought packet)) conns) (unfound packet))

-- what it means that an entry is found: it is there, of the zone, and the first that has the tuple in that direction
pub record Finds (conns : List Entry) (zone : Zone) (t : Tuple) (place : ℕ) (side : Side) : Type 0 where
  pub entry : Entry
  pub there : slice_get conns place ≡ Some entry
  pub in_zone : entry.zone ≡ zone
  pub tuple_is : tuple_on side entry ≡ t
  pub first : (k : ℕ) (d : Entry) → k < place → has side zone t (slice_index_or conns k d) ≡ false

-- the bits of `ct_state`
abbrev pub ct_new : ℕ
ct_new = 1

abbrev pub ct_est : ℕ
ct_est = 2

abbrev pub ct_rel : ℕ
ct_rel = 4

abbrev pub ct_rpl : ℕ
ct_rpl = 8

abbrev pub ct_inv : ℕ
ct_inv = 16

abbrev pub ct_trk : ℕ
ct_trk = 32

-- `rel` of an ICMP error, and `est` of another packet of a connection
abbrev pub kind_flag : Bool → ℕ
kind_flag related = if related then ct_rel else ct_est

-- `rpl` of the reply direction
abbrev pub side_flag : Side → ℕ
side_flag Orig = 0
side_flag Reply = ct_rpl

-- the `ct_state` of a packet that was looked up
abbrev pub flags_of : Look → ℕ
flags_of Invalid = ct_trk + ct_inv
flags_of New = ct_trk + ct_new
flags_of (Found place side related blocked) = ct_trk + kind_flag related + side_flag side

-- whether its `ct_mark.blocked` is 1
abbrev pub is_marked : Look → Bool
is_marked (Found place side related blocked) = blocked
is_marked _ = false

-- the place of the entry that is found
abbrev pub place_of : Look → Option ℕ
place_of (Found place side related blocked) = Some place
place_of _ = None
