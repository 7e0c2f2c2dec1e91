-- An entry of the list of connections: a zone, and the tuple of each direction.
use Rattle.std.specs.Prelude.{◌==◌, Bool, false, ◌&&◌}
use Rattle.pkt_core.specs.declared.tuple.Tuple.{Tuple}
use Rattle.ct_core.specs.declared.entry.Entry.{Entry}
use Rattle.ct_core.specs.declared.look.Side.{Side}
use Rattle.ct_core.specs.declared.look.Side.TheVariants.{Orig, Reply}
use Rattle.ct_core.specs.declared.zone.Zone.{Zone}
use Rattle.ct_core.specs.declared.zone.Zone.TheVariants.{Port, Dnat, Snat}

-- whether two zones are one
abbrev pub same_zone : Zone → Zone → Bool
same_zone (Port a) (Port b) = a.0 == b.0
same_zone (Dnat a) (Dnat b) = a.0 == b.0
same_zone (Snat a) (Snat b) = a.0 == b.0
same_zone _ _ = false

-- whether two tuples are one
abbrev pub same_tuple : Tuple → Tuple → Bool
same_tuple a b = (a.proto == b.proto) && ((a.src.0 == b.src.0) && ((a.sport == b.sport) && ((a.dst.0 == b.dst.0) && (a.dport == b.dport))))

-- the tuple of its packets in a direction
abbrev pub tuple_on : Side → Entry → Tuple
tuple_on Orig e = e.orig
tuple_on Reply e = e.reply

-- whether it is one of the zone
abbrev pub is_in : Zone → Entry → Bool
is_in zone e = same_zone e.zone zone

-- whether it is one of the zone that has the tuple in a direction
abbrev pub has : Side → Zone → Tuple → Entry → Bool
has side zone t e = is_in zone e && same_tuple (tuple_on side e) t
