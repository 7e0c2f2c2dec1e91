-- What a zone feeds a hasher.
use Rattle.std.specs.Prelude.{◌++◌}
use Rattle.std.specs.Hash.{HashWrites, u8, u32}
use Rattle.ct_core.specs.declared.zone.Zone.{Zone}
use Rattle.ct_core.specs.declared.zone.Zone.TheVariants.{Port, Dnat, Snat}

abbrev pub zone_writes : Zone → HashWrites
zone_writes (Port n) = u8 0 ++ u32 n.0
zone_writes (Dnat n) = u8 1 ++ u32 n.0
zone_writes (Snat n) = u8 2 ++ u32 n.0
