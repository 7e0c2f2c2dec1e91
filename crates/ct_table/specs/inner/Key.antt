-- The keys of the index of connections.
use Rattle.std.specs.Prelude.{◌≡◌, Bool, true, ◌++◌}
use Rattle.std.proofs.Common.{ap}
use Rattle.std.proofs.lemmas.Bool.{and_parts}
use Rattle.std.specs.Hash.{HashWrites, u8, u16, u32}
use Rattle.ct_core.specs.declared.entry.Entry.{Entry}
use Rattle.ct_core.specs.declared.look.Side.{Side}
use Rattle.ct_core.specs.Entry.{tuple_on}
use Rattle.ct_core.specs.inner.Exact as zones
use Rattle.ct_core.specs.inner.Zone.{zone_writes}
use Rattle.pkt_core.specs.inner.Exact as packets
use Rattle.ct_table.specs.contracts.key.KeyPartialEq.TheImpl as key_eq
use Rattle.ct_table.specs.declared.key.Key.{Key}

-- that of an entry, in a direction
abbrev pub key_on : Side → Entry → Key
key_on side e = record { zone = e.zone; tuple = tuple_on side e }

-- the derived `==`
abbrev pub keys_equal : Key → Key → Bool
keys_equal = (key_eq.ghosts).eq

-- what a key feeds a hasher
abbrev pub key_writes : Key → HashWrites
key_writes k = zone_writes k.zone ++ u8 k.tuple.proto ++ u32 k.tuple.src.0 ++ u16 k.tuple.sport ++ u32 k.tuple.dst.0 ++ u16 k.tuple.dport

-- keys that are equal by `==` are one key
pub key_exact : (a b : Key) → keys_equal a b ≡ true → a ≡ b
key_exact a b e =
    let parts = and_parts _ _ e in
    let zone_is : a.zone ≡ b.zone = zones.zone _ _ parts.0 in
    let tuple_is : a.tuple ≡ b.tuple = packets.tuple _ _ parts.1 in
    λ i. record { zone = zone_is i; tuple = tuple_is i }

-- and feed it alike
pub key_alike : (a b : Key) → keys_equal a b ≡ true → key_writes a ≡ key_writes b
key_alike a b e = ap key_writes (key_exact a b e)
