-- Values that are equal by `==` are one value.
use Rattle.std.proofs.Common.{◌≡◌, Bool, true, ap}
use Rattle.std.proofs.lemmas.Bool.{false≢true, and_parts, eqb-true}
use Rattle.ct_core.specs.contracts.entry.EntryPartialEq.TheImpl as entry_eq
use Rattle.ct_core.specs.contracts.neighbour.NeighbourPartialEq.TheImpl as neighbour_eq
use Rattle.ct_core.specs.contracts.zone.ZonePartialEq.TheImpl as zone_eq
use Rattle.ct_core.specs.declared.zone.Zone.{Zone}
use Rattle.ct_core.specs.declared.zone.Zone.TheVariants.{Port, Dnat, Snat}
use Rattle.ct_core.specs.inner.Zone.{zone_writes}
use Rattle.nv_base.specs.inner.Exact as tells
use Rattle.nv_base.specs.inner.Exact.{Tells}
use Rattle.pkt_core.specs.inner.Exact as packets

-- the derived `==` of zones
abbrev pub zones_equal : Zone → Zone → Bool
zones_equal = (zone_eq.ghosts).eq

pub zone : Tells zones_equal
zone (Port a) (Port b) e = ap Port (tells.object a b e)
zone (Port a) (Dnat b) e = absurd (false≢true e)
zone (Port a) (Snat b) e = absurd (false≢true e)
zone (Dnat a) (Port b) e = absurd (false≢true e)
zone (Dnat a) (Dnat b) e = ap Dnat (tells.object a b e)
zone (Dnat a) (Snat b) e = absurd (false≢true e)
zone (Snat a) (Port b) e = absurd (false≢true e)
zone (Snat a) (Dnat b) e = absurd (false≢true e)
zone (Snat a) (Snat b) e = ap Snat (tells.object a b e)

-- equal zones feed a hasher alike
pub alike : (a b : Zone) → zones_equal a b ≡ true → zone_writes a ≡ zone_writes b
alike a b e = ap zone_writes (zone a b e)

pub entry : Tells ((entry_eq.ghosts).eq)
entry a b e =
    let zones = and_parts _ _ e in
    let origs = and_parts _ _ zones.1 in
    let last = and_parts _ _ origs.1 in
    let zone_is : a.zone ≡ b.zone = zone _ _ zones.0 in
    let orig_is : a.orig ≡ b.orig = packets.tuple _ _ origs.0 in
    let reply_is : a.reply ≡ b.reply = packets.tuple _ _ last.0 in
    let blocked_is : a.blocked ≡ b.blocked = tells.boolean _ _ last.1 in
    λ i. record { zone = zone_is i; orig = orig_is i; reply = reply_is i; blocked = blocked_is i }

pub neighbour : Tells ((neighbour_eq.ghosts).eq)
neighbour a b e =
    let ports = and_parts _ _ e in
    let last = and_parts _ _ ports.1 in
    let port_is : a.port ≡ b.port = tells.object _ _ ports.0 in
    let addr_is : a.addr ≡ b.addr = tells.address _ _ last.0 in
    let mac_is : a.mac ≡ b.mac = eqb-true _ _ last.1 in
    λ i. record { port = port_is i; addr = addr_is i; mac = mac_is i }
