-- The packet without the fields that are not there: it is what it was, and nothing more goes.
use Rattle.std.proofs.Common.{◌≡◌, ℕ, ◌==◌, Bool, true, false, ◌&&◌, ◌||◌, if◌then◌else◌, map, refl, ap}
use Rattle.nv_base.specs.declared.field.Field.{Field}
use Rattle.nv_base.specs.declared.field.Field.TheVariants.{EthType, IpProto, Icmp4Type}
use Rattle.nv_base.specs.declared.field.Prerequisite.{Prerequisite}
use Rattle.nv_base.specs.declared.field.Prerequisite.TheVariants.{Nothing, Ip4, Arp, Tcp, Udp, Icmp4, IcmpError}
use Rattle.nv_base.specs.Field.{field_prerequisite, all_fields}
use Rattle.pkt_core.specs.Packet.{Values, value, value_only, only}
use Rattle.pkt_core.specs.Prerequisite.{is_ip4, carries, is_icmp_error, meets, is_there, normal}
use Rattle.pkt_core.proofs.Only.{only_value}

both : (b : Bool) (x n : ℕ) → (b && ((if b then x else 0) == n)) ≡ (b && (x == n))
both true x n = refl
both false x n = refl

either : (b : Bool) (x m n : ℕ) → (b && (((if b then x else 0) == m) || ((if b then x else 0) == n))) ≡ (b && ((x == m) || (x == n)))
either true x m n = refl
either false x m n = refl

ip4_stays : (packet : Values) → is_ip4 (normal packet) ≡ is_ip4 packet
ip4_stays packet = ap (λ n. n == 0x800) (only_value packet (is_there packet) EthType)

carries_stays : (packet : Values) (n : ℕ) → carries (normal packet) n ≡ carries packet n
carries_stays packet n = rw (ip4_stays packet, only_value packet (is_there packet) IpProto) (both (is_ip4 packet) (value packet IpProto) n)

error_stays : (packet : Values) → is_icmp_error (normal packet) ≡ is_icmp_error packet
error_stays packet = rw (carries_stays packet 1, only_value packet (is_there packet) Icmp4Type) (either (carries packet 1) (value packet Icmp4Type) 3 11)

-- it is still what it was
pub meets_stays : (packet : Values) (needed : Prerequisite) → meets (normal packet) needed ≡ meets packet needed
meets_stays packet Nothing = refl
meets_stays packet Ip4 = ip4_stays packet
meets_stays packet Arp = ap (λ n. n == 0x806) (only_value packet (is_there packet) EthType)
meets_stays packet Tcp = carries_stays packet 6
meets_stays packet Udp = carries_stays packet 17
meets_stays packet Icmp4 = carries_stays packet 1
meets_stays packet IcmpError = error_stays packet

twice : (b : Bool) (x : ℕ) → (if b then (if b then x else 0) else 0) ≡ (if b then x else 0)
twice true x = refl
twice false x = refl

kept_again : (packet : Values) (field : Field) → value_only (normal packet) (is_there (normal packet)) field ≡ value_only packet (is_there packet) field
kept_again packet field = rw (meets_stays packet (field_prerequisite field), only_value packet (is_there packet) field) (twice (is_there packet field) (value packet field))

-- so nothing more goes
pub settled : (packet : Values) → normal (normal packet) ≡ normal packet
unfolding only
settled packet = λ i. map (λ field. kept_again packet field i) all_fields
