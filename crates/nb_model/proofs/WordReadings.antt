-- What the readings of single words give.
use Rattle.std.proofs.Common.{◌≡◌, ◌<◌, ℕ, ◌+◌, ◌-◌, ◌*◌, ◌/◌, ◌^◌, ◌&&◌, Bool, true, false, nat_lt, nat_le, ◌==◌, List, [], ◌∷◌, map, length, Option, Some, None, Ok, IfOk, IfSome, is_some, unwrap_or, codes, refl, sym, ap, ◌∙◌, arith, if◌then◌else◌}
use Rattle.std.specs.Bool.{IsTrue}
use Rattle.std.specs.Char.{is_digit}
use Rattle.std.specs.List.{list_all, slice_split}
use Rattle.std.specs.Str.{bytes_eq}
use Rattle.std.specs.Str.Parse.{AllDigits, digits_value}
use Rattle.std.specs.Int.Digits.{AllBelowBase, number_from_digits}
use Rattle.std.proofs.lemmas.Bool.{and_parts, and_from, cond_both, eqb-true, eqb-false, eq-eqb, ltb-true, lt-ltb, le-leb}
use Rattle.std.proofs.lemmas.Int.Digits.{number_lt, digits_value-lt}
use Rattle.std.proofs.lemmas.List.{length-map}
use Rattle.std.proofs.lemmas.Nat.{pow_pos}
use Rattle.std.proofs.Math.Nat.{div-mul-le_self, mul-div_cancel}
use Rattle.nb_records.specs.declared.edit.OwnerKind.{OwnerKind}
use Rattle.nb_records.specs.declared.refusal.Refusal.TheVariants.{BadName, BadMac, BadAddress, BadNumber, NotInProfile}
use Rattle.nb_records.specs.declared.router.NatKind.{NatKind}
use Rattle.nb_records.specs.declared.router.NatKind.TheVariants as nat
use Rattle.nb_records.specs.declared.sets.Member.TheVariants as member
use Rattle.nb_read.specs.Then.{and_then}
use Rattle.nb_read.specs.Readings.{object_name, set_name, is_set_name, owner_name, is_owner_name, is_unicast, unicast, mac, no_address, ip, prefix, cleared, network, nexthop, logical, in_ports, service_port, frontend, frontend_of, frontend_around, vip, priority, member_of}
use Rattle.nv_base.specs.Block.{Block}
use Rattle.nv_base.specs.Bytes.{around_first, octet_of, pair_of, number_of_parts}
use Rattle.nv_base.specs.Ip4.{address, ip4_of}
use Rattle.nv_base.specs.Mac.{mac_of}
use Rattle.nv_base.specs.Name.{is_object_name}
use Rattle.nv_base.specs.Number.{below, decimal_of, digits_number, number_of}
use Rattle.nv_base.specs.Prefix.{block, block_of, length_of, prefix_of, prefix_around}
use Rattle.nv_base.specs.declared.ip4.Ip4.{Ip4}
use Rattle.nb_model.specs.Belongs.{same_block}
use Rattle.nb_model.specs.Readable.{is_mac, is_ip4, is_block, is_cleared, is_nexthop, is_logical, is_service, is_frontend, is_member, is_priority}
use Rattle.nb_model.proofs.Reading.{goes_on, tested, not_refused, there, there_tested, there_changed, there_after}

-- Names.

pub object_name_given : (number : ℕ) (text : List ℕ) → IfOk (object_name number text) (λ name. IsTrue (is_object_name name))
object_name_given number text = tested (λ name. IsTrue (is_object_name name)) (is_object_name text) (Ok text) (BadName number) (λ is. is)

pub set_name_given : (number : ℕ) (text : List ℕ) → IfOk (set_name number text) (λ name. IsTrue (is_set_name name))
set_name_given number text = tested (λ name. IsTrue (is_set_name name)) (is_set_name text) (Ok text) (BadName number) (λ is. is)

pub owner_name_given : (of : Option OwnerKind) (number : ℕ) (text : List ℕ) → IfOk (owner_name of number text) (λ name. IsTrue (is_owner_name of name))
owner_name_given of number text = tested (λ name. IsTrue (is_owner_name of name)) (is_owner_name of text) (Ok text) (BadName number) (λ is. is)

-- Numbers.

below_given : (limit : ℕ) (o : Option ℕ) → IfSome (below limit o) (λ n. IsTrue (nat_lt n limit))
below_given limit None = tt
below_given limit (Some n) = there_tested (λ m. IsTrue (nat_lt m limit)) (nat_lt n limit) n (λ is. is)

up_to : (n limit : ℕ) → IsTrue (nat_lt n (limit + 1)) → IsTrue (nat_le n limit)
up_to n limit is = le-leb n limit (omega (arith, ltb-true n (limit + 1) is))

pub priority_given : (number : ℕ) (text : List ℕ) → IfOk (priority number text) (λ n. IsTrue (is_priority n))
priority_given number text = there (λ n. IsTrue (is_priority n)) (below 32768 (number_of text)) (BadNumber number) (by (number_of text))
  where
    by : (o : Option ℕ) → IfSome (below 32768 o) (λ n. IsTrue (is_priority n))
    by None = tt
    by (Some n) = there_tested (λ m. IsTrue (is_priority m)) (nat_lt n 32768) n (λ is. up_to n 32767 is)

-- a number that is not zero
positive : (n : ℕ) → (n == 0) ≡ false → IsTrue (nat_lt 0 n)
positive n some = let not_zero : n ≡ 0 → ⊥ = eqb-false n 0 some in lt-ltb 0 n (omega arith)

-- Bytes in a row.

all_below : (byte : List ℕ → Option ℕ) → ((p : List ℕ) → IfSome (byte p) (λ m. m < 256)) → (parts : List (List ℕ)) → AllBelowBase 256 (map (λ p. unwrap_or (byte p) 0) parts)
all_below byte small [] = tt
all_below byte small (p ∷ ps) = (one (byte p) (small p), all_below byte small ps)
  where
    one : (o : Option ℕ) → IfSome o (λ m. m < 256) → unwrap_or o 0 < 256
    one None is = omega arith
    one (Some m) is = is

bytes_given : (byte : List ℕ → Option ℕ) (count : ℕ) (parts : List (List ℕ)) → ((p : List ℕ) → IfSome (byte p) (λ m. m < 256)) → IfSome (number_of_parts byte count parts) (λ n. IsTrue (nat_lt n (256 ^ count)))
bytes_given byte count parts small =
    let digits = map (λ p. unwrap_or (byte p) 0) parts in
    there_tested (λ n. IsTrue (nat_lt n (256 ^ count))) ((length parts == count) && list_all (λ p. is_some (byte p)) parts) (number_from_digits 256 digits)
    (λ is. let many : length digits ≡ count = length-map parts (λ p. unwrap_or (byte p) 0) ∙ eqb-true (length parts) count (and_parts (length parts == count) (list_all (λ p. is_some (byte p)) parts) is).0 in
    lt-ltb (number_from_digits 256 digits) (256 ^ count) (rw (← many) (number_lt 256 digits (all_below byte small parts))))

octet_given : (p : List ℕ) → IfSome (octet_of p) (λ m. m < 256)
octet_given p = by (decimal_of p)
  where
    by : (o : Option ℕ) → IfSome (below 256 o) (λ m. m < 256)
    by None = tt
    by (Some n) = there_tested (λ m. m < 256) (nat_lt n 256) n (λ is. ltb-true n 256 is)

all_digits : (radix : ℕ) (text : List ℕ) → IsTrue (list_all (λ b. is_digit b radix) text) → AllDigits radix text
all_digits radix [] all = tt
all_digits radix (b ∷ bs) all = let parts = and_parts (is_digit b radix) (list_all (λ c. is_digit c radix) bs) all in (ltb-true _ _ parts.0, all_digits radix bs parts.1)

pair_given : (p : List ℕ) → IfSome (pair_of p) (λ m. m < 256)
pair_given p = by (length p == 2) refl
  where
    small : length p ≡ 2 → IsTrue (list_all (λ b. is_digit b 16) p) → digits_value 16 p < 256
    small two all = let least : digits_value 16 p < 16 ^ 2 = rw two at (digits_value-lt 16 p (all_digits 16 p all)) in least

    by : (b : Bool) → (length p == 2) ≡ b → IfSome (if b then digits_number 16 p else None) (λ m. m < 256)
    by false is = tt
    by true is = there_tested (λ m. m < 256) (list_all (λ b. is_digit b 16) p && nat_lt (digits_value 16 p) (2 ^ 128)) (digits_value 16 p)
        (λ fits. small (eqb-true (length p) 2 is) (and_parts (list_all (λ b. is_digit b 16) p) (nat_lt (digits_value 16 p) (2 ^ 128)) fits).0)

-- Addresses.

pub mac_of_given : (text : List ℕ) → IfSome (mac_of text) (λ n. IsTrue (nat_lt n (2 ^ 48)))
mac_of_given text = bytes_given pair_of 6 (slice_split (λ b. b == 58) text) pair_given

pub mac_given : (number : ℕ) (text : List ℕ) → IfOk (mac number text) (λ n. IsTrue (is_mac n))
mac_given number text = there (λ n. IsTrue (is_mac n)) (unicast (mac_of text)) (BadMac number) (by (mac_of text) (mac_of_given text))
  where
    by : (o : Option ℕ) → IfSome o (λ n. IsTrue (nat_lt n (2 ^ 48))) → IfSome (unicast o) (λ n. IsTrue (is_mac n))
    by None is = tt
    by (Some n) is = there_tested (λ m. IsTrue (is_mac m)) (is_unicast n) n (λ one. and_from (nat_lt n (2 ^ 48)) (is_unicast n) is one)

ip4_of_given : (text : List ℕ) → IfSome (ip4_of text) (λ a. IsTrue (is_ip4 a))
ip4_of_given text = there_changed (λ a. IsTrue (is_ip4 a)) address (number_of_parts octet_of 4 (slice_split (λ b. b == 46) text)) (bytes_given octet_of 4 (slice_split (λ b. b == 46) text) octet_given)

pub ip_given : (number : ℕ) (text : List ℕ) → IfOk (ip number text) (λ a. IsTrue (is_ip4 a))
ip_given number text = there (λ a. IsTrue (is_ip4 a)) (ip4_of text) (no_address number text) (ip4_of_given text)

block_of_given : (base : Option Ip4) (len : Option ℕ) → IfSome base (λ a. IsTrue (is_ip4 a)) → IfSome len (λ n. IsTrue (nat_lt n 33)) → IfSome (block_of base len) (λ p. IsTrue (is_block p))
block_of_given None len is small = tt
block_of_given (Some a) None is small = tt
block_of_given (Some a) (Some n) is small = and_from (is_ip4 a) (nat_le n 32) is (up_to n 32 small)

prefix_of_given : (text : List ℕ) → IfSome (prefix_of text) (λ p. IsTrue (is_block p))
prefix_of_given text = by (around_first 47 text)
  where
    by : (parts : Option (List ℕ × List ℕ)) → IfSome (prefix_around text parts) (λ p. IsTrue (is_block p))
    by None = block_of_given (ip4_of text) (Some 32) (ip4_of_given text) refl
    by (Some parts) = block_of_given (ip4_of parts.0) (length_of parts.1) (ip4_of_given parts.0) (below_given 33 (decimal_of parts.1))

pub prefix_given : (number : ℕ) (text : List ℕ) → IfOk (prefix number text) (λ p. IsTrue (is_block p))
prefix_given number text = there (λ p. IsTrue (is_block p)) (prefix_of text) (no_address number text) (prefix_of_given text)

-- a host part that is cleared is so
cleared_again : (base unit : ℕ) → 0 < unit → base / unit * unit ≡ base / unit * unit / unit * unit
cleared_again base unit some = ap (λ n. n * unit) (sym (mul-div_cancel (base / unit) some))

cleared_is : (p : Block) → IsTrue (is_block p) → IsTrue (is_cleared (cleared p))
cleared_is p is =
    let unit = 2 ^ (32 - p.len) in
    let parts = and_parts (is_ip4 p.base) (nat_le p.len 32) is in
    let base = p.base.0 / unit * unit in
    let small : base < 2 ^ 32 = omega (arith, ltb-true p.base.0 (2 ^ 32) parts.0, div-mul-le_self p.base.0 unit) in
    and_from (is_block (cleared p)) (same_block (cleared p) (cleared (cleared p)))
    (and_from (nat_lt base (2 ^ 32)) (nat_le p.len 32) (lt-ltb base (2 ^ 32) small) parts.1)
    (and_from (base == base / unit * unit) (p.len == p.len) (eq-eqb base (base / unit * unit) (cleared_again p.base.0 unit (pow_pos (32 - p.len)))) (eq-eqb p.len p.len refl))

pub network_given : (number : ℕ) (text : List ℕ) → IfOk (network number text) (λ p. IsTrue (is_cleared p))
unfolding network
network_given number text = goes_on (λ p. IsTrue (is_block p)) (λ p. IsTrue (is_cleared p)) (prefix number text) (λ p. Ok (cleared p)) (prefix_given number text) cleared_is

pub nexthop_given : (number : ℕ) (text : List ℕ) → IfOk (nexthop number text) (λ a. IsTrue (is_nexthop a))
nexthop_given number text =
    not_refused (λ a. IsTrue (is_nexthop a)) (bytes_eq text (codes "discard")) _ (NotInProfile number) (λ other.
    goes_on (λ a. IsTrue (is_ip4 a)) (λ a. IsTrue (is_nexthop a)) (ip number text) _ (ip_given number text) (λ a is.
    not_refused (λ b. IsTrue (is_nexthop b)) (a.0 == 0) (Ok a) (BadAddress number) (λ some. and_from (is_ip4 a) (nat_lt 0 a.0) is (positive a.0 some))))

-- an address alone
one_given : (number : ℕ) (text : List ℕ) → IfOk (and_then (ip number text) (λ a. Ok (block a 32))) (λ p. IsTrue (is_ip4 p.base && (p.len == 32)))
one_given number text = goes_on (λ a. IsTrue (is_ip4 a)) (λ p. IsTrue (is_ip4 p.base && (p.len == 32))) (ip number text) (λ a. Ok (block a 32)) (ip_given number text) (λ a is. and_from (is_ip4 a) true is refl)

pub logical_given : (kind : NatKind) (number : ℕ) (text : List ℕ) → IfOk (logical kind number text) (λ p. IsTrue (is_logical kind p))
logical_given nat.Snat number text = network_given number text
logical_given nat.Dnat number text = one_given number text
logical_given nat.DnatAndSnat number text = one_given number text

-- Load balancers.

port_given : (text : List ℕ) → IfSome (service_port text) (λ n. IsTrue (is_service (Some n)))
port_given text = by (below 65536 (decimal_of text)) (below_given 65536 (decimal_of text))
  where
    by : (o : Option ℕ) → IfSome o (λ n. IsTrue (nat_lt n 65536)) → IfSome (in_ports o) (λ n. IsTrue (is_service (Some n)))
    by None is = tt
    by (Some n) is = cond_both (n == 0) None (Some n) (λ o. IfSome o (λ m. IsTrue (is_service (Some m)))) (λ none. tt) (λ some. and_from (nat_lt 0 n) (nat_lt n 65536) (positive n some) is)

frontend_given : (port : Option ℕ) (addr : Option Ip4) → IsTrue (is_service port) → IfSome addr (λ a. IsTrue (is_ip4 a)) → IfSome (frontend port addr) (λ f. IsTrue (is_frontend f))
frontend_given port None serves is = tt
frontend_given port (Some a) serves is = and_from (is_ip4 a) (is_service port) is serves

pub frontend_of_given : (text : List ℕ) → IfSome (frontend_of text) (λ f. IsTrue (is_frontend f))
frontend_of_given text = by (around_first 58 text)
  where
    by : (parts : Option (List ℕ × List ℕ)) → IfSome (frontend_around text parts) (λ f. IsTrue (is_frontend f))
    by None = frontend_given None (ip4_of text) refl (ip4_of_given text)
    by (Some parts) = there_after (λ n. IsTrue (is_service (Some n))) (λ f. IsTrue (is_frontend f)) (λ p. frontend (Some p) (ip4_of parts.0)) (service_port parts.1) (port_given parts.1)
        (λ n serves. frontend_given (Some n) (ip4_of parts.0) serves (ip4_of_given parts.0))

pub vip_given : (number : ℕ) (text : List ℕ) → IfOk (vip number text) (λ f. IsTrue (is_frontend f))
unfolding vip
vip_given number text = there (λ f. IsTrue (is_frontend f)) (frontend_of text) (BadAddress number) (frontend_of_given text)

-- Members of sets.

pub member_given : (number : ℕ) (text : List ℕ) → IfOk (member_of number text (mac_of text)) (λ m. IsTrue (is_member m))
member_given number text = by (mac_of text) (mac_of_given text)
  where
    by : (o : Option ℕ) → IfSome o (λ n. IsTrue (nat_lt n (2 ^ 48))) → IfOk (member_of number text o) (λ m. IsTrue (is_member m))
    by None is = goes_on (λ p. IsTrue (is_block p)) (λ m. IsTrue (is_member m)) (prefix number text) (λ p. Ok (member.Net p)) (prefix_given number text) (λ p is. is)
    by (Some n) is = not_refused (λ m. IsTrue (is_member m)) (n == 0) (Ok (member.Mac n)) (BadMac number) (λ some. and_from (nat_lt 0 n) (nat_lt n (2 ^ 48)) (positive n some) is)
