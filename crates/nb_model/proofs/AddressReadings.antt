-- What the readings of the addresses and guards of a port give.
use Rattle.std.proofs.Common.{◌≡◌, ℕ, ◌+◌, ◌&&◌, ◌||◌, Bool, true, false, not, ◌==◌, List, [], ◌∷◌, ◌++◌, Ok, IfOk, codes, refl, sym, subst, append-nil}
use Rattle.std.specs.Bool.{IsTrue}
use Rattle.std.specs.List.{list_all, list_any, flat_map}
use Rattle.std.specs.Str.{bytes_eq}
use Rattle.std.proofs.lemmas.Bool.{and_parts, and_from, cond_both}
use Rattle.nb_records.specs.declared.refusal.Refusal.TheVariants.{BadAddress, NotInProfile}
use Rattle.nb_records.specs.declared.switch.Addr.{Addr}
use Rattle.nb_records.specs.declared.switch.Addr.TheVariants.{Unknown, Router, Host}
use Rattle.nb_records.specs.declared.switch.Guard.{Guard}
use Rattle.nb_read.specs.Lists.{parts, has_mac, is_ip, has_ip, new_mac, new_ips, host, next_address, addresses, is_base, has_net, guards_mac, guard_mac, new_nets, guarded, next_guard, guards}
use Rattle.nb_read.specs.Readings.{mac, ip, prefix}
use Rattle.nb_words.specs.declared.word.Word.{Word}
use Rattle.nv_base.specs.Block.{Block}
use Rattle.nv_base.specs.declared.ip4.Ip4.{Ip4}
use Rattle.nb_model.specs.Readable.{are_apart, is_mac, is_ip4, is_block, macs_of, ips_of, same_number, are_addresses, nets_of, are_guards}
use Rattle.nb_model.proofs.Alike.{numbers_sym}
use Rattle.nb_model.proofs.Reading.{goes_on, not_refused}
use Rattle.nb_model.proofs.RecordLists.{all_push, all_append, apart_push, none_any}
use Rattle.nb_model.proofs.WordReadings.{prefix_given, mac_given, ip_given}
use Rattle.nb_model.proofs.ListReadings.{flat_push, none_flat, fresh}

-- Addresses of a port.

-- MACs and IPv4 addresses that a port may have
abbrev are_told : List ℕ → List Ip4 → Bool
are_told macs ips = list_all is_mac macs && are_apart same_number macs && list_all is_ip4 ips && are_apart is_ip ips

record AreTold (macs : List ℕ) (ips : List Ip4) : Type 0 where
  unicast : IsTrue (list_all is_mac macs)
  apart : IsTrue (are_apart same_number macs)
  small : IsTrue (list_all is_ip4 ips)
  once : IsTrue (are_apart is_ip ips)

told : (macs : List ℕ) (ips : List Ip4) → IsTrue (are_told macs ips) → AreTold macs ips
told macs ips are =
    let last = and_parts (list_all is_mac macs && are_apart same_number macs && list_all is_ip4 ips) (are_apart is_ip ips) are in
    let third = and_parts (list_all is_mac macs && are_apart same_number macs) (list_all is_ip4 ips) last.0 in
    let first = and_parts (list_all is_mac macs) (are_apart same_number macs) third.0 in
    record { unicast = first.0; apart = first.1; small = third.1; once = last.1 }

tell : (macs : List ℕ) (ips : List Ip4) → AreTold macs ips → IsTrue (are_told macs ips)
tell macs ips are =
    and_from (list_all is_mac macs && are_apart same_number macs && list_all is_ip4 ips) (are_apart is_ip ips)
    (and_from (list_all is_mac macs && are_apart same_number macs) (list_all is_ip4 ips) (and_from (list_all is_mac macs) (are_apart same_number macs) are.unicast are.apart) are.small) are.once

-- one more
address_pushed : (before : List Addr) (a : Addr) → AreTold (flat_map macs_of before ++ macs_of a) (flat_map ips_of before ++ ips_of a) → IsTrue (are_addresses (before ++ a ∷ []))
address_pushed before a are =
    let P : List ℕ → List Ip4 → Type 0 = λ macs ips. IsTrue (are_told macs ips) in
    let all : P (flat_map macs_of before ++ macs_of a) (flat_map ips_of before ++ ips_of a) = tell (flat_map macs_of before ++ macs_of a) (flat_map ips_of before ++ ips_of a) are in
    subst (λ (macs : List ℕ). P macs (flat_map ips_of (before ++ a ∷ []))) (sym (flat_push macs_of before a))
    (subst (λ (ips : List Ip4). P (flat_map macs_of before ++ macs_of a) ips) (sym (flat_push ips_of before a)) all)

-- a word that tells none
no_address_pushed : (before : List Addr) (a : Addr) → macs_of a ≡ [] → ips_of a ≡ [] → IsTrue (are_addresses before) → IsTrue (are_addresses (before ++ a ∷ []))
no_address_pushed before a no_mac no_ip are =
    address_pushed before a (rw (no_mac, no_ip, append-nil (flat_map macs_of before), append-nil (flat_map ips_of before)) (told (flat_map macs_of before) (flat_map ips_of before) are))

-- the MAC is a new one
abbrev IsNewMac : List Addr → ℕ → Type 0
IsNewMac before m = IsTrue (is_mac m) × IsTrue (list_all (λ own. not (same_number own m)) (flat_map macs_of before))

new_mac_given : (number : ℕ) (before : List Addr) (text : List ℕ) → IfOk (new_mac number before text) (IsNewMac before)
new_mac_given number before text =
    goes_on (λ m. IsTrue (is_mac m)) (IsNewMac before) (mac number text) _ (mac_given number text) (λ m is.
    not_refused (IsNewMac before) (list_any (has_mac m) before) (Ok m) (BadAddress number) (λ new.
    (is, none_flat macs_of (has_mac m) (λ own. not (same_number own m)) before (λ a differs. apart m a differs) new)))
  where
    apart : (m : ℕ) (a : Addr) → has_mac m a ≡ false → IsTrue (list_all (λ own. not (same_number own m)) (macs_of a))
    apart m Unknown differs = refl
    apart m Router differs = refl
    apart m (Host own ips) differs = and_from (not (own == m)) true (rw differs refl) refl

-- the IPv4 addresses are new ones
abbrev AreNewIps : List Addr → List Ip4 → Type 0
AreNewIps before ips = IsTrue (list_all is_ip4 ips) × IsTrue (are_apart is_ip (flat_map ips_of before ++ ips))

new_ips_given : (number : ℕ) (before : List Addr) (ips : List Ip4) (texts : List (List ℕ)) → AreNewIps before ips → IfOk (new_ips number before ips texts) (AreNewIps before)
new_ips_given number before ips [] are = are
new_ips_given number before ips (text ∷ texts) are =
    goes_on (λ a. IsTrue (is_ip4 a)) (AreNewIps before) (ip number text) _ (ip_given number text) (λ a is.
    not_refused (AreNewIps before) (list_any (has_ip a) before || list_any (is_ip a) ips) (new_ips number before (ips ++ a ∷ []) texts) (BadAddress number) (λ new.
    new_ips_given number before (ips ++ a ∷ []) texts
    (all_push is_ip4 ips a are.0 is, fresh ips_of has_ip is_ip before ips a (λ b. numbers_sym b.0 a.0) (λ own differs. none a own differs) new are.1)))
  where
    none : (a : Ip4) (own : Addr) → has_ip a own ≡ false → list_any (is_ip a) (ips_of own) ≡ false
    none a Unknown differs = refl
    none a Router differs = refl
    none a (Host m others) differs = differs

host_given : (number : ℕ) (before : List Addr) (texts : List (List ℕ)) → IsTrue (are_addresses before) → IfOk (host number before texts) (λ a. IsTrue (are_addresses (before ++ a ∷ [])))
host_given number before [] are = tt
host_given number before (text ∷ texts) are =
    goes_on (IsNewMac before) (λ a. IsTrue (are_addresses (before ++ a ∷ []))) (new_mac number before text) _ (new_mac_given number before text) (λ m new.
    goes_on (AreNewIps before) (λ a. IsTrue (are_addresses (before ++ a ∷ []))) (new_ips number before [] texts) _ (new_ips_given number before [] texts (refl, rw append-nil own.once)) (λ ips news.
    address_pushed before (Host m ips) (record {
      unicast = all_push is_mac (flat_map macs_of before) m own.unicast new.0;
      apart = apart_push same_number (flat_map macs_of before) m own.apart new.1;
      small = all_append is_ip4 (flat_map ips_of before) ips own.small news.0;
      once = news.1;
    })))
  where
    own : AreTold (flat_map macs_of before) (flat_map ips_of before)
    own = told (flat_map macs_of before) (flat_map ips_of before) are

next_address_given : (number : ℕ) (before : List Addr) (text : List ℕ) → IsTrue (are_addresses before) → IfOk (next_address number before text) (λ a. IsTrue (are_addresses (before ++ a ∷ [])))
next_address_given number before text are =
    let More : Addr → Type 0 = λ a. IsTrue (are_addresses (before ++ a ∷ [])) in
    cond_both (bytes_eq text (codes "unknown")) _ _ (λ r. IfOk r More) (λ unknown. no_address_pushed before Unknown refl refl are) (λ known.
    cond_both (bytes_eq text (codes "router")) _ _ (λ r. IfOk r More) (λ router. no_address_pushed before Router refl refl are) (λ other.
    not_refused More (bytes_eq text (codes "dynamic")) (host number before (parts text)) (NotInProfile number) (λ none. host_given number before (parts text) are)))

pub addresses_given : (before : List Addr) (number : ℕ) (words : List Word) → IsTrue (are_addresses before) → IfOk (addresses before number words) (λ all. IsTrue (are_addresses all))
addresses_given before number [] are = are
addresses_given before number (word ∷ words) are =
    goes_on (λ a. IsTrue (are_addresses (before ++ a ∷ []))) (λ all. IsTrue (are_addresses all)) (next_address number before word.text) _ (next_address_given number before word.text are)
    (λ a more. addresses_given (before ++ a ∷ []) (number + 1) words more)

-- Guards of a port.

-- MACs and prefixes of guards
abbrev are_set : List Guard → List Block → Bool
are_set list nets = list_all (λ guard. is_mac guard.mac) list && are_apart (λ a b. a.mac == b.mac) list && list_all is_block nets && are_apart is_base nets

record AreSet (list : List Guard) (nets : List Block) : Type 0 where
  unicast : IsTrue (list_all (λ guard. is_mac guard.mac) list)
  apart : IsTrue (are_apart (λ a b. a.mac == b.mac) list)
  small : IsTrue (list_all is_block nets)
  once : IsTrue (are_apart is_base nets)

set_so : (list : List Guard) (nets : List Block) → IsTrue (are_set list nets) → AreSet list nets
set_so list nets are =
    let macs = list_all (λ guard. is_mac guard.mac) list in
    let apart = are_apart (λ a b. a.mac == b.mac) list in
    let last = and_parts (macs && apart && list_all is_block nets) (are_apart is_base nets) are in
    let third = and_parts (macs && apart) (list_all is_block nets) last.0 in
    let first = and_parts macs apart third.0 in
    record { unicast = first.0; apart = first.1; small = third.1; once = last.1 }

guard_pushed : (before : List Guard) (guard : Guard) → AreSet (before ++ guard ∷ []) (flat_map nets_of before ++ guard.nets) → IsTrue (are_guards (before ++ guard ∷ []))
guard_pushed before guard are =
    let list = before ++ guard ∷ [] in
    let nets = flat_map nets_of before ++ guard.nets in
    let macs = list_all (λ guard. is_mac guard.mac) list in
    let apart = are_apart (λ a b. a.mac == b.mac) list in
    subst (λ (all : List Block). IsTrue (are_set list all)) (sym (flat_push nets_of before guard))
    (and_from (macs && apart && list_all is_block nets) (are_apart is_base nets) (and_from (macs && apart) (list_all is_block nets) (and_from macs apart are.unicast are.apart) are.small) are.once)

-- the MAC is a new one
abbrev IsNewGuard : List Guard → ℕ → Type 0
IsNewGuard before m = IsTrue (is_mac m) × IsTrue (list_all (λ guard. not (guard.mac == m)) before)

guard_mac_given : (number : ℕ) (before : List Guard) (text : List ℕ) → IfOk (guard_mac number before text) (IsNewGuard before)
guard_mac_given number before text =
    goes_on (λ m. IsTrue (is_mac m)) (IsNewGuard before) (mac number text) _ (mac_given number text) (λ m is.
    not_refused (IsNewGuard before) (list_any (guards_mac m) before) (Ok m) (BadAddress number) (λ new. (is, none_any (guards_mac m) before new)))

-- the prefixes are new ones
abbrev AreNewNets : List Guard → List Block → Type 0
AreNewNets before nets = IsTrue (list_all is_block nets) × IsTrue (are_apart is_base (flat_map nets_of before ++ nets))

new_nets_given : (number : ℕ) (before : List Guard) (nets : List Block) (texts : List (List ℕ)) → AreNewNets before nets → IfOk (new_nets number before nets texts) (AreNewNets before)
new_nets_given number before nets [] are = are
new_nets_given number before nets (text ∷ texts) are =
    goes_on (λ p. IsTrue (is_block p)) (AreNewNets before) (prefix number text) _ (prefix_given number text) (λ p is.
    not_refused (AreNewNets before) (list_any (has_net p) before || list_any (is_base p) nets) (new_nets number before (nets ++ p ∷ []) texts) (BadAddress number) (λ new.
    new_nets_given number before (nets ++ p ∷ []) texts
    (all_push is_block nets p are.0 is, fresh nets_of has_net is_base before nets p (λ q. numbers_sym q.base.0 p.base.0) (λ guard differs. differs) new are.1)))

guarded_given : (number : ℕ) (before : List Guard) (texts : List (List ℕ)) → IsTrue (are_guards before) → IfOk (guarded number before texts) (λ guard. IsTrue (are_guards (before ++ guard ∷ [])))
guarded_given number before [] are = tt
guarded_given number before (text ∷ texts) are =
    let own = set_so before (flat_map nets_of before) are in
    goes_on (IsNewGuard before) (λ guard. IsTrue (are_guards (before ++ guard ∷ []))) (guard_mac number before text) _ (guard_mac_given number before text) (λ m new.
    goes_on (AreNewNets before) (λ guard. IsTrue (are_guards (before ++ guard ∷ []))) (new_nets number before [] texts) _ (new_nets_given number before [] texts (refl, rw append-nil own.once)) (λ nets news.
    guard_pushed before (record { mac = m; nets = nets }) (record {
      unicast = all_push (λ guard. is_mac guard.mac) before (record { mac = m; nets = nets }) own.unicast new.0;
      apart = apart_push (λ a b. a.mac == b.mac) before (record { mac = m; nets = nets }) own.apart new.1;
      small = all_append is_block (flat_map nets_of before) nets own.small news.0;
      once = news.1;
    })))

pub guards_given : (before : List Guard) (number : ℕ) (words : List Word) → IsTrue (are_guards before) → IfOk (guards before number words) (λ all. IsTrue (are_guards all))
guards_given before number [] are = are
guards_given before number (word ∷ words) are =
    goes_on (λ guard. IsTrue (are_guards (before ++ guard ∷ []))) (λ all. IsTrue (are_guards all)) (next_guard number before word.text) _ (guarded_given number before (parts word.text) are)
    (λ guard more. guards_given (before ++ guard ∷ []) (number + 1) words more)
