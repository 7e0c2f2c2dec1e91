-- A group lists a port that has an address, asked of the ports that have it, and not of those that are listed.
use Rattle.std.proofs.Common.{◌≡◌, ℕ, ◌<◌, Bool, true, false, cond, ◌==◌, ◌&&◌, ◌||◌, List, [], ◌∷◌, ◌++◌, length, map, Option, Some, None, refl, sym, ap, ◌∙◌, arith}
use Rattle.std.specs.Prelude.{find, nat_le, is_some}
use Rattle.std.specs.Bool.{IsTrue}
use Rattle.std.specs.Cmp.{unsigned_tied}
use Rattle.std.specs.List.{AllByRecursion, flat_map, list_any}
use Rattle.std.specs.Ordering.{is_eq}
use Rattle.std.proofs.lemmas.Bool.{and_parts}
use Rattle.std.proofs.lemmas.Bool.Decides.{nat_tests}
use Rattle.nv_base.specs.declared.ip4.Ip4.{Ip4}
use Rattle.nv_base.specs.declared.object.ObjId.{ObjId}
use Rattle.nb_records.specs.Tags.{tag_cmp, port_tags, peer_tags, ips_of, ip_tags, most_told}
use Rattle.nb_records.specs.declared.sets.Group.{Group}
use Rattle.nb_records.specs.declared.switch.Port.{Port}
use Rattle.nb_records.specs.declared.switch.PortKind.{PortKind}
use Rattle.nb_records.specs.declared.switch.PortKind.TheVariants as kind
use Rattle.nb_records.specs.declared.tag.Tag.{Tag}
use Rattle.nb_records.specs.declared.tag.Tag.TheVariants.{Names, Has, HasMany}
use Rattle.nb_model.specs.Belongs.{is_among}
use Rattle.nb_model.specs.Names.{group_has_address, has_address, ports_of_group}
use Rattle.nb_model.specs.Network.{Network, group_named}
use Rattle.nb_model.proofs.RecordLists.{found_holds}
use Rattle.nv_table.specs.Table.{NumbersRise, has_tag, is_after, record_of}
use Rattle.nb_store.specs.inner.Listed.{lists, has_ip}
use Rattle.nb_store.proofs.AclLikes.{none_narrow, found_narrow, next_like}
use Rattle.nb_store.proofs.Found.{turned}
use Rattle.nb_store.proofs.Listed.{listed}

-- ---- tests of some element

none_passes : {X : Type 0} (xs : List X) → list_any (λ (x : X). false) xs ≡ false
none_passes [] = refl
none_passes (x ∷ xs) = none_passes xs

any_or : {X : Type 0} (p q : X → Bool) (xs : List X) → list_any (λ x. p x || q x) xs ≡ (list_any p xs || list_any q xs)
any_or p q [] = refl
any_or {X} p q (x ∷ xs) = ap (λ b. (p x || q x) || b) (any_or p q xs) ∙ by (p x) (q x) (list_any p xs) (list_any q xs)
  where
    by : (a b c d : Bool) → ((a || b) || (c || d)) ≡ ((a || c) || (b || d))
    by true b c d = refl
    by false true true d = refl
    by false true false d = refl
    by false false c d = refl

any_swapped : {X Y : Type 0} (t : X → Y → Bool) (xs : List X) (ys : List Y) → list_any (λ x. list_any (t x) ys) xs ≡ list_any (λ y. list_any (λ x. t x y) xs) ys
any_swapped t [] ys = sym (none_passes ys)
any_swapped t (x ∷ xs) ys = ap (λ b. list_any (t x) ys || b) (any_swapped t xs ys) ∙ sym (any_or (t x) (λ y. list_any (λ x. t x y) xs) ys)

any_same : {X : Type 0} (p q : X → Bool) → ((x : X) → p x ≡ q x) → (xs : List X) → list_any p xs ≡ list_any q xs
any_same p q agree xs = ap (λ test. list_any test xs) (λ i x. agree x i)

any_found : {X : Type 0} (p : X → Bool) (xs : List X) → is_some (find p xs) ≡ list_any p xs
any_found p [] = refl
any_found {X} p (x ∷ xs) = by (p x) (any_found p xs)
  where
    by : (b : Bool) → is_some (find p xs) ≡ list_any p xs → is_some (cond b (Some x) (find p xs)) ≡ (b || list_any p xs)
    by true rest = refl
    by false rest = rest

-- ---- one port after another that has a tag

module _ (after : Option ObjId) (says rest : Port → Bool) (ports : List Port) where
  abbrev like : Port → Bool
  like p = says p && rest p

  narrow : (p : Port) → IsTrue (like p) → IsTrue (says p)
  narrow p is = (and_parts (says p) (rest p) is).0

  first_two : (a b c : Bool) → IsTrue (a && (b && c)) → IsTrue (a && b)
  first_two true b c is = (and_parts b c is).0
  first_two false b c is = is

  narrow_left : (p : Port) → IsTrue (is_after after p.id && like p) → IsTrue (is_after after p.id && says p)
  narrow_left p is = first_two (is_after after p.id) (says p) (rest p) is

  pub none_left : None ≡ find (λ p. is_after after p.id && says p) ports → find (λ p. is_after after p.id && like p) ports ≡ find like ports → false ≡ list_any like ports
  none_left none kept =
      ap is_some (sym (none_narrow (λ p. is_after after p.id && says p) (λ p. is_after after p.id && like p) narrow_left ports (sym none)) ∙ kept) ∙ any_found like ports

  module _ (port : Port) (found : Some port ≡ find (λ p. is_after after p.id && says p) ports) where
    holds : IsTrue (is_after after port.id && says port)
    holds = found_holds (λ p. is_after after p.id && says p) ports port (sym found)

    is_like : rest port ≡ true → (is_after after port.id && like port) ≡ true
    is_like is = let parts = and_parts (is_after after port.id) (says port) holds in λ i. parts.0 i && (parts.1 i && is i)

    not_like : rest port ≡ false → like port ≡ false
    not_like is = λ i. (and_parts (is_after after port.id) (says port) holds).1 i && is i

    pub found_one : rest port ≡ true → find (λ p. is_after after p.id && like p) ports ≡ find like ports → true ≡ list_any like ports
    found_one is kept =
        ap is_some (sym (found_narrow (λ p. is_after after p.id && says p) (λ p. is_after after p.id && like p) narrow_left port ports (sym found) (is_like is)) ∙ kept) ∙ any_found like ports

    pub next_left : NumbersRise (λ (p : Port). p.id) ports → rest port ≡ false → find (λ p. is_after after p.id && like p) ports ≡ find like ports
        → find (λ p. is_after (Some port.id) p.id && like p) ports ≡ find like ports
    next_left rise is kept = next_like (λ (p : Port). p.id) after says like narrow port ports (sym found) (not_like is) rise ∙ kept

-- ---- what the tags say

same_ip : (value : ℕ) (ip : Ip4) → is_eq (tag_cmp (Has (record { 0 = value })) (Has ip)) ≡ (ip.0 == value)
same_ip value ip = unsigned_tied value ip.0 ∙ turned value ip.0

has_each : (value : ℕ) (ips : List Ip4) → list_any (λ tag. is_eq (tag_cmp (Has (record { 0 = value })) tag)) (map Has ips) ≡ list_any (λ ip. ip.0 == value) ips
has_each value [] = refl
has_each value (ip ∷ ips) = λ i. same_ip value ip i || has_each value ips i

-- a peer's name is not what is asked for
no_peer : (test : Tag → Bool) → ((name : List ℕ) → test (Names name) ≡ false) → (kind : PortKind) (peer : Option (List ℕ)) (tags : List Tag) → list_any test (peer_tags kind peer ++ tags) ≡ list_any test tags
no_peer test none kind.Router (Some name) tags = ap (λ b. b || list_any test tags) (none name)
no_peer test none kind.Router None tags = refl
no_peer test none kind.Host peer tags = refl

-- a port that has the address has the address's tag, or that of many addresses
told_or_many : (value : ℕ) (ips : List Ip4) → IsTrue (list_any (λ ip. ip.0 == value) ips)
    → (list_any (λ tag. is_eq (tag_cmp (Has (record { 0 = value })) tag)) (ip_tags ips) || list_any (λ tag. is_eq (tag_cmp HasMany tag)) (ip_tags ips)) ≡ true
told_or_many value ips is = by (nat_le (length ips) most_told)
  where
    by : (b : Bool) → (list_any (λ tag. is_eq (tag_cmp (Has (record { 0 = value })) tag)) (cond b (map Has ips) (HasMany ∷ [])) || list_any (λ tag. is_eq (tag_cmp HasMany tag)) (cond b (map Has ips) (HasMany ∷ []))) ≡ true
    by true = ap (λ b. b || list_any (λ tag. is_eq (tag_cmp HasMany tag)) (map Has ips)) (has_each value ips ∙ is)
    by false = refl

tagged_port : (value : ℕ) (p : Port) → IsTrue (has_ip value p) → (has_tag port_tags (tag_cmp (Has (record { 0 = value }))) p || has_tag port_tags (tag_cmp HasMany) p) ≡ true
tagged_port value p is =
    (λ i. no_peer (λ tag. is_eq (tag_cmp (Has (record { 0 = value })) tag)) (λ name. refl) p.kind p.router_port (ip_tags (flat_map ips_of p.addresses)) i
    || no_peer (λ tag. is_eq (tag_cmp HasMany tag)) (λ name. refl) p.kind p.router_port (ip_tags (flat_map ips_of p.addresses)) i)
    ∙ told_or_many value (flat_map ips_of p.addresses) is

either_tag : (s t l q : Bool) → (IsTrue q → (s || t) ≡ true) → ((s && (l && q)) || (t && (l && q))) ≡ (l && q)
either_tag s t false q is = by s t
  where
    by : (s t : Bool) → ((s && false) || (t && false)) ≡ false
    by true true = refl
    by true false = refl
    by false true = refl
    by false false = refl
either_tag s t true false is = by s t
  where
    by : (s t : Bool) → ((s && false) || (t && false)) ≡ false
    by true true = refl
    by true false = refl
    by false true = refl
    by false false = refl
either_tag true t true true is = refl
either_tag false t true true is = let e = is refl in by t e
  where
    by : (t : Bool) → (false || t) ≡ true → ((false && (true && true)) || (t && (true && true))) ≡ true
    by true e = refl
    by false e = e

-- the ports of both tags are all that have the address
pub both_tags : (value : ℕ) (groups : List Group) (group : ObjId) (ports : List Port)
    → (list_any (λ p. has_tag port_tags (tag_cmp (Has (record { 0 = value }))) p && (lists groups group p.id && has_ip value p)) ports
    || list_any (λ p. has_tag port_tags (tag_cmp HasMany) p && (lists groups group p.id && has_ip value p)) ports)
    ≡ list_any (λ p. lists groups group p.id && has_ip value p) ports
both_tags value groups group ports =
    sym (any_or (λ p. has_tag port_tags (tag_cmp (Has (record { 0 = value }))) p && (lists groups group p.id && has_ip value p)) (λ p. has_tag port_tags (tag_cmp HasMany) p && (lists groups group p.id && has_ip value p)) ports)
    ∙ any_same _ _ (λ (p : Port). either_tag (has_tag port_tags (tag_cmp (Has (record { 0 = value }))) p) (has_tag port_tags (tag_cmp HasMany) p) (lists groups group p.id) (has_ip value p) (tagged_port value p)) ports

-- one of the ports that have the address's tag is listed, or else one of those that have many addresses
module _ (value : ℕ) (groups : List Group) (group : ObjId) (ports : List Port) where
  abbrev told_one : Bool
  told_one = list_any (λ p. has_tag port_tags (tag_cmp (Has (record { 0 = value }))) p && (lists groups group p.id && has_ip value p)) ports

  abbrev many_one : Bool
  many_one = list_any (λ p. has_tag port_tags (tag_cmp HasMany) p && (lists groups group p.id && has_ip value p)) ports

  pub by_told : (told : Bool) → told ≡ told_one → told ≡ true → told ≡ list_any (λ p. lists groups group p.id && has_ip value p) ports
  by_told told is found = found ∙ sym (ap (λ b. b || many_one) (sym is ∙ found)) ∙ both_tags value groups group ports

  pub by_many : (told many : Bool) → told ≡ told_one → told ≡ false → many ≡ many_one → many ≡ list_any (λ p. lists groups group p.id && has_ip value p) ports
  by_many told many is failed other = other ∙ sym (ap (λ b. b || many_one) (sym is ∙ failed)) ∙ both_tags value groups group ports

-- ---- a port of a number, among ports whose numbers rise

none_above : (h : Port → Bool) (n : ObjId) (p : Port) (ports : List Port) → (n.0 == p.id.0) ≡ true → AllByRecursion (λ (x : Port). p.id.0 < x.id.0) ports → list_any (λ x. (n.0 == x.id.0) && h x) ports ≡ false
none_above h n p [] is all = refl
none_above h n p (x ∷ ports) is all =
    let other : (n.0 == x.id.0) ≡ false = grind (arith, nat_tests, is, all.0) in
    ap (λ b. (b && h x) || list_any (λ x. (n.0 == x.id.0) && h x) ports) other ∙ none_above h n p ports is all.1

by_number : (value : ℕ) (n : ObjId) (ports : List Port) → NumbersRise (λ (p : Port). p.id) ports
    → has_address value (record_of (λ p. p.id) n ports) ≡ list_any (λ p. (n.0 == p.id.0) && has_ip value p) ports
by_number value n [] rise = refl
by_number value n (p ∷ ports) rise = by (n.0 == p.id.0) refl (by_number value n ports rise.1)
  where
    later : List Port → Bool
    later ports = list_any (λ p. (n.0 == p.id.0) && has_ip value p) ports

    or_none : (a b : Bool) → b ≡ false → a ≡ (a || b)
    or_none true b e = refl
    or_none false b e = sym e

    by : (b : Bool) → (n.0 == p.id.0) ≡ b → has_address value (record_of (λ p. p.id) n ports) ≡ later ports
        → has_address value (cond b (Some p) (record_of (λ p. p.id) n ports)) ≡ ((b && has_ip value p) || later ports)
    by true e rest = or_none (has_ip value p) (later ports) (none_above (has_ip value) n p ports e rise.0)
    by false e rest = rest

-- a number of a list is that of a port
of_list : (p : Port) (b : Bool) (numbers : List ObjId) → list_any (λ (n : ObjId). (n.0 == p.id.0) && b) numbers ≡ (is_among p.id numbers && b)
of_list p b [] = refl
of_list p b (n ∷ numbers) = (λ i. (turned n.0 p.id.0 i && b) || of_list p b numbers i) ∙ by (p.id.0 == n.0) (is_among p.id numbers) b
  where
    by : (a c b : Bool) → ((a && b) || (c && b)) ≡ ((a || c) && b)
    by true true true = refl
    by true true false = refl
    by true false true = refl
    by true false false = refl
    by false c b = refl

turned_round : (value : ℕ) (numbers : List ObjId) (ports : List Port) → NumbersRise (λ (p : Port). p.id) ports
    → list_any (λ n. has_address value (record_of (λ p. p.id) n ports)) numbers ≡ list_any (λ p. is_among p.id numbers && has_ip value p) ports
turned_round value numbers ports rise =
    any_same _ _ (λ (n : ObjId). by_number value n ports rise) numbers
    ∙ any_swapped (λ (n : ObjId) (p : Port). (n.0 == p.id.0) && has_ip value p) numbers ports
    ∙ any_same _ _ (λ (p : Port). of_list p (has_ip value p) numbers) ports

-- the group of a name has the address exactly where it lists a port that has it
pub lists_reached : (net : Network) (name : List ℕ) (value : ℕ) (group : Group) → NumbersRise (λ (x : Group). x.id) net.groups → NumbersRise (λ (p : Port). p.id) net.ports
    → group_named net name ≡ Some group → list_any (λ p. lists net.groups group.id p.id && has_ip value p) net.ports ≡ group_has_address net name value
lists_reached net name value group groups_rise ports_rise found =
    any_same _ _ (λ (p : Port). ap (λ b. b && has_ip value p) (listed net name p.id group groups_rise found ∙ ap (λ o. is_among p.id (ports_of_group o)) found)) net.ports
    ∙ sym (turned_round value group.ports net.ports ports_rise)
    ∙ sym (ap (λ o. list_any (λ n. has_address value (record_of (λ p. p.id) n net.ports)) (ports_of_group o)) found)

pub no_address : (net : Network) (name : List ℕ) (value : ℕ) → group_named net name ≡ None → false ≡ group_has_address net name value
no_address net name value none = sym (ap (λ o. list_any (λ n. has_address value (record_of (λ p. p.id) n net.ports)) (ports_of_group o)) none)
