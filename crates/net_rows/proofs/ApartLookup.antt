-- No two rules of the lookup of a port agree in stage, priority and match.
use Rattle.std.proofs.Common.{◌≡◌, ◌≢◌, ℕ, ◌<◌, ◌^◌, Bool, true, false, ◌==◌, ◌&&◌, List, [], ◌∷◌, ◌++◌, map, Option, Some, None, ◌⊎◌, inl, inr, refl, sym, ◌∙◌, arith}
use Rattle.std.specs.Prelude.{if◌then◌else◌}
use Rattle.std.specs.Bool.{IsTrue}
use Rattle.std.specs.List.{AllByRecursion, Contains, flat_map, list_any}
use Rattle.std.proofs.lemmas.Bool.{eq-eqb, false≢true}
use Rattle.nv_base.specs.Name.{is_object_name}
use Rattle.nv_base.specs.declared.ip4.Ip4.{Ip4}
use Rattle.nb_records.specs.declared.switch.Addr.{Addr}
use Rattle.nb_records.specs.declared.switch.Addr.TheVariants as addr
use Rattle.nb_model.specs.Belongs.{is_router_kind}
use Rattle.nb_model.specs.Readable.{ips_of, macs_of}
use Rattle.nb_model.specs.Ports.{is_router_word}
use Rattle.net_rows.specs.Lookup.{arp_rules, arp_rules_of, host_rules, looked_up, lookup_rule, more_macs, port_l2_rules}
use Rattle.net_rows.specs.declared.inputs.PortL2Input.{PortL2Input}
use Rattle.net_rows.specs.declared.rule.Rule.{Rule}
use Rattle.net_rows.proofs.Differ.{HasPrintable, RulesDiffer, by_number, by_priority, by_stage}
use Rattle.net_rows.proofs.Elements.{any_from, every_append, one_of, one_of_none, Contains-from_flat_map}
use Rattle.net_rows.proofs.Pairs.{Across, OfPairs, every_flat_map, every_member, every_piece, every_weaker, pairs_append, pairs_flat_map, pairs_map, pairs_pieces, pairs_weaker}
use Rattle.net_rows.proofs.PortMatches.{IsL2Input, arp_printable, lookup_printable, looked_up_below}
use Rattle.net_rows.proofs.PortParts.{IsLater, compared, is_arp, last_number}

-- ---- the rules of ARP replies

-- a rule of ARP replies
abbrev IsArp : Rule → Type 0
IsArp r = (is_arp r.stage ≡ true) × IsLater r

-- addresses of 32 bits
abbrev IsLow : Ip4 → Type 0
IsLow ip = ip.0 < 2 ^ 32

-- two addresses
abbrev Other : Ip4 → Ip4 → Type 0
Other a b = a.0 ≢ b.0

-- a rule for an address, which is in the last operand
record IsFor (ip : ℕ) (r : Rule) : Type 0 where
  asked : last_number r.matching ≡ ip
  printable : HasPrintable r

each_for_ip : (name : List ℕ) (mac : ℕ) (ip : Ip4) → AllByRecursion HasPrintable (arp_rules name mac ip) → AllByRecursion (IsFor ip.0) (arp_rules name mac ip)
each_for_ip name mac ip (p, (q, none)) = (record { asked = refl; printable = p }, (record { asked = refl; printable = q }, tt))

-- the rules for two addresses differ
ips_apart : (i j : ℕ) (r s : Rule) → i ≢ j → IsFor i r → IsFor j s → RulesDiffer r s
ips_apart i j r s other of_r of_s = by_number last_number r s of_r.printable of_s.printable (λ same. other (sym of_r.asked ∙ same ∙ of_s.asked))

-- those for one are at two priorities
one_ip_apart : (name : List ℕ) (mac : ℕ) (ip : Ip4) → OfPairs RulesDiffer (arp_rules name mac ip)
one_ip_apart name mac ip = ((by_priority _ _ (λ (same : 100 ≡ 50). absurd (omega arith)), tt), (tt, tt))

module _ (name : List ℕ) (named : IsTrue (is_object_name name)) where
  for_ip : (mac : ℕ) (ip : Ip4) → IsLow ip → AllByRecursion (IsFor ip.0) (arp_rules name mac ip)
  for_ip mac ip low = each_for_ip name mac ip (arp_printable name mac ip named low)

  -- a rule of an address of a port is for one of the IPv4 addresses in it
  for_address : (address : Addr) (r : Rule) → AllByRecursion IsLow (ips_of address) → Contains (arp_rules_of name address) r → (ip : Ip4) × Contains (ips_of address) ip × IsFor ip.0 r
  for_address (addr.Host mac ips) r low there =
      let at = Contains-from_flat_map (arp_rules name mac) ips r there in
      (at.0, at.1, every_member (IsFor at.0.0) (arp_rules name mac at.0) r (for_ip mac at.0 (every_member IsLow ips at.0 low at.1)) at.2)
  for_address addr.Unknown r low there = absurd (one_of_none r there)
  for_address addr.Router r low there = absurd (one_of_none r there)

  address_apart : (address : Addr) → AllByRecursion IsLow (ips_of address) → OfPairs Other (ips_of address) → OfPairs RulesDiffer (arp_rules_of name address)
  address_apart (addr.Host mac ips) low others =
      pairs_flat_map RulesDiffer (arp_rules name mac) ips (each ips)
      (pairs_weaker IsLow Other (λ a b. Across RulesDiffer (arp_rules name mac a) (arp_rules name mac b)) ips
      (λ a b low_a low_b other r s in_a in_b.
      ips_apart a.0 b.0 r s other (every_member (IsFor a.0) (arp_rules name mac a) r (for_ip mac a low_a) in_a) (every_member (IsFor b.0) (arp_rules name mac b) s (for_ip mac b low_b) in_b))
      low others)
    where
      each : (xs : List Ip4) → AllByRecursion (λ ip. OfPairs RulesDiffer (arp_rules name mac ip)) xs
      each [] = tt
      each (ip ∷ xs) = (one_ip_apart name mac ip, each xs)
  address_apart addr.Unknown low others = tt
  address_apart addr.Router low others = tt

  -- the rules of the addresses of a port
  addresses_apart : (addresses : List Addr) → AllByRecursion IsLow (flat_map ips_of addresses) → OfPairs Other (flat_map ips_of addresses) → OfPairs RulesDiffer (flat_map (arp_rules_of name) addresses)
  addresses_apart addresses low others =
      let pieces = pairs_pieces Other ips_of addresses others in
      let lows = every_piece IsLow ips_of addresses low in
      pairs_flat_map RulesDiffer (arp_rules_of name) addresses (own addresses lows pieces.0)
      (pairs_weaker (λ address. AllByRecursion IsLow (ips_of address)) (λ x y. Across Other (ips_of x) (ips_of y)) (λ x y. Across RulesDiffer (arp_rules_of name x) (arp_rules_of name y)) addresses
      (λ x y low_x low_y across r s in_x in_y.
      let at_r = for_address x r low_x in_x in
      let at_s = for_address y s low_y in_y in
      ips_apart at_r.0.0 at_s.0.0 r s (across at_r.0 at_s.0 at_r.1 at_s.1) at_r.2 at_s.2)
      lows pieces.1)
    where
      own : (xs : List Addr) → AllByRecursion (λ address. AllByRecursion IsLow (ips_of address)) xs → AllByRecursion (λ address. OfPairs Other (ips_of address)) xs
          → AllByRecursion (λ address. OfPairs RulesDiffer (arp_rules_of name address)) xs
      own [] low_each others_each = tt
      own (x ∷ xs) low_each others_each = (address_apart x low_each.0 others_each.0, own xs low_each.1 others_each.1)

-- the stages of these rules
ips_arp : (name : List ℕ) (mac : ℕ) (ips : List Ip4) → AllByRecursion (λ ip. AllByRecursion IsArp (arp_rules name mac ip)) ips
ips_arp name mac [] = tt
ips_arp name mac (ip ∷ ips) = (((refl, refl), ((refl, refl), tt)), ips_arp name mac ips)

address_arp : (name : List ℕ) (address : Addr) → AllByRecursion IsArp (arp_rules_of name address)
address_arp name (addr.Host mac ips) = every_flat_map IsArp (arp_rules name mac) ips (ips_arp name mac ips)
address_arp name addr.Unknown = tt
address_arp name addr.Router = tt

addresses_arp : (name : List ℕ) (addresses : List Addr) → AllByRecursion (λ address. AllByRecursion IsArp (arp_rules_of name address)) addresses
addresses_arp name [] = tt
addresses_arp name (x ∷ xs) = (address_arp name x, addresses_arp name xs)

-- ---- the MACs that are looked up

abbrev OtherMacs : ℕ → ℕ → Type 0
OtherMacs m n = m ≢ n

-- an element of a list of one
only : (mac n : ℕ) → Contains (mac ∷ []) n → mac ≡ n
only mac n there = first (one_of mac [] n there)
  where
    first : (mac ≡ n) ⊎ Contains [] n → mac ≡ n
    first (inl same) = same
    first (inr none) = absurd (one_of_none n none)

no_more : (own : List ℕ) → OfPairs OtherMacs own → OfPairs OtherMacs (own ++ [])
no_more own others = pairs_append OtherMacs own [] others tt (λ m n in_own none. absurd (one_of_none n none))

-- one more, where it is not there
one_more : (own : List ℕ) (mac : ℕ) → OfPairs OtherMacs own → OfPairs OtherMacs (own ++ more_macs (Some mac) own)
one_more own mac others = by (list_any (λ (m : ℕ). m == mac) own) refl
  where
    by : (b : Bool) → list_any (λ (m : ℕ). m == mac) own ≡ b → OfPairs OtherMacs (own ++ (if b then [] else mac ∷ []))
    by true is = no_more own others
    by false is =
        pairs_append OtherMacs own (mac ∷ []) others (tt, tt)
        (λ m n in_own in_new same. false≢true (sym is ∙ any_from (λ (k : ℕ). k == mac) own m in_own (eq-eqb m mac (same ∙ sym (only mac n in_new)))))

more_apart : (peer : Option ℕ) (own : List ℕ) → OfPairs OtherMacs own → OfPairs OtherMacs (own ++ more_macs peer own)
more_apart None own others = no_more own others
more_apart (Some mac) own others = one_more own mac others

-- none is there twice
looked_up_apart : (input : PortL2Input) → OfPairs OtherMacs (flat_map macs_of input.addresses) → OfPairs OtherMacs (looked_up input)
looked_up_apart input others = by (is_router_kind input.kind && list_any is_router_word input.addresses)
  where
    by : (b : Bool) → OfPairs OtherMacs (flat_map macs_of input.addresses ++ (if b then more_macs input.peer_mac (flat_map macs_of input.addresses) else []))
    by true = more_apart input.peer_mac (flat_map macs_of input.addresses) others
    by false = no_more (flat_map macs_of input.addresses) others

-- ---- the rules of the lookup

lookups_apart : (name : List ℕ) (macs : List ℕ) → AllByRecursion (λ (mac : ℕ). mac < 2 ^ 48) macs → OfPairs OtherMacs macs → OfPairs RulesDiffer (map (lookup_rule name) macs)
lookups_apart name macs low others =
    pairs_map RulesDiffer (lookup_rule name) macs
    (pairs_weaker (λ (mac : ℕ). mac < 2 ^ 48) OtherMacs (λ m n. RulesDiffer (lookup_rule name m) (lookup_rule name n)) macs
    (λ m n low_m low_n other. by_number compared (lookup_rule name m) (lookup_rule name n) (lookup_printable name m low_m) (lookup_printable name n low_n) other) low others)

-- a rule of the lookup
abbrev IsLookup : Rule → Type 0
IsLookup r = (is_arp r.stage ≡ false) × IsLater r

lookups_later : (name : List ℕ) (macs : List ℕ) → AllByRecursion IsLookup (map (lookup_rule name) macs)
lookups_later name [] = tt
lookups_later name (mac ∷ macs) = ((refl, refl), lookups_later name macs)

-- ---- the rules of a port

host_arp : (input : PortL2Input) → AllByRecursion IsArp (host_rules input)
host_arp input = by (is_router_kind input.kind)
  where
    by : (b : Bool) → AllByRecursion IsArp (if b then [] else flat_map (arp_rules_of input.name) input.addresses)
    by true = tt
    by false = every_flat_map IsArp (arp_rules_of input.name) input.addresses (addresses_arp input.name input.addresses)

host_apart : (input : PortL2Input) → IsL2Input input → OfPairs Other (flat_map ips_of input.addresses) → OfPairs RulesDiffer (host_rules input)
host_apart input is others = by (is_router_kind input.kind)
  where
    by : (b : Bool) → OfPairs RulesDiffer (if b then [] else flat_map (arp_rules_of input.name) input.addresses)
    by true = tt
    by false = addresses_apart input.name is.named input.addresses is.ips others

pub port_l2_apart : (input : PortL2Input) → IsL2Input input → OfPairs OtherMacs (flat_map macs_of input.addresses) → OfPairs Other (flat_map ips_of input.addresses) → OfPairs RulesDiffer (port_l2_rules input)
unfolding port_l2_rules
port_l2_apart input is other_macs other_ips = by input.enabled
  where
    by : (b : Bool) → OfPairs RulesDiffer (if b then host_rules input ++ map (lookup_rule input.name) (looked_up input) else [])
    by true =
        let lookups = map (lookup_rule input.name) (looked_up input) in
        pairs_append RulesDiffer (host_rules input) lookups (host_apart input is other_ips)
        (lookups_apart input.name (looked_up input) (looked_up_below input is) (looked_up_apart input other_macs))
        (λ r s in_host in_lookups.
        by_stage is_arp r s (every_member IsArp (host_rules input) r (host_arp input) in_host).0 (every_member IsLookup lookups s (lookups_later input.name (looked_up input)) in_lookups).0)
    by false = tt

-- their stages are later than those of port security
pub port_l2_stages : (input : PortL2Input) → AllByRecursion IsLater (port_l2_rules input)
unfolding port_l2_rules
port_l2_stages input = by input.enabled
  where
    by : (b : Bool) → AllByRecursion IsLater (if b then host_rules input ++ map (lookup_rule input.name) (looked_up input) else [])
    by true =
        let lookups = map (lookup_rule input.name) (looked_up input) in
        every_append IsLater (host_rules input) lookups
        (every_weaker IsArp IsLater (host_rules input) (λ r is. is.1) (host_arp input))
        (every_weaker IsLookup IsLater lookups (λ r is. is.1) (lookups_later input.name (looked_up input)))
    by false = tt
