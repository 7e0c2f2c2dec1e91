-- How long the lines of a generated network are.
use Rattle.std.proofs.Common.{◌≡◌, ℕ, zero, suc, ◌+◌, ◌*◌, ◌/◌, ◌%◌, ◌<◌, ◌≤◌, List, [], ◌∷◌, ◌++◌, length, map, sum_by, codes, decimal, refl, ap, arith}
use Rattle.std.specs.List.{flat_map, range_with_len}
use Rattle.std.proofs.lemmas.Fmt.{length-decimal-le}
use Rattle.std.proofs.lemmas.List.{length-append, map-append}
use Rattle.std.proofs.lemmas.List.Sums.{sum_by-append, sum_by-cons}
use Rattle.nv_base.specs.Mac.{mac_text}
use Rattle.nv_generate.specs.Generated.{address_text, generated, line_text, lines_of_switch, most_ports, numbered, switch_count}
use Rattle.nv_generate.specs.declared.line.Line.{Line}
use Rattle.nv_generate.specs.declared.line.Line.TheVariants.{Router, Switch, RouterPort, Uplink, Acl, Host}
use Rattle.nv_generate.proofs.Joined.{joined}

-- a text that a number of at most five digits ends
numbered_short : (text : List ℕ) (n : ℕ) → n < 100000 → length (numbered text n) ≤ length text + 5
numbered_short text n small = omega (arith, length-append text (decimal n), length-decimal-le 5 n (omega arith) small (omega (arith, small)))

length-joined : (text : List ℕ) (others : List (List ℕ)) → length (joined text others) ≡ length text + sum_by length others
length-joined text [] = omega arith
length-joined text (more ∷ others) = omega (arith, length-joined (text ++ more) others, length-append text more, sum_by-cons length more others)

length-mac : (n : ℕ) → length (mac_text n) ≡ 17
length-mac n = refl

address_short : (k place : ℕ) → k < 100000 → place < 100000 → length (address_text k place) ≤ 16
address_short k place low few =
    omega (arith, length-append (numbered (codes "10.1.") k) (numbered (codes ".") place), numbered_short (codes "10.1.") k low, numbered_short (codes ".") place few)

-- the bytes of lines
abbrev bytes : List Line → ℕ
bytes lines = sum_by length (map line_text lines)

-- those that make a switch
switch_short : (k : ℕ) → k < 100000 → length (line_text (Switch k)) ≤ 200
switch_short k low = omega (arith, numbered_short (codes "ls-add g") k low)

router_port_short : (k : ℕ) → k < 100000 → length (line_text (RouterPort k)) ≤ 200
router_port_short k low =
    let one = codes "lrp-add gr r" in
    let mac = mac_text (0x020100000000 + k) in
    omega (
      arith,
      length-joined (numbered one k) (codes " " ∷ mac ∷ codes " " ∷ address_text k 1 ∷ codes "/24" ∷ []),
      sum_by-cons length (codes " ") (mac ∷ codes " " ∷ address_text k 1 ∷ codes "/24" ∷ []),
      sum_by-cons length mac (codes " " ∷ address_text k 1 ∷ codes "/24" ∷ []),
      sum_by-cons length (codes " ") (address_text k 1 ∷ codes "/24" ∷ []),
      sum_by-cons length (address_text k 1) (codes "/24" ∷ []),
      numbered_short one k low,
      length-mac (0x020100000000 + k),
      address_short k 1 low (omega arith),
    )

uplink_short : (k : ℕ) → k < 100000 → length (line_text (Uplink k)) ≤ 200
uplink_short k low =
    let a = codes "lsp-add g" in
    let b = codes " s" in
    let c = codes " -- lsp-set-type s" in
    let d = codes " router -- lsp-set-addresses s" in
    let e = codes " router -- lsp-set-options s" in
    let f = codes " router-port=r" in
    omega (
      arith,
      length-joined (numbered a k) (numbered b k ∷ numbered c k ∷ numbered d k ∷ numbered e k ∷ numbered f k ∷ []),
      sum_by-cons length (numbered b k) (numbered c k ∷ numbered d k ∷ numbered e k ∷ numbered f k ∷ []),
      sum_by-cons length (numbered c k) (numbered d k ∷ numbered e k ∷ numbered f k ∷ []),
      sum_by-cons length (numbered d k) (numbered e k ∷ numbered f k ∷ []),
      sum_by-cons length (numbered e k) (numbered f k ∷ []),
      numbered_short a k low,
      numbered_short b k low,
      numbered_short c k low,
      numbered_short d k low,
      numbered_short e k low,
      numbered_short f k low,
    )

acl_short : (k : ℕ) → k < 100000 → length (line_text (Acl k)) ≤ 200
acl_short k low =
    omega (arith, length-joined (numbered (codes "acl-add g") k) (codes " to-lport 1000 'ip4 && tcp.dst == 22' drop" ∷ []), numbered_short (codes "acl-add g") k low)

host_short : (i : ℕ) → i < 100000 → length (line_text (Host i)) ≤ 200
host_short i low =
    let k = i / 100 in
    let small : k < 100000 = omega (arith, low) in
    let place : i % 100 + 2 < 100000 = omega arith in
    let a = codes "lsp-add g" in
    let b = codes " p" in
    let c = codes " -- lsp-set-addresses p" in
    let mac = mac_text (0x020000000000 + i) in
    let at = address_text k (i % 100 + 2) in
    omega (
      arith,
      length-joined (numbered a k) (numbered b i ∷ numbered c i ∷ codes " '" ∷ mac ∷ codes " " ∷ at ∷ codes "'" ∷ []),
      sum_by-cons length (numbered b i) (numbered c i ∷ codes " '" ∷ mac ∷ codes " " ∷ at ∷ codes "'" ∷ []),
      sum_by-cons length (numbered c i) (codes " '" ∷ mac ∷ codes " " ∷ at ∷ codes "'" ∷ []),
      sum_by-cons length (codes " '") (mac ∷ codes " " ∷ at ∷ codes "'" ∷ []),
      sum_by-cons length mac (codes " " ∷ at ∷ codes "'" ∷ []),
      sum_by-cons length (codes " ") (at ∷ codes "'" ∷ []),
      sum_by-cons length at (codes "'" ∷ []),
      numbered_short a k small,
      numbered_short b i low,
      numbered_short c i low,
      length-mac (0x020000000000 + i),
      address_short k (i % 100 + 2) small place,
    )

-- those that make switches
switches_short : (first count : ℕ) → first + count ≤ 100000 → bytes (flat_map lines_of_switch (range_with_len first count)) ≤ count * 800
switches_short first zero within = omega arith
switches_short first (suc count) within =
    let rest = flat_map lines_of_switch (range_with_len (first + 1) count) in
    let low : first < 100000 = omega (arith, within) in
    omega (
      arith,
      sum_by-cons length (line_text (Switch first)) (map line_text (RouterPort first ∷ Uplink first ∷ Acl first ∷ rest)),
      sum_by-cons length (line_text (RouterPort first)) (map line_text (Uplink first ∷ Acl first ∷ rest)),
      sum_by-cons length (line_text (Uplink first)) (map line_text (Acl first ∷ rest)),
      sum_by-cons length (line_text (Acl first)) (map line_text rest),
      switch_short first low,
      router_port_short first low,
      uplink_short first low,
      acl_short first low,
      switches_short (first + 1) count (omega (arith, within)),
    )

-- those that make hosts
hosts_short : (first count : ℕ) → first + count ≤ 100000 → bytes (map Host (range_with_len first count)) ≤ count * 200
hosts_short first zero within = omega arith
hosts_short first (suc count) within =
    omega (
      arith,
      sum_by-cons length (line_text (Host first)) (map line_text (map Host (range_with_len (first + 1) count))),
      host_short first (omega (arith, within)),
      hosts_short (first + 1) count (omega (arith, within)),
    )

-- all lines of a network that may be generated have less than 4,000,000 bytes
pub generated_short : (ports : ℕ) → ports ≤ most_ports → sum_by length (generated ports) < 4000000
unfolding generated
generated_short ports few =
    let switches = flat_map lines_of_switch (range_with_len 0 (switch_count ports)) in
    let hosts = map Host (range_with_len 0 ports) in
    omega (
      arith,
      sum_by-cons length (line_text Router) (map line_text (switches ++ hosts)),
      ap (sum_by length) (map-append line_text switches hosts),
      sum_by-append length (map line_text switches) (map line_text hosts),
      switches_short 0 (switch_count ports) (omega (arith, few)),
      hosts_short 0 ports (omega (arith, few)),
      few,
    )
