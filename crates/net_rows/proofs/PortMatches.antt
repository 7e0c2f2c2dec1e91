-- The rules of ports: their matches are well-typed, and can be told by their texts.
use Rattle.std.proofs.Common.{◌≡◌, ℕ, ◌+◌, ◌-◌, ◌*◌, ◌/◌, ◌^◌, ◌<◌, ◌≤◌, lit<, lit≤, Bool, true, false, not, nat_lt, ◌==◌, ◌&&◌, List, [], ◌∷◌, ◌++◌, map, Option, Some, None, refl, ap, subst, sym, ◌∙◌, arith}
use Rattle.std.specs.Prelude.{if◌then◌else◌, filter}
use Rattle.std.specs.Bool.{IsTrue}
use Rattle.std.specs.List.{AllByRecursion, flat_map, list_any}
use Rattle.std.proofs.lemmas.Nat.{div_below, mul-add-lt, pow-add, pow_pos}
use Rattle.nv_base.specs.Block.{Block}
use Rattle.nv_base.specs.Name.{is_object_name}
use Rattle.nv_base.specs.declared.field.Field.TheVariants.{Inport, Outport, EthSrc, EthDst, EthType, Ip4Src, Ip4Dst, ArpOp, ArpSpa, ArpTpa}
use Rattle.nv_base.specs.declared.ip4.Ip4.{Ip4}
use Rattle.nb_records.specs.declared.switch.Addr.{Addr}
use Rattle.nb_records.specs.declared.switch.Addr.TheVariants as addr
use Rattle.nb_records.specs.declared.switch.Guard.{Guard}
use Rattle.nb_model.specs.Belongs.{is_router_kind}
use Rattle.nb_model.specs.Readable.{ips_of, macs_of}
use Rattle.expr_core.specs.Formula.{Formula}
use Rattle.expr_core.specs.declared.comparison.Item.TheVariants.{One, Masked}
use Rattle.expr_core.specs.declared.typed.TypedAtom.{TypedAtom}
use Rattle.sb_model.specs.Make.{as_ip4, as_mac, differs, equals, in_decimal, in_hexadecimal, is_none_of, is_one_of, is_port, one_of}
use Rattle.nb_model.specs.Addresses.{has_host_part}
use Rattle.nb_model.specs.Ports.{is_router_word}
use Rattle.net_rows.specs.Lookup.{arp_rules, arp_rules_of, host_rules, looked_up, lookup_rule, more_macs, port_l2_rules}
use Rattle.net_rows.specs.PortSecurity.{arp_type, broadcast_of, closed_rules, disabled_rules, discovers, guard_rules, guarded_rules, ip4_type, ip6_type, item_of, items_for_many, lets_in_where, lets_out_where, open_rules, own_items, port_sec_rules, tells}
use Rattle.net_rows.specs.declared.inputs.PortL2Input.{PortL2Input}
use Rattle.net_rows.specs.declared.inputs.PortSecInput.{PortSecInput}
use Rattle.net_rows.specs.declared.rule.Rule.{Rule}
use Rattle.net_rows.proofs.Differ.{HasPrintable}
use Rattle.net_rows.proofs.Elements.{every_append}
use Rattle.net_rows.proofs.Operands.{IsAddress, IsOperand, a_network, an_address, asks_for, either_operand, from_addresses, from_mac, from_port, is_from_client, is_from_nowhere, is_no_arp, is_no_ip, is_no_ip_or_arp, is_request, is_to_all, is_to_server, joined_printable, leaf_printable, tells_address, tells_mac, to_addresses, to_mac, to_port}
use Rattle.net_rows.proofs.Pairs.{every_filter, every_flat_map, every_map, every_piece, every_weaker}
use Rattle.net_rows.proofs.SoundObjects.{IsBlock, IsGuard}

-- all can be told by their texts
abbrev ArePrintable : List Rule → Type 0
ArePrintable rules = AllByRecursion HasPrintable rules

-- ---- the addresses of guards

-- the last address of a network has 32 bits
last_below : (base len : ℕ) → base < 2 ^ 32 → len ≤ 32 → base / 2 ^ (32 - len) * 2 ^ (32 - len) + (2 ^ (32 - len) - 1) < 2 ^ 32
last_below base len low short =
    let size = 2 ^ (32 - len) in
    let some_are : 0 < size = pow_pos (32 - len) in
    let whole : 2 ^ 32 ≡ 2 ^ len * size = ap (λ (n : ℕ). 2 ^ n) (let sum : 32 ≡ len + (32 - len) = omega arith in sum) ∙ pow-add 2 len (32 - len) in
    let turned : 2 ^ 32 ≡ size * 2 ^ len = ap (λ (n : ℕ). 2 ^ n) (let sum : 32 ≡ 32 - len + len = omega arith in sum) ∙ pow-add 2 (32 - len) len in
    let row : base / size < 2 ^ len = div_below base size (2 ^ len) some_are (subst (λ (n : ℕ). base < n) whole low) in
    let within : size - 1 < size = omega arith in
    subst (λ (n : ℕ). base / size * size + (size - 1) < n) (sym turned) (mul-add-lt (base / size) size (size - 1) (2 ^ len) row within)

own_address : (net : Block) → IsBlock net → IsAddress (item_of net)
own_address net is = by (nat_lt net.len 32 && not (has_host_part net))
  where
    by : (b : Bool) → IsAddress (if b then Masked (as_ip4 net.base.0) (in_decimal net.len) else One (as_ip4 net.base.0))
    by true = a_network net.base.0 net.len is.base is.len
    by false = an_address net.base.0 is.base

broadcast_address : (net : Block) → IsBlock net → IsAddress (broadcast_of net)
broadcast_address net is = an_address _ (last_below net.base.0 net.len is.base is.len)

own_addresses : (nets : List Block) → AllByRecursion IsBlock nets → AllByRecursion IsAddress (map item_of nets)
own_addresses nets all = every_map IsAddress item_of nets (every_weaker IsBlock (λ net. IsAddress (item_of net)) nets own_address all)

addresses_for_many : (guard : Guard) → AllByRecursion IsBlock guard.nets → AllByRecursion IsAddress (items_for_many guard)
addresses_for_many guard all =
    every_append IsAddress (map broadcast_of (filter (λ (net : Block). nat_lt net.len 32 && has_host_part net) guard.nets)) (One (as_ip4 0xffff_ffff) ∷ Masked (as_ip4 0xe000_0000) (in_decimal 4) ∷ [])
    (broadcasts guard.nets all)
    (an_address 0xffff_ffff (lit< tt), (a_network 0xe000_0000 4 (lit< tt) (lit≤ tt), tt))
  where
    broadcasts : (nets : List Block) → AllByRecursion IsBlock nets → AllByRecursion IsAddress (map broadcast_of (filter (λ (net : Block). nat_lt net.len 32 && has_host_part net) nets))
    broadcasts nets of = every_map IsAddress broadcast_of _ (every_weaker IsBlock (λ net. IsAddress (broadcast_of net)) _ broadcast_address (every_filter IsBlock (λ (net : Block). nat_lt net.len 32 && has_host_part net) nets of))

-- ---- the rules of guards

module _ (name : List ℕ) (named : IsTrue (is_object_name name)) where
  -- what comes from a guard's MAC, and what goes to it, where it is more
  lets_in_printable : (guard : Guard) (terms : List (Formula TypedAtom)) → guard.mac < 2 ^ 48 → AllByRecursion IsOperand terms → HasPrintable (lets_in_where name guard terms)
  lets_in_printable guard terms low all = joined_printable (is_port Inport name) (equals EthSrc (as_mac guard.mac)) terms (from_port name named, (from_mac guard.mac low, all))

  lets_out_printable : (guard : Guard) (terms : List (Formula TypedAtom)) → guard.mac < 2 ^ 48 → AllByRecursion IsOperand terms → HasPrintable (lets_out_where name guard terms)
  lets_out_printable guard terms low all = joined_printable (is_port Outport name) (equals EthDst (as_mac guard.mac)) terms (to_port name named, (to_mac guard.mac low, all))

  open_printable : (guard : Guard) → guard.mac < 2 ^ 48 → ArePrintable (open_rules name guard)
  open_printable guard low = (
    lets_in_printable guard (one_of (tells guard.mac ∷ differs EthType (in_hexadecimal 0x806) ∷ []) ∷ []) low (either_operand _ _ (tells_mac guard.mac low) is_no_arp, tt),
    (lets_out_printable guard [] low tt, tt),
  )

  closed_printable : (mac : ℕ) (net : Block) (nets : List Block) → mac < 2 ^ 48 → AllByRecursion IsBlock (net ∷ nets) → ArePrintable (closed_rules name (record { mac = mac; nets = net ∷ nets }))
  closed_printable mac net nets low all =
      let guard : Guard = record { mac = mac; nets = net ∷ nets } in
      let own = own_addresses (net ∷ nets) all in
      let many = addresses_for_many guard all in (
        lets_in_printable guard (is_one_of Ip4Src (own_items guard) ∷ []) low (from_addresses (item_of net) (map item_of nets) own, tt),
        (
          lets_in_printable guard discovers low (is_from_nowhere, (is_to_all, (is_from_client, (is_to_server, tt)))),
          (
            lets_in_printable guard (tells mac ∷ is_one_of ArpSpa (own_items guard) ∷ []) low (tells_mac mac low, (tells_address (item_of net) (map item_of nets) own, tt)),
            (
              lets_in_printable guard (is_none_of EthType (ip4_type ∷ arp_type ∷ ip6_type ∷ []) ∷ []) low (is_no_ip_or_arp, tt),
              (
                lets_out_printable guard (is_one_of Ip4Dst (own_items guard ++ items_for_many guard) ∷ []) low
                    (to_addresses (item_of net) (map item_of nets ++ items_for_many guard) (every_append IsAddress (own_items guard) (items_for_many guard) own many), tt),
                (lets_out_printable guard (is_none_of EthType (ip4_type ∷ ip6_type ∷ []) ∷ []) low (is_no_ip, tt), tt),
              ),
            ),
          ),
        ),
      )

  pub guard_printable : (guard : Guard) → IsGuard guard → ArePrintable (guard_rules name guard)
  guard_printable guard is = by guard.nets is.nets
    where
      by : (nets : List Block) → AllByRecursion IsBlock nets → ArePrintable (guard_rules name (record { mac = guard.mac; nets = nets }))
      by [] all = open_printable (record { mac = guard.mac; nets = [] }) is.mac
      by (net ∷ nets) all = closed_printable guard.mac net nets is.mac all

  guarded_printable : (guards : List Guard) → AllByRecursion IsGuard guards → ArePrintable (guarded_rules name guards)
  guarded_printable [] all = tt
  guarded_printable (guard ∷ guards) all = (
    leaf_printable _ (from_port name named),
    (
      leaf_printable _ (to_port name named),
      every_flat_map HasPrintable (guard_rules name) (guard ∷ guards) (every_weaker IsGuard (λ g. ArePrintable (guard_rules name g)) (guard ∷ guards) guard_printable all),
    ),
  )

  disabled_printable : (enabled : Bool) → ArePrintable (disabled_rules enabled name)
  disabled_printable true = tt
  disabled_printable false = (leaf_printable _ (from_port name named), tt)

-- ---- what the rules of a port are made of

-- port security: a name, and guards
pub record IsSecInput (input : PortSecInput) : Type 0 where
  pub named : IsTrue (is_object_name input.name)
  pub guards : AllByRecursion IsGuard input.security

pub port_sec_printable : (input : PortSecInput) → IsSecInput input → ArePrintable (port_sec_rules input)
unfolding port_sec_rules
port_sec_printable input is =
    every_append HasPrintable (disabled_rules input.enabled input.name) (guarded_rules input.name input.security) (disabled_printable input.name is.named input.enabled)
    (guarded_printable input.name is.named input.security is.guards)

-- the lookup: a name, MACs and addresses
pub record IsL2Input (input : PortL2Input) : Type 0 where
  pub named : IsTrue (is_object_name input.name)
  pub macs : AllByRecursion (λ (mac : ℕ). mac < 2 ^ 48) (flat_map macs_of input.addresses)
  pub ips : AllByRecursion (λ (ip : Ip4). ip.0 < 2 ^ 32) (flat_map ips_of input.addresses)
  pub peer : (mac : ℕ) → input.peer_mac ≡ Some mac → mac < 2 ^ 48

-- ---- the rules of ARP replies

pub arp_printable : (name : List ℕ) (mac : ℕ) (ip : Ip4) → IsTrue (is_object_name name) → ip.0 < 2 ^ 32 → ArePrintable (arp_rules name mac ip)
arp_printable name mac ip named low = (
  joined_printable (is_port Inport name) (equals ArpOp (in_decimal 1)) (equals ArpTpa (as_ip4 ip.0) ∷ []) (from_port name named, (is_request, (asks_for ip.0 low, tt))),
  (joined_printable (equals ArpOp (in_decimal 1)) (equals ArpTpa (as_ip4 ip.0)) [] (is_request, (asks_for ip.0 low, tt)), tt),
)

arp_printable_of : (name : List ℕ) (address : Addr) → IsTrue (is_object_name name) → AllByRecursion (λ (ip : Ip4). ip.0 < 2 ^ 32) (ips_of address) → ArePrintable (arp_rules_of name address)
arp_printable_of name (addr.Host mac ips) named all =
    every_flat_map HasPrintable (arp_rules name mac) ips (every_weaker (λ (ip : Ip4). ip.0 < 2 ^ 32) (λ ip. ArePrintable (arp_rules name mac ip)) ips (λ ip low. arp_printable name mac ip named low) all)
arp_printable_of name addr.Unknown named all = tt
arp_printable_of name addr.Router named all = tt

-- ---- the rules of the lookup

pub lookup_printable : (name : List ℕ) (mac : ℕ) → mac < 2 ^ 48 → HasPrintable (lookup_rule name mac)
lookup_printable name mac low = leaf_printable _ (to_mac mac low)

-- the MACs that are looked up
more_below : (peer : Option ℕ) (own : List ℕ) → ((mac : ℕ) → peer ≡ Some mac → mac < 2 ^ 48) → AllByRecursion (λ (mac : ℕ). mac < 2 ^ 48) (more_macs peer own)
more_below None own low = tt
more_below (Some mac) own low = by (list_any (λ (m : ℕ). m == mac) own)
  where
    by : (b : Bool) → AllByRecursion (λ (m : ℕ). m < 2 ^ 48) (if b then [] else mac ∷ [])
    by true = tt
    by false = (low mac refl, tt)

pub looked_up_below : (input : PortL2Input) → IsL2Input input → AllByRecursion (λ (mac : ℕ). mac < 2 ^ 48) (looked_up input)
looked_up_below input is =
    let own = flat_map macs_of input.addresses in
    every_append (λ (mac : ℕ). mac < 2 ^ 48) own _ is.macs (by (is_router_kind input.kind && list_any is_router_word input.addresses))
  where
    by : (b : Bool) → AllByRecursion (λ (mac : ℕ). mac < 2 ^ 48) (if b then more_macs input.peer_mac (flat_map macs_of input.addresses) else [])
    by true = more_below input.peer_mac (flat_map macs_of input.addresses) is.peer
    by false = tt

host_printable : (input : PortL2Input) → IsL2Input input → ArePrintable (host_rules input)
host_printable input is = by (is_router_kind input.kind)
  where
    each : AllByRecursion (λ address. ArePrintable (arp_rules_of input.name address)) input.addresses
    each =
        every_weaker (λ address. AllByRecursion (λ (ip : Ip4). ip.0 < 2 ^ 32) (ips_of address)) (λ address. ArePrintable (arp_rules_of input.name address)) input.addresses
        (λ address low. arp_printable_of input.name address is.named low) (every_piece (λ (ip : Ip4). ip.0 < 2 ^ 32) ips_of input.addresses is.ips)

    by : (b : Bool) → ArePrintable (if b then [] else flat_map (arp_rules_of input.name) input.addresses)
    by true = tt
    by false = every_flat_map HasPrintable (arp_rules_of input.name) input.addresses each

pub port_l2_printable : (input : PortL2Input) → IsL2Input input → ArePrintable (port_l2_rules input)
unfolding port_l2_rules
port_l2_printable input is = by input.enabled
  where
    lookups : ArePrintable (map (lookup_rule input.name) (looked_up input))
    lookups =
        every_map HasPrintable (lookup_rule input.name) (looked_up input)
        (every_weaker (λ (mac : ℕ). mac < 2 ^ 48) (λ mac. HasPrintable (lookup_rule input.name mac)) (looked_up input) (lookup_printable input.name) (looked_up_below input is))

    by : (b : Bool) → ArePrintable (if b then host_rules input ++ map (lookup_rule input.name) (looked_up input) else [])
    by true = every_append HasPrintable (host_rules input) (map (lookup_rule input.name) (looked_up input)) (host_printable input is) lookups
    by false = tt
