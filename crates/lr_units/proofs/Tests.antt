-- The tests of which matches of routers are made: they are well-typed, and told apart by their texts.
use Rattle.std.proofs.Common.{◌≡◌, ℕ, ◌-◌, ◌*◌, ◌/◌, ◌^◌, ◌<◌, ◌≤◌, lit<, lit≤, true, nat_lt, nat_le, ◌&&◌, List, [], ◌∷◌, map, refl, arith}
use Rattle.std.specs.List.{AllByRecursion, list_all}
use Rattle.std.proofs.Math.Nat.{div-mul-le_self}
use Rattle.std.proofs.lemmas.Bool.{and_from, and_parts, le-leb, lt-ltb}
use Rattle.nv_base.specs.Block.{Block}
use Rattle.nv_base.specs.declared.field.Field.TheVariants.{Ip4Src, Ip4Dst, IpTtl, ArpSha, ArpTpa, TcpDst, UdpDst, Icmp4Type, Icmp4Code, Reg0}
use Rattle.nv_base.specs.declared.ip4.Ip4.{Ip4}
use Rattle.expr_core.specs.Formula.Formula.{Leaf}
use Rattle.expr_core.specs.Named.{named_atom}
use Rattle.expr_core.specs.TypeRules.{suits}
use Rattle.expr_core.specs.WellTyped.{is_typed_atom}
use Rattle.expr_core.specs.declared.comparison.Item.TheVariants.{One}
use Rattle.expr_core.specs.declared.comparison.Rel.TheVariants.{Eq}
use Rattle.expr_core.specs.declared.comparison.Right.TheVariants as right
use Rattle.expr_core.specs.declared.part.Bits.TheVariants.{Whole, Bit}
use Rattle.expr_core.specs.declared.predicate.Pred.TheVariants as pred
use Rattle.expr_core.specs.declared.role.Role.TheVariants as role
use Rattle.expr_core.specs.declared.typed.TypedAtom.{TypedAtom}
use Rattle.expr_core.specs.declared.typed.TypedAtom.TheVariants.{Compare, Holds}
use Rattle.expr_parse.specs.Written.{IsLeaf}
use Rattle.nb_read.specs.Readings.{cleared}
use Rattle.sb_model.specs.Make.{as_ip4, as_mac, differs, equals, in_decimal, is_one_of, is_predicate}
use Rattle.net_rows.proofs.Operands.{IsAddress, IsOperand, a_network, an_address, to_addresses}
use Rattle.net_rows.proofs.Pairs.{every_map, every_weaker}
use Rattle.net_rows.proofs.SoundObjects.{IsBlock}
use Rattle.lr_rows.specs.Make.{addresses_of, as_address, as_network, is_within, networks_of}

-- a test that is well-typed and can be spelled
test : (a : TypedAtom) → is_typed_atom role.Row a ≡ true → IsLeaf (named_atom a) → IsOperand (Leaf a)
test a typed formed = record { typed = typed; formed = formed; shallow = omega arith }

-- ---- addresses and networks as items

-- an address of 32 bits
abbrev pub IsLow : Ip4 → Type 0
IsLow addr = addr.0 < 2 ^ 32

pub are_items : (addrs : List Ip4) → AllByRecursion IsLow addrs → AllByRecursion IsAddress (map as_address addrs)
are_items addrs all = every_map IsAddress as_address addrs (every_weaker IsLow (λ addr. IsAddress (as_address addr)) addrs (λ addr low. an_address addr.0 low) all)

pub are_own_items : (nets : List Block) → AllByRecursion IsBlock nets → AllByRecursion IsAddress (addresses_of nets)
are_own_items nets all =
    every_map IsAddress (λ (net : Block). as_address net.base) nets (every_weaker IsBlock (λ (net : Block). IsAddress (as_address net.base)) nets (λ net is. an_address net.base.0 is.base) all)

-- a network is one without its host part too
pub cleared_block : (net : Block) → IsBlock net → IsBlock (cleared net)
cleared_block net is =
    let below : net.base.0 / 2 ^ (32 - net.len) * 2 ^ (32 - net.len) ≤ net.base.0 = div-mul-le_self net.base.0 (2 ^ (32 - net.len)) in
    record { base = lower (net.base.0 / 2 ^ (32 - net.len) * 2 ^ (32 - net.len)) net.base.0 (2 ^ 32) below is.base; len = is.len }
  where
    lower : (k m n : ℕ) → k ≤ m → m < n → k < n
    lower k m n le lt = omega arith

network_item : (net : Block) → IsBlock net → IsAddress (as_network net)
network_item net is = a_network net.base.0 net.len is.base is.len

pub are_network_items : (nets : List Block) → AllByRecursion IsBlock nets → AllByRecursion IsAddress (networks_of nets)
are_network_items nets all =
    every_map IsAddress (λ net. as_network (cleared net)) nets
    (every_weaker IsBlock (λ net. IsAddress (as_network (cleared net))) nets (λ net is. network_item (cleared net) (cleared_block net is)) all)

-- ---- tests of addresses

-- an ARP request is for one of the addresses
all_suit : (nets : List Block) → list_all (suits ArpTpa Whole) (addresses_of nets) ≡ true
all_suit [] = refl
all_suit (net ∷ nets) = all_suit nets

pub asks_for_one : (net : Block) (nets : List Block) → AllByRecursion IsBlock (net ∷ nets) → IsOperand (is_one_of ArpTpa (addresses_of (net ∷ nets)))
asks_for_one net nets all =
    let like = to_addresses (as_address net.base) (addresses_of nets) (are_own_items (net ∷ nets) all) in
    let fits = (and_parts _ _ like.typed).0 in
    test _ (and_from _ _ fits (all_suit (net ∷ nets))) ((refl, tt), like.formed.1)

-- what the packet goes to next is an address
ip_fits : (ip : ℕ) → ip < 2 ^ 32 → (nat_lt ip (2 ^ 32) && true) ≡ true
ip_fits ip low = and_from (nat_lt ip (2 ^ 32)) true (lt-ltb ip (2 ^ 32) low) refl

pub next_is : (ip : ℕ) → ip < 2 ^ 32 → IsOperand (equals Reg0 (as_ip4 ip))
next_is ip low = test _ (ip_fits ip low) ((refl, tt), low)

-- the destination, or the source, is in a network
net_fits : (net : Block) → IsBlock net → ((nat_lt net.base.0 (2 ^ 32) && nat_le net.len 32) && true) ≡ true
net_fits net is =
    and_from (nat_lt net.base.0 (2 ^ 32) && nat_le net.len 32) true
    (and_from (nat_lt net.base.0 (2 ^ 32)) (nat_le net.len 32) (lt-ltb net.base.0 (2 ^ 32) is.base) (le-leb net.len 32 is.len)) refl

pub to_network : (net : Block) → IsBlock net → IsOperand (is_within Ip4Dst net)
to_network net is = test _ (net_fits net is) ((refl, tt), (network_item net is).spelled)

pub from_network : (net : Block) → IsBlock net → IsOperand (is_within Ip4Src net)
from_network net is = test _ (net_fits net is) ((refl, tt), (network_item net is).spelled)

-- ---- other tests

pub tells_unicast : IsOperand (Leaf (Compare ArpSha (Bit 40) Eq (right.Item (One (in_decimal 0)))))
tells_unicast = test _ refl ((refl, lit≤ tt), lit< tt)

pub tells_some_mac : IsOperand (differs ArpSha (as_mac 0))
tells_some_mac = test _ refl ((refl, tt), lit< tt)

pub is_echo_type : IsOperand (equals Icmp4Type (in_decimal 8))
is_echo_type = test _ refl ((refl, tt), lit< tt)

pub is_echo_code : IsOperand (equals Icmp4Code (in_decimal 0))
is_echo_code = test _ refl ((refl, tt), lit< tt)

pub is_expired : IsOperand (is_one_of IpTtl (One (in_decimal 0) ∷ One (in_decimal 1) ∷ []))
is_expired = test _ refl ((refl, tt), (lit< tt, (lit< tt, tt)))

-- predicates
pub is_multicast : IsOperand (is_predicate pred.EthMcast)
is_multicast = test (Holds pred.EthMcast) refl (refl, tt)

pub is_tcp : IsOperand (is_predicate pred.Tcp)
is_tcp = test (Holds pred.Tcp) refl (refl, tt)

pub is_udp : IsOperand (is_predicate pred.Udp)
is_udp = test (Holds pred.Udp) refl (refl, tt)
