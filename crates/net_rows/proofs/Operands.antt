-- The operands of the matches of rows: they are well-typed, and told apart by their texts.
use Rattle.std.proofs.Common.{◌≡◌, ℕ, ◌+◌, ◌^◌, ◌<◌, ◌≤◌, lit<, Bool, true, false, not, nat_lt, nat_le, nat_eq, ◌&&◌, ◌||◌, List, [], ◌∷◌, Some, refl, ap, arith}
use Rattle.std.specs.Prelude.{max, codes}
use Rattle.std.specs.Bool.{IsTrue}
use Rattle.std.specs.List.{AllByRecursion, list_all}
use Rattle.std.specs.Cmp.Lexicographic.{pointwise}
use Rattle.std.proofs.lemmas.Bool.{and_from, false≢true, le-leb, lt-ltb, or_left}
use Rattle.nv_base.specs.Name.{is_object_name, is_quotable}
use Rattle.nv_base.specs.declared.field.Field.{Field}
use Rattle.nv_base.specs.declared.field.Field.TheVariants.{Inport, Outport, EthSrc, EthDst, EthType, Ip4Src, Ip4Dst, ArpOp, ArpSpa, ArpSha, ArpTpa, TcpDst, UdpSrc, UdpDst}
use Rattle.expr_core.specs.Formula.{Formula, formulas, formulas_map}
use Rattle.expr_core.specs.Formula.Formula.{Leaf}
use Rattle.expr_core.specs.Named.{named, named_atom}
use Rattle.expr_core.specs.Text.{expr_writing, is_joined}
use Rattle.expr_core.specs.TypeRules.{is_port, item_fits, suits}
use Rattle.expr_core.specs.WellFormed.{AreWellFormed, IsWellFormed, levels_among, levels_of, one_if}
use Rattle.expr_core.specs.WellTyped.{AreTyped, IsTyped, is_typed_atom}
use Rattle.expr_core.specs.declared.comparison.Item.{Item}
use Rattle.expr_core.specs.declared.comparison.Item.TheVariants.{One, Masked, Text, AddrSet, Group}
use Rattle.expr_core.specs.declared.part.Bits.TheVariants.{Whole}
use Rattle.expr_core.specs.declared.predicate.Pred.TheVariants as pred
use Rattle.expr_core.specs.declared.role.Role.TheVariants as role
use Rattle.expr_core.specs.declared.typed.TypedAtom.{TypedAtom}
use Rattle.expr_core.specs.declared.typed.TypedAtom.TheVariants.{Holds}
use Rattle.expr_parse.specs.Grammar.{level_limit}
use Rattle.expr_parse.specs.Written.{AreItems, IsItem, IsLeaf}
use Rattle.expr_check.specs.Printed.{IsPrintable}
use Rattle.sb_model.specs.Make as make
use Rattle.sb_model.specs.Make.{all_of, as_ip4, as_mac, differs, equals, in_decimal, in_hexadecimal, is_none_of, is_one_of, is_predicate, one_of}

-- an operand of a match of a row: it is well-typed there, it can be spelled, and its text opens few levels
pub record IsOperand (t : Formula TypedAtom) : Type 0 where
  pub typed : IsTyped role.Row t
  pub formed : IsWellFormed IsLeaf (named t)
  pub shallow : one_if (is_joined (named t)) + levels_of expr_writing (named t) ≤ level_limit

-- a test that is well-typed and can be spelled
leaf : (a : TypedAtom) → is_typed_atom role.Row a ≡ true → IsLeaf (named_atom a) → IsOperand (Leaf a)
leaf a typed formed = record { typed = typed; formed = formed; shallow = omega arith }

-- ---- matches of operands

operands_typed : (ts : List (Formula TypedAtom)) → AllByRecursion IsOperand ts → AreTyped role.Row (formulas ts)
operands_typed [] all = tt
operands_typed (t ∷ ts) all = (all.0.typed, operands_typed ts all.1)

operands_formed : (ts : List (Formula TypedAtom)) → AllByRecursion IsOperand ts → AreWellFormed IsLeaf (formulas_map named_atom (formulas ts))
operands_formed [] all = tt
operands_formed (t ∷ ts) all = (all.0.formed, operands_formed ts all.1)

-- the greater of two numbers is within a limit where both are
max_within : (m n limit : ℕ) → m ≤ limit → n ≤ limit → max m n ≤ limit
max_within m n limit first second = omega arith

operands_shallow : (ts : List (Formula TypedAtom)) → AllByRecursion IsOperand ts → levels_among expr_writing (formulas_map named_atom (formulas ts)) ≤ level_limit
operands_shallow [] all = omega arith
operands_shallow (t ∷ ts) all =
    max_within (one_if (is_joined (named t)) + levels_of expr_writing (named t)) (levels_among expr_writing (formulas_map named_atom (formulas ts))) level_limit
    all.0.shallow (operands_shallow ts all.1)

-- two or more operands that are joined are a match that can be told by its text
pub joined_printable : (t u : Formula TypedAtom) (ts : List (Formula TypedAtom)) → AllByRecursion IsOperand (t ∷ u ∷ ts) → IsPrintable role.Row (all_of (t ∷ u ∷ ts))
joined_printable t u ts all = record {
  typed = operands_typed (t ∷ u ∷ ts) all;
  formed = (tt, operands_formed (t ∷ u ∷ ts) all);
  shallow = operands_shallow (t ∷ u ∷ ts) all;
}

-- and so is a test alone
pub leaf_printable : (a : TypedAtom) → IsOperand (Leaf a) → IsPrintable role.Row (Leaf a)
leaf_printable a of = record { typed = of.typed; formed = of.formed; shallow = omega arith }

-- one of two tests
pub either_operand : (a b : TypedAtom) → IsOperand (Leaf a) → IsOperand (Leaf b) → IsOperand (one_of (Leaf a ∷ Leaf b ∷ []))
either_operand a b of_a of_b = record { typed = (of_a.typed, (of_b.typed, tt)); formed = (tt, (of_a.formed, (of_b.formed, tt))); shallow = omega arith }

-- ---- tests of ports

-- the name of an object can stand between quotation marks
quotable : (name : List ℕ) → IsTrue (is_object_name name) → is_quotable name ≡ true
quotable name named_so = or_left (is_object_name name || pointwise nat_eq name (codes "_MC_flood")) (pointwise nat_eq name (codes "_MC_unknown")) (or_left (is_object_name name) (pointwise nat_eq name (codes "_MC_flood")) named_so)

pub from_port : (name : List ℕ) → IsTrue (is_object_name name) → IsOperand (make.is_port Inport name)
from_port name named_so = leaf _ refl ((refl, tt), quotable name named_so)

pub to_port : (name : List ℕ) → IsTrue (is_object_name name) → IsOperand (make.is_port Outport name)
to_port name named_so = leaf _ refl ((refl, tt), quotable name named_so)

-- ---- tests of MACs

-- a MAC fits a field of 48 bits
mac_fits : (mac : ℕ) → mac < 2 ^ 48 → (nat_lt mac (2 ^ 48) && true) ≡ true
mac_fits mac low = and_from (nat_lt mac (2 ^ 48)) true (lt-ltb mac (2 ^ 48) low) refl

pub from_mac : (mac : ℕ) → mac < 2 ^ 48 → IsOperand (equals EthSrc (as_mac mac))
from_mac mac low = leaf _ (mac_fits mac low) ((refl, tt), low)

pub to_mac : (mac : ℕ) → mac < 2 ^ 48 → IsOperand (equals EthDst (as_mac mac))
to_mac mac low = leaf _ (mac_fits mac low) ((refl, tt), low)

pub tells_mac : (mac : ℕ) → mac < 2 ^ 48 → IsOperand (equals ArpSha (as_mac mac))
tells_mac mac low = leaf _ (mac_fits mac low) ((refl, tt), low)

-- ---- tests of addresses

pub asks_for : (ip : ℕ) → ip < 2 ^ 32 → IsOperand (equals ArpTpa (as_ip4 ip))
asks_for ip low = leaf _ (and_from (nat_lt ip (2 ^ 32)) true (lt-ltb ip (2 ^ 32) low) refl) ((refl, tt), low)

-- a packet is to this address
pub to_address : (ip : ℕ) → ip < 2 ^ 32 → IsOperand (equals Ip4Dst (as_ip4 ip))
to_address ip low = leaf _ (and_from (nat_lt ip (2 ^ 32)) true (lt-ltb ip (2 ^ 32) low) refl) ((refl, tt), low)

-- an ARP request
pub is_request : IsOperand (equals ArpOp (in_decimal 1))
is_request = leaf _ refl ((refl, tt), lit< tt)

-- numbers and masked numbers
abbrev is_numeric : Item → Bool
is_numeric (One c) = true
is_numeric (Masked c m) = true
is_numeric other = false

-- an item of addresses: a number or a masked number, which fits 32 bits and can be spelled
pub record IsAddress (i : Item) : Type 0 where
  pub numeric : is_numeric i ≡ true
  pub fits : item_fits (Some 32) Whole i ≡ true
  pub spelled : IsItem i

-- such items are compared with any field but a port
numeric_suits : (f : Field) (i : Item) → is_port f ≡ false → is_numeric i ≡ true → suits f Whole i ≡ true
numeric_suits f (One c) no_port numeric = ap not no_port
numeric_suits f (Masked c m) no_port numeric = ap not no_port
numeric_suits f (Text name) no_port numeric = absurd (false≢true numeric)
numeric_suits f (AddrSet name) no_port numeric = absurd (false≢true numeric)
numeric_suits f (Group name) no_port numeric = absurd (false≢true numeric)

all_suit : (f : Field) (items : List Item) → is_port f ≡ false → AllByRecursion IsAddress items → list_all (suits f Whole) items ≡ true
all_suit f [] no_port all = refl
all_suit f (i ∷ items) no_port all = and_from (suits f Whole i) (list_all (suits f Whole) items) (numeric_suits f i no_port all.0.numeric) (all_suit f items no_port all.1)

all_fit : (items : List Item) → AllByRecursion IsAddress items → list_all (item_fits (Some 32) Whole) items ≡ true
all_fit [] all = refl
all_fit (i ∷ items) all = and_from (item_fits (Some 32) Whole i) (list_all (item_fits (Some 32) Whole) items) all.0.fits (all_fit items all.1)

all_spelled : (items : List Item) → AllByRecursion IsAddress items → AreItems items
all_spelled [] all = tt
all_spelled (i ∷ items) all = (all.0.spelled, all_spelled items all.1)

-- a set of one address or more
set_fits : (f : Field) (i : Item) (items : List Item) → is_port f ≡ false → AllByRecursion IsAddress (i ∷ items)
    → (list_all (item_fits (Some 32) Whole) (i ∷ items) && list_all (suits f Whole) (i ∷ items)) ≡ true
set_fits f i items no_port all = and_from (list_all (item_fits (Some 32) Whole) (i ∷ items)) (list_all (suits f Whole) (i ∷ items)) (all_fit (i ∷ items) all) (all_suit f (i ∷ items) no_port all)

pub from_addresses : (i : Item) (items : List Item) → AllByRecursion IsAddress (i ∷ items) → IsOperand (is_one_of Ip4Src (i ∷ items))
from_addresses i items all = leaf _ (set_fits Ip4Src i items refl all) ((refl, tt), all_spelled (i ∷ items) all)

pub to_addresses : (i : Item) (items : List Item) → AllByRecursion IsAddress (i ∷ items) → IsOperand (is_one_of Ip4Dst (i ∷ items))
to_addresses i items all = leaf _ (set_fits Ip4Dst i items refl all) ((refl, tt), all_spelled (i ∷ items) all)

pub tells_address : (i : Item) (items : List Item) → AllByRecursion IsAddress (i ∷ items) → IsOperand (is_one_of ArpSpa (i ∷ items))
tells_address i items all = leaf _ (set_fits ArpSpa i items refl all) ((refl, tt), all_spelled (i ∷ items) all)

-- an address, and the base of a network with the length of its prefix
pub an_address : (ip : ℕ) → ip < 2 ^ 32 → IsAddress (One (as_ip4 ip))
an_address ip low = record { numeric = refl; fits = lt-ltb ip (2 ^ 32) low; spelled = low }

pub a_network : (base len : ℕ) → base < 2 ^ 32 → len ≤ 32 → IsAddress (Masked (as_ip4 base) (in_decimal len))
a_network base len low short = record {
  numeric = refl;
  fits = and_from (nat_lt base (2 ^ 32)) (nat_le len 32) (lt-ltb base (2 ^ 32) low) (le-leb len 32 short);
  spelled = (low, omega arith);
}

-- ---- tests of numbers

pub is_from_nowhere : IsOperand (equals Ip4Src (as_ip4 0))
is_from_nowhere = leaf _ refl ((refl, tt), lit< tt)

pub is_to_all : IsOperand (equals Ip4Dst (as_ip4 0xffff_ffff))
is_to_all = leaf _ refl ((refl, tt), lit< tt)

pub is_from_client : IsOperand (equals UdpSrc (in_decimal 68))
is_from_client = leaf _ refl ((refl, tt), lit< tt)

pub is_to_server : IsOperand (equals UdpDst (in_decimal 67))
is_to_server = leaf _ refl ((refl, tt), lit< tt)

-- a packet is to this port
port_fits : (port : ℕ) → port < 2 ^ 16 → (nat_lt port (2 ^ 16) && true) ≡ true
port_fits port low = and_from (nat_lt port (2 ^ 16)) true (lt-ltb port (2 ^ 16) low) refl

-- a number of 16 bits can be spelled
port_spelled : (port : ℕ) → port < 2 ^ 16 → port < 2 ^ 128
port_spelled port low = omega arith

pub to_tcp : (port : ℕ) → port < 2 ^ 16 → IsOperand (equals TcpDst (in_decimal port))
to_tcp port low = leaf _ (port_fits port low) ((refl, tt), port_spelled port low)

pub to_udp : (port : ℕ) → port < 2 ^ 16 → IsOperand (equals UdpDst (in_decimal port))
to_udp port low = leaf _ (port_fits port low) ((refl, tt), port_spelled port low)

-- a packet is of a new connection
pub is_new : IsOperand (is_predicate pred.CtNew)
is_new = leaf (Holds pred.CtNew) refl (refl, tt)

-- packets of other kinds
pub is_no_arp : IsOperand (differs EthType (in_hexadecimal 0x806))
is_no_arp = leaf _ refl ((refl, tt), lit< tt)

pub is_no_ip_or_arp : IsOperand (is_none_of EthType (One (in_hexadecimal 0x800) ∷ One (in_hexadecimal 0x806) ∷ One (in_hexadecimal 0x86dd) ∷ []))
is_no_ip_or_arp = leaf _ refl ((refl, tt), (lit< tt, (lit< tt, (lit< tt, tt))))

pub is_no_ip : IsOperand (is_none_of EthType (One (in_hexadecimal 0x800) ∷ One (in_hexadecimal 0x86dd) ∷ []))
is_no_ip = leaf _ refl ((refl, tt), (lit< tt, (lit< tt, tt)))
