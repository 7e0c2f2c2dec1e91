-- What a match asks of a packet before all else.
use Rattle.std.proofs.Common.{◌≡◌, ℕ, zero, suc, ◌<◌, Bool, true, false, List, [], ◌∷◌, length, get_or, ap, refl, sym, arith}
use Rattle.std.specs.Prelude.{◌||◌, Option, Some, None}
use Rattle.std.proofs.lemmas.Bool.{false≢true, eqb-true, and_parts}
use Rattle.nv_base.specs.Field.{field_width}
use Rattle.nv_base.specs.declared.field.Field.{Field}
use Rattle.nv_base.specs.declared.object.ObjId.{ObjId}
use Rattle.expr_core.specs.Formula.{Formula, formulas}
use Rattle.expr_core.specs.Formula.Formula.{Leaf, And}
use Rattle.expr_core.specs.Lookup.{Lookup}
use Rattle.expr_core.specs.declared.comparison.Item.{Item}
use Rattle.expr_core.specs.declared.comparison.Item.TheVariants.{One, Masked, Text, AddrSet, Group}
use Rattle.expr_core.specs.declared.comparison.Rel.TheVariants.{Eq}
use Rattle.expr_core.specs.declared.comparison.Right.{Right}
use Rattle.expr_core.specs.declared.comparison.Right.TheVariants as right_of
use Rattle.expr_core.specs.declared.part.Bits.TheVariants.{Whole}
use Rattle.expr_core.specs.declared.typed.TypedAtom.{TypedAtom}
use Rattle.expr_core.specs.declared.typed.TypedAtom.TheVariants.{Compare}
use Rattle.expr_eval.specs.MatchMeaning.{holds}
use Rattle.expr_eval.specs.Relation.{equals, equals_item, is_of_port, relates}
use Rattle.pkt_core.specs.Packet.{Values, value}
use Rattle.sb_rows.specs.declared.asks.Asks.{Asks}
use Rattle.sb_rows.specs.inner.Asks.{Adds, HasAsked}

-- a number that equals what is compared by `==`
pub equals_from : (net : Lookup) (width n : ℕ) (right : Right) → relates net width n Eq right ≡ true → equals net width n right ≡ true
equals_from net width n (right_of.Item (One c)) is = is
equals_from net width n (right_of.Item (Masked c m)) is = is
equals_from net width n (right_of.Item (Text name)) is = is
equals_from net width n (right_of.Item (AddrSet name)) is = is
equals_from net width n (right_of.Item (Group name)) is = is
equals_from net width n (right_of.Set items) is = is

-- the port of a name has the number that equals it
pub port_from : (n : ℕ) (port : Option ObjId) → is_of_port n port ≡ true → port ≡ Some (record { 0 = n })
port_from n None is = absurd (false≢true is)
port_from n (Some port) is = ap (λ m. Some (record { 0 = m })) (sym (eqb-true n port.0 is))

-- a number that equals one of one item equals it
pub one_item : (net : Lookup) (width n : ℕ) (item : Item) → equals net width n (right_of.Set (item ∷ [])) ≡ true → equals_item net width n item ≡ true
one_item net width n item is = by (equals_item net width n item) is
  where
    by : (b : Bool) → (b || false) ≡ true → b ≡ true
    by true e = refl
    by false e = e

-- each operand of a conjunction holds where that does
pub operand_holds : (net : Lookup) (packet : Values) (operands : List (Formula TypedAtom)) (i : ℕ) (d : Formula TypedAtom) → i < length operands → holds net packet (And (formulas operands)) ≡ true
    → holds net packet (get_or operands i d) ≡ true
operand_holds net packet [] i d below is = absurd (omega arith)
operand_holds net packet (f ∷ fs) zero d below is = (and_parts _ _ is).0
operand_holds net packet (f ∷ fs) (suc i) d below is = operand_holds net packet fs i d (omega arith) (and_parts _ _ is).1

-- what a comparison of a field by `==` asks for, where what equals the right side does
pub comparison_adds : (field : Field) (right : Right) (before after : Asks) → ((net : Lookup) (packet : Values) (width : ℕ) → HasAsked before net packet → equals net width (value packet field) right ≡ true → HasAsked after net packet)
    → Adds (Leaf (Compare field Whole Eq right)) before after
comparison_adds field right before after given net packet has is = given net packet (field_width field) has (equals_from net (field_width field) (value packet field) right (and_parts _ _ is).1)

-- what one more operand asks, the conjunction does
pub operand_adds : (operands : List (Formula TypedAtom)) (i : ℕ) (d : Formula TypedAtom) (first before after : Asks) → i < length operands → Adds (get_or operands i d) before after → Adds (And (formulas operands)) first before
    → Adds (And (formulas operands)) first after
operand_adds operands i d first before after below adds so_far net packet has is = adds net packet (so_far net packet has is) (operand_holds net packet operands i d below is)
