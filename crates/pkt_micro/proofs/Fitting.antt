-- What a well-typed microflow says fits its fields.
use Rattle.std.proofs.Common.{◌≡◌, ℕ, zero, suc, ◌<◌, ◌^◌, lit<, Bool, true, false, ◌&&◌, nat_lt, List, [], ◌∷◌, ◌++◌, length, slice_index_or, Option, Some, None, arith}
use Rattle.std.specs.Option.{option_map}
use borrow.Author.Tests.{ltb-true}
use Rattle.std.proofs.lemmas.Nat.{pow_pos}
use Rattle.std.proofs.lemmas.Bool.{and_parts}
use Rattle.nv_base.specs.Field.{field_width, field_prerequisite}
use Rattle.nv_base.specs.declared.field.Field.{Field}
use Rattle.nv_base.specs.declared.field.Prerequisite.{Prerequisite}
use Rattle.nv_base.specs.declared.field.Prerequisite.TheVariants as needs
use Rattle.expr_core.specs.Formula.{Formula, Formulas}
use Rattle.expr_core.specs.Formula.Formula.{Leaf, Not, And, Or}
use Rattle.expr_core.specs.Formula.Formulas.{Nil, Cons}
use Rattle.expr_core.specs.TypeRules.{is_allowed, may_be_compared}
use Rattle.expr_core.specs.declared.subject.Subject.TheVariants as subject
use Rattle.expr_core.specs.WellTyped.{is_typed_atom, IsTyped, AreTyped}
use Rattle.expr_core.specs.declared.comparison.Item.{Item}
use Rattle.expr_core.specs.declared.comparison.Item.TheVariants.{One, Masked, Text, AddrSet, Group}
use Rattle.expr_core.specs.declared.comparison.Rel.TheVariants.{Eq}
use Rattle.expr_core.specs.declared.comparison.Right.TheVariants as right_of
use Rattle.expr_core.specs.declared.part.Bits.TheVariants.{Whole, Bit, Range}
use Rattle.expr_core.specs.declared.role.Role.TheVariants as role
use Rattle.expr_core.specs.declared.typed.TypedAtom.{TypedAtom}
use Rattle.expr_core.specs.declared.typed.TypedAtom.TheVariants.{Truth, Bare, Holds, Compare}
use Rattle.pkt_micro.specs.Microflow.{implied, needing, prerequisite_named, said_of, said_by, joined, said, all_said}
use Rattle.pkt_micro.specs.declared.equality.Equality.{Equality}
use Rattle.pkt_micro.specs.declared.equality.Value.{Value}
use Rattle.pkt_micro.specs.declared.equality.Value.TheVariants.{Number, Port}
use Rattle.pkt_micro.specs.inner.Listed.{Fits, AllFit}

pub AllFit-append : (es others : List Equality) → AllFit es → AllFit others → AllFit (es ++ others)
AllFit-append [] others fit more = more
AllFit-append (e ∷ es) others fit more = (fit.0, AllFit-append es others fit.1 more)

-- each of the list fits
pub fits_at : (es : List Equality) (i : ℕ) (d : Equality) → i < length es → AllFit es → Fits (slice_index_or es i d)
fits_at [] i d within fit = absurd (omega (arith, within))
fits_at (e ∷ es) zero d within fit = fit.0
fits_at (e ∷ es) (suc i) d within fit = fits_at es i d (omega (arith, within)) fit.1

-- where something is said, it fits
abbrev pub SaidFits : Option (List Equality) → Type 0
SaidFits None = Unit {0}
SaidFits (Some es) = AllFit es

implied_fits : (needed : Prerequisite) → AllFit (implied needed)
implied_fits needs.Nothing = tt
implied_fits needs.Ip4 = (lit< tt, tt)
implied_fits needs.Arp = (lit< tt, tt)
implied_fits needs.Tcp = (lit< tt, (lit< tt, tt))
implied_fits needs.Udp = (lit< tt, (lit< tt, tt))
implied_fits needs.Icmp4 = (lit< tt, (lit< tt, tt))
implied_fits needs.IcmpError = (lit< tt, (lit< tt, tt))

named_fits : (needed : Option Prerequisite) → SaidFits (option_map implied needed)
named_fits None = tt
named_fits (Some needed) = implied_fits needed

needing_fits : (field : Field) (value : Value) → Fits (record { field = field; value = value }) → AllFit (needing field value)
needing_fits field value fit = AllFit-append (implied (field_prerequisite field)) _ (implied_fits (field_prerequisite field)) (fit, tt)

third : (a b c d : Bool) → (a && ((b && c) && d)) ≡ true → c ≡ true
third a b c d e = (and_parts b c (and_parts (b && c) d (and_parts a ((b && c) && d) e).1).0).1

item_fits : (field : Field) (i : Item) → is_typed_atom role.Micro (Compare field Whole Eq (right_of.Item i)) ≡ true → SaidFits (said_of field i)
item_fits field (One c) typed =
    let below = third (is_allowed role.Micro (subject.Field field)) true (nat_lt c.value (2 ^ field_width field)) (may_be_compared (subject.Field field) Whole Eq (right_of.Item (One c))) typed in
    needing_fits field (Number c.value) (ltb-true c.value (2 ^ field_width field) below)
item_fits field (Text name) typed = needing_fits field (Port name) (pow_pos (field_width field))
item_fits field (Masked c m) typed = tt
item_fits field (AddrSet name) typed = tt
item_fits field (Group name) typed = tt

atom_fits : (a : TypedAtom) → is_typed_atom role.Micro a ≡ true → SaidFits (said_by a)
atom_fits (Truth true) typed = tt
atom_fits (Truth false) typed = tt
atom_fits (Bare field bits) typed = tt
atom_fits (Holds p) typed = named_fits (prerequisite_named p)
atom_fits (Compare field Whole Eq (right_of.Item i)) typed = item_fits field i typed
atom_fits (Compare field Whole Eq (right_of.Set is)) typed = tt
atom_fits (Compare field Whole _ right) typed = tt
atom_fits (Compare field (Bit n) rel right) typed = tt
atom_fits (Compare field (Range first last) rel right) typed = tt

joined_fits : (s more : Option (List Equality)) → SaidFits s → SaidFits more → SaidFits (joined s more)
joined_fits None more fit others = tt
joined_fits (Some es) None fit others = tt
joined_fits (Some es) (Some rest) fit others = AllFit-append es rest fit others

mutual
  pub said_fits : (t : Formula TypedAtom) → IsTyped role.Micro t → SaidFits (said t)
  said_fits (Leaf a) typed = atom_fits a typed
  said_fits (Not t) typed = tt
  said_fits (And ts) typed = all_fit ts typed
  said_fits (Or ts) typed = tt

  all_fit : (ts : Formulas TypedAtom) → AreTyped role.Micro ts → SaidFits (all_said ts)
  all_fit Nil typed = tt
  all_fit (Cons t ts) typed = joined_fits (said t) (all_said ts) (said_fits t typed.0) (all_fit ts typed.1)

-- so what is said of a well-typed match fits
pub list_fits : (t : Formula TypedAtom) (es : List Equality) → IsTyped role.Micro t → said t ≡ Some es → AllFit es
list_fits t es typed e = rw e at (said_fits t typed)
