-- No match holds together with its negation.
use Rattle.std.proofs.Common.{◌≡◌, ℕ, Bool, true, false, not, nat_lt, nat_le, ◌==◌, ◌&&◌, ◌||◌, List, [], ◌∷◌, refl}
use Rattle.std.proofs.lemmas.Bool.{leb-true, le-ltb}
use Rattle.std.specs.List.{list_any, list_all}
use Rattle.nv_base.specs.Field.{field_width}
use Rattle.pkt_core.specs.Packet.{Values}
use Rattle.pkt_core.specs.Prerequisite.{is_there}
use Rattle.expr_core.specs.Formula.{Formula, Formulas}
use Rattle.expr_core.specs.Formula.Formula.{Leaf, Not, And, Or}
use Rattle.expr_core.specs.Formula.Formulas.{Nil, Cons}
use Rattle.expr_core.specs.Lookup.{Lookup}
use Rattle.expr_core.specs.declared.comparison.Rel.{Rel}
use Rattle.expr_core.specs.declared.comparison.Rel.TheVariants.{Eq, Ne, Lt, Le, Gt, Ge}
use Rattle.expr_core.specs.declared.comparison.Item.TheVariants.{One}
use Rattle.expr_core.specs.declared.comparison.Right.{Right}
use Rattle.expr_core.specs.declared.comparison.Right.TheVariants as right_of
use Rattle.expr_core.specs.declared.typed.TypedAtom.{TypedAtom}
use Rattle.expr_core.specs.declared.typed.TypedAtom.TheVariants.{Truth, Bare, Holds, Compare}
use Rattle.expr_eval.specs.MatchMeaning.{part_of, passes, has, has_not, atom_holds, atom_negation_holds, holds, negation_holds, all_hold, some_hold, all_negations_hold, some_negation_holds}
use Rattle.expr_eval.specs.Relation.{equals, compares, relates}
use Rattle.expr_core.specs.Opposite.{opposite}
use Rattle.expr_core.specs.Tests.{test, tests}
use Rattle.expr_core.specs.declared.test.Test.{Test}

-- not both
abbrev pub Apart : Bool → Bool → Type 0
Apart a b = (a && b) ≡ false

of_opposites : (b : Bool) → Apart b (not b)
of_opposites true = refl
of_opposites false = refl

swapped : (a b : Bool) → Apart a b → Apart b a
swapped true true e = e
swapped true false e = refl
swapped false true e = refl
swapped false false e = refl

-- where both need one more thing, they stay apart
under : (t a b : Bool) → Apart a b → Apart (t && a) (t && b)
under true a b e = e
under false a b e = refl

-- all of one kind, and one of the other
all_and_some : (a b c d : Bool) → Apart a c → Apart b d → Apart (a && b) (c || d)
all_and_some false b c d p q = refl
all_and_some true false c d p q = refl
all_and_some true true false d p q = q
all_and_some true true true d p q = p

some_and_all : (a b c d : Bool) → Apart a c → Apart b d → Apart (a || b) (c && d)
some_and_all a b c d p q = swapped (c && d) (a || b) (all_and_some c d a b (swapped a c p) (swapped b d q))

test_apart : (packet : Values) (t : Test) → Apart (has packet t) (has_not packet t)
test_apart packet t = under (is_there packet t.field) _ _ (of_opposites (passes packet t))

tests_apart : (packet : Values) (ts : List Test) → Apart (list_any (has packet) ts) (list_all (has_not packet) ts)
tests_apart packet [] = refl
tests_apart packet (t ∷ ts) = some_and_all (has packet t) (list_any (has packet) ts) (has_not packet t) (list_all (has_not packet) ts) (test_apart packet t) (tests_apart packet ts)

-- numbers are not below and at least one and the same number
orders_apart_where : (n c : ℕ) (b : Bool) → nat_le c n ≡ b → Apart (nat_lt n c) (nat_le c n)
orders_apart_where n c false e = rw e (swapped false (nat_lt n c) refl)
orders_apart_where n c true e = rw (le-ltb n c (leb-true c n e)) refl

orders_apart : (n c : ℕ) → Apart (nat_lt n c) (nat_le c n)
orders_apart n c = orders_apart_where n c (nat_le c n) refl

numbers_apart : (n : ℕ) (rel : Rel) (c : ℕ) → Apart (compares n rel c) (compares n (opposite rel) c)
numbers_apart n Eq c = of_opposites (n == c)
numbers_apart n Ne c = swapped (n == c) (not (n == c)) (of_opposites (n == c))
numbers_apart n Lt c = orders_apart n c
numbers_apart n Le c = swapped (nat_lt c n) (nat_le n c) (orders_apart c n)
numbers_apart n Gt c = orders_apart c n
numbers_apart n Ge c = swapped (nat_lt n c) (nat_le c n) (orders_apart n c)

relations_apart : (net : Lookup) (width n : ℕ) (rel : Rel) (right : Right) → Apart (relates net width n rel right) (relates net width n (opposite rel) right)
relations_apart net width n rel (right_of.Item (One c)) = numbers_apart n rel c.value
relations_apart net width n Eq right = of_opposites (equals net width n right)
relations_apart net width n Ne right = swapped (equals net width n right) (not (equals net width n right)) (of_opposites (equals net width n right))
relations_apart net width n Lt right = refl
relations_apart net width n Le right = refl
relations_apart net width n Gt right = refl
relations_apart net width n Ge right = refl

module _ (net : Lookup) (packet : Values) where
  atom_apart : (a : TypedAtom) → Apart (atom_holds net packet a) (atom_negation_holds net packet a)
  atom_apart (Truth holds) = of_opposites holds
  atom_apart (Bare field bits) = test_apart packet (test field bits 1)
  atom_apart (Holds p) = tests_apart packet (tests p)
  atom_apart (Compare field bits rel right) = under (is_there packet field) _ _ (relations_apart net (field_width field) (part_of packet field bits) rel right)

  mutual
    pub apart : (f : Formula TypedAtom) → Apart (holds net packet f) (negation_holds net packet f)
    apart (Leaf a) = atom_apart a
    apart (Not f) = swapped (holds net packet f) (negation_holds net packet f) (apart f)
    apart (And fs) = all_apart fs
    apart (Or fs) = some_apart fs

    all_apart : (fs : Formulas TypedAtom) → Apart (all_hold net packet fs) (some_negation_holds net packet fs)
    all_apart Nil = refl
    all_apart (Cons f fs) = all_and_some (holds net packet f) (all_hold net packet fs) (negation_holds net packet f) (some_negation_holds net packet fs) (apart f) (all_apart fs)

    some_apart : (fs : Formulas TypedAtom) → Apart (some_hold net packet fs) (all_negations_hold net packet fs)
    some_apart Nil = refl
    some_apart (Cons f fs) = some_and_all (holds net packet f) (some_hold net packet fs) (negation_holds net packet f) (all_negations_hold net packet fs) (apart f) (some_apart fs)
