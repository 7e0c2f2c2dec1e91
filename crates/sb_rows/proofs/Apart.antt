-- The order of two texts that begin alike, and of two of which neither begins with the other.
use Rattle.std.proofs.Common.{◌≡◌, ◌&&◌, ℕ, zero, suc, Bool, true, false, not, List, [], ◌∷◌, ◌++◌, take, drop, length, ◌<◌, get_or, refl, sym, ap, ◌∙◌, append_assoc, arith, codes}
use Rattle.std.specs.declared.cmp.Ordering.{Ordering}
use Rattle.std.specs.declared.cmp.Ordering.TheVariants.{Less, Equal, Greater}
use Rattle.std.specs.Ordering.{nat_cmp, ordering_then}
use Rattle.std.specs.Cmp.Lexicographic.{slice_cmp}
use Rattle.std.specs.List.{starts_with}
use Rattle.std.specs.Prelude.{nat_eq}
use Rattle.std.proofs.lemmas.Bool.{false≢true, eq-eqb}
use Rattle.std.proofs.lemmas.Bool.Decides.{nat_tests}
use Rattle.std.proofs.lemmas.List.{append-nil}
use Rattle.expr_core.specs.Formula.{Formula, formulas}
use Rattle.expr_core.specs.Formula.Formula.{And}
use Rattle.expr_core.specs.Text.{enclosed, is_joined, operands_text, typed_text, typed_writing}
use Rattle.expr_core.specs.declared.typed.TypedAtom.{TypedAtom}
use Rattle.sb_rows.specs.inner.ByText.{AreInTexts, AreUnjoined}

pub not_true : (b : Bool) → not b ≡ true → b ≡ false
not_true true e = sym e
not_true false e = refl

-- ---- texts

equal_numbers : (x y : ℕ) → nat_cmp x y ≡ Equal → x ≡ y
equal_numbers x y is = grind (arith, nat_tests)

level_itself : (x : ℕ) → nat_cmp x x ≡ Equal
level_itself x = grind (arith, nat_tests)

-- what begins alike does not count
pub begun_alike : (front one other : List ℕ) → slice_cmp nat_cmp (front ++ one) (front ++ other) ≡ slice_cmp nat_cmp one other
begun_alike [] one other = refl
begun_alike (x ∷ front) one other = rw (level_itself x) (begun_alike front one other)

rest_fails : (a b : Bool) → a ≡ true → (a && b) ≡ false → b ≡ false
rest_fails true b is fails = fails
rest_fails false b is fails = absurd (false≢true is)

-- nor does what follows, where neither begins with the other
pub decided : (one other rest more : List ℕ) → starts_with nat_eq one other ≡ false → starts_with nat_eq other one ≡ false → slice_cmp nat_cmp (one ++ rest) (other ++ more) ≡ slice_cmp nat_cmp one other
decided [] other rest more first second = absurd (false≢true (sym second))
decided (x ∷ one) [] rest more first second = absurd (false≢true (sym first))
decided (x ∷ one) (y ∷ other) rest more first second = by (nat_cmp x y) refl (decided one other rest more)
  where
    by : (o : Ordering) → nat_cmp x y ≡ o
        → (starts_with nat_eq one other ≡ false → starts_with nat_eq other one ≡ false → slice_cmp nat_cmp (one ++ rest) (other ++ more) ≡ slice_cmp nat_cmp one other)
        → ordering_then o (slice_cmp nat_cmp (one ++ rest) (other ++ more)) ≡ ordering_then o (slice_cmp nat_cmp one other)
    by Less is later = refl
    by Greater is later = refl
    by Equal is later =
        let same : x ≡ y = equal_numbers x y is in
        later (rest_fails (nat_eq y x) _ (eq-eqb y x (sym same)) first) (rest_fails (nat_eq x y) _ (eq-eqb x y same) second)

-- ---- conjunctions

abbrev Match : Type 0
Match = Formula TypedAtom

abbrev alone : Match → List ℕ
alone f = enclosed (is_joined f) (typed_text f)

-- what is written of operands before the next one
common : List ℕ → List ℕ → List Match → List ℕ
common front operator [] = front
common front operator (f ∷ fs) = (front ++ alone f) ++ common operator operator fs

-- what no operator joins is written as it is
unjoined_text : (f : Match) → is_joined f ≡ false → alone f ≡ typed_text f
unjoined_text f is = rw is (append-nil (typed_text f))

-- the text of operands, at one that no operator joins
text_at : (front operator : List ℕ) (fs : List Match) (i : ℕ) (d : Match) → i < length fs → is_joined (get_or fs i d) ≡ false
    → operands_text typed_writing front operator (formulas fs) ≡ common front operator (take i fs) ++ (typed_text (get_or fs i d) ++ operands_text typed_writing operator operator (formulas (drop (suc i) fs)))
unfolding common
text_at front operator [] i d below is = absurd (omega arith)
text_at front operator (f ∷ fs) zero d below is = ap (λ l. (front ++ l) ++ operands_text typed_writing operator operator (formulas fs)) (unjoined_text f is) ∙ append_assoc front (typed_text f) (operands_text typed_writing operator operator (formulas fs))
text_at front operator (f ∷ fs) (suc i) d below is =
    let after = typed_text (get_or fs i d) ++ operands_text typed_writing operator operator (formulas (drop (suc i) fs)) in
    ap (λ l. (front ++ alone f) ++ l) (text_at operator operator fs i d (omega arith) is) ∙ sym (append_assoc (front ++ alone f) (common operator operator (take i fs)) after)

-- so the texts of two conjunctions that are alike up to a place have there those of their operands
pub unlike_at : (ones others : List Match) (i : ℕ) (first second : Match) → i < length ones → i < length others → take i ones ≡ take i others → first ≡ get_or ones i first → second ≡ get_or others i second → AreUnjoined first second
    → AreInTexts first second (And (formulas ones)) (And (formulas others))
unlike_at ones others i first second in_ones in_others same is_first is_second are = record {
  front = common [] (codes " && ") (take i ones);
  rest = operands_text typed_writing (codes " && ") (codes " && ") (formulas (drop (suc i) ones));
  more = operands_text typed_writing (codes " && ") (codes " && ") (formulas (drop (suc i) others));
  in_one = rw (← is_first) at (text_at [] (codes " && ") ones i first in_ones (rw (← is_first) are.one_unjoined));
  in_other = rw same (rw (← is_second) at (text_at [] (codes " && ") others i second in_others (rw (← is_second) are.other_unjoined)));
}

-- where those tell the order of their texts, it is that of the texts
pub told_by : (first second one other : Match) → AreInTexts first second one other
    → ((rest more : List ℕ) → slice_cmp nat_cmp (typed_text first ++ rest) (typed_text second ++ more) ≡ slice_cmp nat_cmp (typed_text first) (typed_text second))
    → slice_cmp nat_cmp (typed_text first) (typed_text second) ≡ slice_cmp nat_cmp (typed_text one) (typed_text other)
told_by first second one other are apart =
    sym (ap (λ l. slice_cmp nat_cmp l (typed_text other)) are.in_one ∙ ap (slice_cmp nat_cmp (are.front ++ (typed_text first ++ are.rest))) are.in_other
    ∙ begun_alike are.front (typed_text first ++ are.rest) (typed_text second ++ are.more) ∙ apart are.rest are.more)
