-- The operands that were looked at, and those that are left.
use Rattle.std.proofs.Common.{◌≡◌, ℕ, ◌<◌, ◌≤◌, ◌+◌, Bool, true, false, not, List, [], ◌∷◌, length, drop, slice_index_or, refl, sym, ap, ◌∙◌}
use Rattle.std.specs.Bool.{beq}
use Rattle.std.proofs.lemmas.List.{at_drop_more}
use Rattle.std.proofs.Math.ListN.{drop_of_length-le}
use Rattle.pkt_core.specs.Packet.{Values}
use Rattle.expr_core.specs.Formula.{Formula, formulas}
use Rattle.expr_core.specs.Formula.Formula.{And, Or}
use Rattle.expr_core.specs.Lookup.{Lookup}
use Rattle.expr_core.specs.declared.typed.TypedAtom.{TypedAtom}
use Rattle.expr_eval.specs.inner.Wanted.{meant}

-- the conjunction of the operands that are left means what all do
abbrev pub AndLeft : Bool → Lookup → Values → List (Formula TypedAtom) → ℕ → Type 0
AndLeft wanted net packet fs i = meant wanted net packet (And (formulas (drop i fs))) ≡ meant wanted net packet (And (formulas fs))

abbrev pub OrLeft : Bool → Lookup → Values → List (Formula TypedAtom) → ℕ → Type 0
OrLeft wanted net packet fs i = meant wanted net packet (Or (formulas (drop i fs))) ≡ meant wanted net packet (Or (formulas fs))

-- what a test of two truth values says of the first
pub same_from_test : (a b : Bool) → beq a b ≡ true → a ≡ b
same_from_test true true e = refl
same_from_test true false e = absurd cc
same_from_test false true e = absurd cc
same_from_test false false e = refl

pub other_from_test : (a b : Bool) → beq a b ≡ false → a ≡ not b
other_from_test true true e = absurd cc
other_from_test true false e = refl
other_from_test false true e = refl
other_from_test false false e = absurd cc

module _ (net : Lookup) (packet : Values) where
  -- one operand and others
  and_one : (w : Bool) (f : Formula TypedAtom) (fs : List (Formula TypedAtom)) → meant w net packet f ≡ w
      → meant w net packet (And (formulas (f ∷ fs))) ≡ meant w net packet (And (formulas fs))
  and_one true f fs e = rw e refl
  and_one false f fs e = rw e refl

  and_none : (w : Bool) (f : Formula TypedAtom) (fs : List (Formula TypedAtom)) → meant w net packet f ≡ not w
      → meant w net packet (And (formulas (f ∷ fs))) ≡ not w
  and_none true f fs e = rw e refl
  and_none false f fs e = rw e refl

  and_empty : (w : Bool) → meant w net packet (And (formulas [])) ≡ w
  and_empty true = refl
  and_empty false = refl

  or_one : (w : Bool) (f : Formula TypedAtom) (fs : List (Formula TypedAtom)) → meant w net packet f ≡ w
      → meant w net packet (Or (formulas (f ∷ fs))) ≡ w
  or_one true f fs e = rw e refl
  or_one false f fs e = rw e refl

  or_none : (w : Bool) (f : Formula TypedAtom) (fs : List (Formula TypedAtom)) → meant w net packet f ≡ not w
      → meant w net packet (Or (formulas (f ∷ fs))) ≡ meant w net packet (Or (formulas fs))
  or_none true f fs e = rw e refl
  or_none false f fs e = rw e refl

  or_empty : (w : Bool) → meant w net packet (Or (formulas [])) ≡ not w
  or_empty true = refl
  or_empty false = refl

  -- the operand at hand and those after it
  pub and_goes_on : (w : Bool) (fs : List (Formula TypedAtom)) (i : ℕ) (d : Formula TypedAtom) → i < length fs → AndLeft w net packet fs i
      → meant w net packet (slice_index_or fs i d) ≡ w → AndLeft w net packet fs (i + 1)
  and_goes_on w fs i d within left e =
      sym (and_one w (slice_index_or fs i d) (drop (i + 1) fs) e) ∙ sym (at_drop_more (λ gs. meant w net packet (And (formulas gs))) fs i d within) ∙ left

  pub and_stops : (w : Bool) (fs : List (Formula TypedAtom)) (i : ℕ) (d : Formula TypedAtom) → i < length fs → AndLeft w net packet fs i
      → meant w net packet (slice_index_or fs i d) ≡ not w → not w ≡ meant w net packet (And (formulas fs))
  and_stops w fs i d within left e =
      sym (and_none w (slice_index_or fs i d) (drop (i + 1) fs) e) ∙ sym (at_drop_more (λ gs. meant w net packet (And (formulas gs))) fs i d within) ∙ left

  pub and_ends : (w : Bool) (fs : List (Formula TypedAtom)) (i : ℕ) → length fs ≤ i → AndLeft w net packet fs i → w ≡ meant w net packet (And (formulas fs))
  and_ends w fs i over left = sym (and_empty w) ∙ ap (λ gs. meant w net packet (And (formulas gs))) (sym (drop_of_length-le fs over)) ∙ left

  pub or_goes_on : (w : Bool) (fs : List (Formula TypedAtom)) (i : ℕ) (d : Formula TypedAtom) → i < length fs → OrLeft w net packet fs i
      → meant w net packet (slice_index_or fs i d) ≡ not w → OrLeft w net packet fs (i + 1)
  or_goes_on w fs i d within left e =
      sym (or_none w (slice_index_or fs i d) (drop (i + 1) fs) e) ∙ sym (at_drop_more (λ gs. meant w net packet (Or (formulas gs))) fs i d within) ∙ left

  pub or_stops : (w : Bool) (fs : List (Formula TypedAtom)) (i : ℕ) (d : Formula TypedAtom) → i < length fs → OrLeft w net packet fs i
      → meant w net packet (slice_index_or fs i d) ≡ w → w ≡ meant w net packet (Or (formulas fs))
  or_stops w fs i d within left e =
      sym (or_one w (slice_index_or fs i d) (drop (i + 1) fs) e) ∙ sym (at_drop_more (λ gs. meant w net packet (Or (formulas gs))) fs i d within) ∙ left

  pub or_ends : (w : Bool) (fs : List (Formula TypedAtom)) (i : ℕ) → length fs ≤ i → OrLeft w net packet fs i → not w ≡ meant w net packet (Or (formulas fs))
  or_ends w fs i over left = sym (or_empty w) ∙ ap (λ gs. meant w net packet (Or (formulas gs))) (sym (drop_of_length-le fs over)) ∙ left
