-- The items and the operands that are left.
use Rattle.std.proofs.Common.{◌≡◌, ℕ, ◌<◌, ◌≤◌, ◌+◌, List, length, drop, slice_index_or, sym, ◌∙◌}
use Rattle.std.proofs.lemmas.List.{at_drop_more, at_drop_all}
use Rattle.std.specs.Prelude.{fold}
use Rattle.std.specs.declared.hash.DefaultHasher.{DefaultHasher}
use Rattle.expr_core.specs.Formula.{Formula, formulas}
use Rattle.expr_core.specs.declared.comparison.Item.{Item}
use Rattle.expr_core.specs.declared.typed.TypedAtom.{TypedAtom}
use Rattle.expr_digest.specs.Digest.{item_fed, match_fed, matches_fed}

-- with the items that are left, what was fed is the whole
abbrev pub ItemsLeft : DefaultHasher → DefaultHasher → List Item → ℕ → Type 0
ItemsLeft before s items i = fold item_fed s (drop i items) ≡ fold item_fed before items

pub items_more : (before s : DefaultHasher) (items : List Item) (i : ℕ) (item : Item) → i < length items → item ≡ slice_index_or items i item → ItemsLeft before s items i → ItemsLeft before (item_fed s item) items (i + 1)
items_more before s items i item within is left =
    let here = at_drop_more (fold item_fed s) items i item within in
    sym (rw (← is) at here) ∙ left

pub items_all : (before s : DefaultHasher) (items : List Item) (i : ℕ) → length items ≤ i → ItemsLeft before s items i → s ≡ fold item_fed before items
items_all before s items i end left = sym (at_drop_all (fold item_fed s) items i end) ∙ left

-- with the operands that are left, what was fed is the whole
abbrev pub OperandsLeft : DefaultHasher → DefaultHasher → List (Formula TypedAtom) → ℕ → Type 0
OperandsLeft before s fs i = matches_fed s (formulas (drop i fs)) ≡ matches_fed before (formulas fs)

pub operands_more : (before s : DefaultHasher) (fs : List (Formula TypedAtom)) (i : ℕ) (f : Formula TypedAtom) → i < length fs → f ≡ slice_index_or fs i f → OperandsLeft before s fs i → OperandsLeft before (match_fed s f) fs (i + 1)
operands_more before s fs i f within is left =
    let here = at_drop_more (λ gs. matches_fed s (formulas gs)) fs i f within in
    sym (rw (← is) at here) ∙ left

pub operands_all : (before s : DefaultHasher) (fs : List (Formula TypedAtom)) (i : ℕ) → length fs ≤ i → OperandsLeft before s fs i → s ≡ matches_fed before (formulas fs)
operands_all before s fs i end left = sym (at_drop_all (λ gs. matches_fed s (formulas gs)) fs i end) ∙ left
