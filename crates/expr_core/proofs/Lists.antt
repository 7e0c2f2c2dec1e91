-- A list's text, one item on.
use Rattle.std.proofs.Common.{◌≡◌, ◌<◌, ◌+◌, ℕ, Bool, List, ◌++◌, ◌∙◌, length, drop, codes, slice_index_or, append_assoc}
use Rattle.std.proofs.lemmas.List.{at_drop_more}
use Rattle.nv_base.specs.Growth.{GrowsAtEnd}
use Rattle.expr_core.specs.Formula.{Formula, formulas}
use Rattle.expr_core.specs.Text.{item_text, items_text, Writing, is_joined, enclosed, formula_text, operands_text}
use Rattle.expr_core.specs.declared.comparison.Item.{Item}

-- with this item's text at the end, the items after it say the same
pub item_appended : (items : List Item) (i : ℕ) (d : Item) (front there middle end : List ℕ) → i < length items
    → middle ≡ there ++ front → end ≡ middle ++ item_text (slice_index_or items i d)
    → end ++ items_text (codes ", ") (drop (i + 1) items) ≡ there ++ items_text front (drop i items)
item_appended items i d front there middle end within one two =
    rw (two, one, at_drop_more (λ is. items_text front is) items i d within) (simp append_assoc)

-- with this operand's text at the end, the operands after it say the same
pub operand_appended : {A : Type 0} (w : Writing A) (fs : List (Formula A)) (i : ℕ) (f : Formula A) (joined : Bool) (front operator there end all : List ℕ)
    → i < length fs → f ≡ slice_index_or fs i f → joined ≡ is_joined f
    → end ≡ there ++ front ++ enclosed joined (formula_text w f)
    → there ++ operands_text w front operator (formulas (drop i fs)) ≡ all → end ++ operands_text w operator operator (formulas (drop (i + 1) fs)) ≡ all
operand_appended w fs i f joined front operator there end all within is same grown whole =
    let more = at_drop_more (λ gs. operands_text w front operator (formulas gs)) fs i f within in
    let here : end ≡ there ++ front ++ enclosed (is_joined f) (formula_text w f) = rw same at grown in
    let step : end ++ operands_text w operator operator (formulas (drop (i + 1) fs)) ≡ there ++ operands_text w front operator (formulas (drop i fs)) =
    rw (more, ← is, here) (simp append_assoc) in
    step ∙ whole

-- what was appended to, and then kept, grew at its end
pub grown_kept : (there middle end more : List ℕ) → middle ≡ there ++ more → end ≡ middle → GrowsAtEnd there end
grown_kept there middle end more one same = (more, same ∙ one)
