-- What tells the order of two matches by their texts.
use Rattle.std.specs.Prelude.{◌≡◌, ℕ, List, ◌++◌, false}
use Rattle.expr_core.specs.Formula.{Formula}
use Rattle.expr_core.specs.Text.{is_joined, typed_text}
use Rattle.expr_core.specs.declared.typed.TypedAtom.{TypedAtom}

-- the texts of two matches begin alike, and then have those of two others
pub record AreInTexts (first second one other : Formula TypedAtom) : Type 0 where
  pub front : List ℕ
  pub rest : List ℕ
  pub more : List ℕ
  pub in_one : typed_text one ≡ front ++ (typed_text first ++ rest)
  pub in_other : typed_text other ≡ front ++ (typed_text second ++ more)

-- no operator joins either of two matches
pub record AreUnjoined (one other : Formula TypedAtom) : Type 0 where
  pub one_unjoined : is_joined one ≡ false
  pub other_unjoined : is_joined other ≡ false
