-- What operands of a conjunction ask, one after the other.
use Rattle.std.proofs.Common.{◌≡◌, ℕ, ◌+◌, ◌<◌, ◌≤◌, List, length, get_or, drop, ap, sym, ◌∙◌}
use Rattle.std.proofs.lemmas.List.{at_drop_more, at_drop_all}
use Rattle.expr_core.specs.Formula.{Formula, formulas}
use Rattle.expr_core.specs.declared.typed.TypedAtom.{TypedAtom}
use Rattle.sb_rows.specs.inner.Plain.{Plain, operand_asked, operands_asked, plain_asked, plain_ones_asked}

abbrev pub ask_all : Plain → List (Formula TypedAtom) → Plain
ask_all p ops = operands_asked (formulas ops) p

abbrev pub ask_plain_ones : Plain → List (Formula TypedAtom) → Plain
ask_plain_ones p ops = plain_ones_asked (formulas ops) p

module _ (ops : List (Formula TypedAtom)) (i : ℕ) (d : Formula TypedAtom) (p q all : Plain) (within : i < length ops) where
  pub operands_next : q ≡ operand_asked (get_or ops i d) p → ask_all p (drop i ops) ≡ all → ask_all q (drop (i + 1) ops) ≡ all
  operands_next is so_far = ap (λ x. ask_all x (drop (i + 1) ops)) is ∙ sym (at_drop_more (ask_all p) ops i d within) ∙ so_far

  pub plain_ones_next : q ≡ plain_asked (get_or ops i d) p → ask_plain_ones p (drop i ops) ≡ all → ask_plain_ones q (drop (i + 1) ops) ≡ all
  plain_ones_next is so_far = ap (λ x. ask_plain_ones x (drop (i + 1) ops)) is ∙ sym (at_drop_more (ask_plain_ones p) ops i d within) ∙ so_far

-- where none is left
module _ (ops : List (Formula TypedAtom)) (i : ℕ) (q all : Plain) (past : length ops ≤ i) where
  pub operands_end : ask_all q (drop i ops) ≡ all → q ≡ all
  operands_end so_far = sym (at_drop_all (ask_all q) ops i past) ∙ so_far

  pub plain_ones_end : ask_plain_ones q (drop i ops) ≡ all → q ≡ all
  plain_ones_end so_far = sym (at_drop_all (ask_plain_ones q) ops i past) ∙ so_far
