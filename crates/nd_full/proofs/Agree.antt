-- Rows that are those of a list whose rows are apart: what is made a set of them, and that it is that list in row order.
use Rattle.std.proofs.Common.{◌≡◌, ◌<◌, ◌⊎◌, inl, inr, List, [], get_or, sym, ap, ◌∙◌, arith}
use Rattle.std.specs.Prelude.{◌↔◌}
use Rattle.std.specs.Ordering.{ordering_reverse}
use Rattle.std.specs.List.{All, Contains}
use Rattle.std.proofs.lemmas.Bool.{cases_order}
use Rattle.std.proofs.lemmas.List.{get_or_default}
use Rattle.std.proofs.lemmas.List.Elements.{All-contains}
use Rattle.sb_model.specs.declared.row.Row.{Row}
use Rattle.sb_rows.specs.Row.{row_cmp, put_rows, AgreeAsOne, AreApart, HasTypedMatch, IsSetOf}
use Rattle.sb_rows.proofs.AllAtOnce.{apart_moves, put_members, put_rows_move, put_rows_ordered, told_by_members}
use Rattle.sb_rows.proofs.Order.{row_cmp_total}
use Rattle.net_rows.proofs.Elements.{All-from_members}
use Rattle.nd_router.specs.Members.{HaveSameRows}

-- rows that are apart and agree are one
one_of_apart : (rows : List Row) → AreApart rows → AgreeAsOne rows
one_of_apart rows apart a b (i, i_below, is_a) (j, j_below, is_b) agree = by (cases_order i j)
  where
    b_here : get_or rows j a ≡ b
    b_here = get_or_default rows j a b j_below ∙ is_b

    by : (i ≡ j) ⊎ ((i < j) ⊎ (j < i)) → a ≡ b
    by (inl same) = sym is_a ∙ ap (λ k. get_or rows k a) same ∙ b_here
    by (inr (inl before)) = absurd (apart i j a before j_below (ap (λ x. row_cmp x (get_or rows j a)) is_a ∙ ap (row_cmp a) b_here ∙ agree))
    by (inr (inr behind)) =
        absurd (apart j i a behind i_below (ap (λ x. row_cmp x (get_or rows i a)) b_here ∙ ap (row_cmp b) is_a ∙ row_cmp_total.antisymm b a ∙ ap ordering_reverse agree))

module _ (list new : List Row) (same : HaveSameRows new list) where
  pub agree_as_one : AreApart list → AgreeAsOne new
  agree_as_one apart a b a_there b_there = one_of_apart list apart a b ((same.members a).0 a_there) ((same.members b).0 b_there)

  pub all_typed : All HasTypedMatch list → All HasTypedMatch new
  all_typed typed = All-from_members HasTypedMatch new (λ r there. All-contains HasTypedMatch list r typed ((same.members r).0 there))

  -- the set of them is the list in row order
  pub set_is_put : (rows : List Row) → AreApart list → IsSetOf rows new → rows ≡ put_rows [] list
  set_is_put rows apart set =
      told_by_members rows (put_rows [] list) set.ordered set.apart (put_rows_ordered list [] (λ k d le lt. absurd (omega arith))) (apart_moves list (put_rows [] list) (put_rows_move list []) apart) members
    where
      members : (r : Row) → Contains rows r ↔ Contains (put_rows [] list) r
      members r =
          (λ at. (put_members list r).1 ((same.members r).0 ((set.members r).0 at)), λ at. (set.members r).1 ((same.members r).1 ((put_members list r).0 at)))
