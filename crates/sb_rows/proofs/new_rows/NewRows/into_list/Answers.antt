use Rattle.std.proofs.Common.{◌∙◌, arith, rules}
use Rattle.std.specs.Ordering.{is_lt}
use Rattle.std.specs.List.Sorted.{IsStable}
use Rattle.std.proofs.lemmas.List.Sorted.{ranks_by, answers_always}
use Rattle.sb_model.specs.declared.row.Row.{Row}
use Rattle.sb_rows.specs.Row.{key_cmp}
use Rattle.sb_rows.proofs.KeysFirst.{put_after_sort}
use Rattle.sb_rows.proofs.Order.{key_cmp_total}
use Rattle.sb_rows.proofs.Stable.{few_are_put}
use Rattle.sb_rows.proofs.new_rows.NewRows.into_list.Goals as goal

-- the sort leaves the rows in the order of their keys
pub in_row_order-requires : goal.in_row_order-requires
in_row_order-requires c = c.in_ok-sort_by.ensures.sorted (λ x y. is_lt (key_cmp x y)) (ranks_by key_cmp_total (λ (r : Row). r)) (answers_always _ _ _ (λ f a r g called. search rules))

-- and those that tie as they were
pub returns : goal.returns
returns c =
    let rows = c.self.inside.stored.items in
    let sorted = c.sort_by.new.self.items in
    let stable : IsStable key_cmp rows sorted = c.sort_by.ensures.stable (λ x y. is_lt (key_cmp x y)) (ranks_by key_cmp_total (λ (r : Row). r)) (answers_always _ _ _ (λ f a r g called. search rules)) in
    rw (← c.self.view_is) (c.from_stored-2.ensures ∙ c.in_ok-in_row_order.ensures ∙ put_after_sort rows sorted stable)

-- none and one are in order
pub returns-then-len-lt2 : goal.returns-then-len-lt2
returns-then-len-lt2 c = rw (← c.self.view_is) (c.from_stored.ensures ∙ few_are_put c.self.inside.stored.items (omega arith))
