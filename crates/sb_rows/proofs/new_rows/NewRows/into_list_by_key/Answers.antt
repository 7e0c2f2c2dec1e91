use Rattle.std.proofs.Common.{sym, subst, rules}
use Rattle.std.specs.Ordering.{is_lt}
use Rattle.std.specs.List.Sorted.{IsSorted}
use Rattle.std.proofs.lemmas.List.Sorted.{Contains-permutation, IsPermutation-sym, ranks_by, answers_always}
use Rattle.sb_model.specs.declared.row.Row.{Row}
use Rattle.sb_rows.specs.Row.{key_cmp}
use Rattle.sb_rows.proofs.Order.{key_cmp_total}
use Rattle.sb_rows.proofs.new_rows.NewRows.into_list_by_key.Goals as goal

-- the sort leaves the rows in the order of their keys
pub returns-clause-order : goal.returns-clause-order
returns-clause-order c = subst (IsSorted key_cmp) (sym c.from_stored.ensures) (c.in_ok-sort_by.ensures.sorted (λ x y. is_lt (key_cmp x y)) (ranks_by key_cmp_total (λ (r : Row). r)) (answers_always _ _ _ (λ f a r g called. search rules)))

-- and they are the same
pub returns-clause-members : goal.returns-clause-members
returns-clause-members c r =
    let rows = c.self.inside.stored.items in
    let sorted = c.sort_by.new.self.items in
    rw (c.from_stored.ensures, ← c.self.view_is) (Contains-permutation sorted rows r (IsPermutation-sym rows sorted c.sort_by.ensures.permutation), Contains-permutation rows sorted r c.sort_by.ensures.permutation)
