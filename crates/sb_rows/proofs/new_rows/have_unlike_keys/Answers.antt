use Rattle.std.proofs.Common.{sym, rules}
use Rattle.std.specs.Ordering.{is_lt}
use Rattle.std.proofs.lemmas.List.Sorted.{answers_always}
use Rattle.sb_rows.specs.Row.{key_cmp}
use Rattle.sb_rows.proofs.KeysFirst.{rising_are_put}
use Rattle.sb_rows.proofs.new_rows.have_unlike_keys.Goals as goal

pub returns : goal.returns
returns c = λ is.
    let rise = rw is at (c.is_sorted_by.ensures.cases (λ x y. is_lt (key_cmp x y)) (answers_always _ _ _ (λ f a r g called. search rules))) in
    rising_are_put c.args.rows.now (λ k d below. sym (rise k d below))
