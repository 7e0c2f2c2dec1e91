use Rattle.std.proofs.Common.{◌≡◌, ◌∙◌, [], ap, sym, subst, length, rules}
use Rattle.std.specs.List.{dedup}
use Rattle.std.specs.Ordering.{eq_by_cmp}
use Rattle.std.proofs.lemmas.Fn.{dedup_same}
use Rattle.sb_rows.specs.Row.{AreRows, IsInRowOrder, IsSetOf, row_cmp, put_rows}
use Rattle.sb_rows.specs.inner.Beside.{is_same}
use Rattle.sb_rows.specs.inner.Store.{flat}
use Rattle.sb_rows.proofs.AsSet.{as_set, once_each, set_are_rows}
use Rattle.sb_rows.proofs.rows.Rows.of_all.Goals as goal

-- what is left is one of each that agree
left : (c : goal.After-len-count) → c.dedup_by.new.self.items ≡ dedup (eq_by_cmp row_cmp) (put_rows [] c.args.new)
left c =
    let each = rw (c.into_stored-sorted.ensures, c.in_ok-into_list.ensures) at (dedup_same _ is_same _ (λ x y b f x' y' called. search rules) _ _ c.dedup_by.ensures.filtered) in
    each ∙ once_each c.args.new c.requires.agree

pub tables_of-requires : goal.tables_of-requires
tables_of-requires c = subst IsInRowOrder (sym (left c)) (set_are_rows c.args.new c.requires.agree c.requires.typed).ordered

-- and so are the rows of the tables
kept : (c : goal.In_ok-tables) → flat c.in_ok-tables.tables.entries ≡ dedup (eq_by_cmp row_cmp) (put_rows [] c.args.new)
kept c =
    let each = rw (c.into_stored-sorted.ensures, c.in_ok-into_list.ensures) at (dedup_same _ is_same _ (λ x y b f x' y' called. search rules) _ _ c.dedup_by.ensures.filtered) in
    c.in_ok-tables.ensures.rows ∙ each ∙ once_each c.args.new c.requires.agree

pub invariant_of-result : goal.invariant_of-result
invariant_of-result c = record {
  tables = c.in_ok-tables.ensures.tables;
  rows = subst AreRows (sym (kept c)) (set_are_rows c.args.new c.requires.agree c.requires.typed);
  counted = c.len-count.ensures ∙ c.dedup_by.new.self.ok.0 ∙ ap length (sym c.in_ok-tables.ensures.rows);
}

pub returns : goal.returns
returns c = subst (λ rows. IsSetOf rows c.args.new) (sym (kept c)) (as_set c.args.new c.requires.agree)
