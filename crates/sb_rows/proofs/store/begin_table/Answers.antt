use Rattle.std.proofs.Common.{◌≡◌, ℕ, subst, sym, ◌∙◌, ap, ◌++◌}
use Rattle.std.specs.List.{All}
use Rattle.sb_model.specs.declared.row.Row.{Row}
use Rattle.sb_rows.specs.Row.{IsInRowOrder}
use Rattle.sb_rows.specs.inner.Store.{flat}
use Rattle.sb_rows.specs.inner.Tables.{key_of}
use Rattle.sb_rows.proofs.Made.{above_other, below_still, none_of_nothing, nothing_after}
use Rattle.sb_rows.proofs.store.begin_table.Goals as goal

pub returns-then-key-next-clause-above : goal.returns-then-key-next-clause-above
returns-then-key-next-clause-above c = below_still c.args.key c.args.next c.args.tables.now.items c.requires.rise c.requires.above

pub returns-then-key-next-clause-keyed : goal.returns-then-key-next-clause-keyed
returns-then-key-next-clause-keyed c = subst (λ (n : ℕ). All (λ (r : Row). key_of r ≡ n) c.args.rows.now.items) c.if-key-next.true c.requires.keyed

pub add_table-requires-clause-order : goal.add_table-requires-clause-order
add_table-requires-clause-order c = subst IsInRowOrder (ap (λ v. v.items) (sym c.replace.ensures.value)) c.requires.order

pub add_table-requires-clause-keyed : goal.add_table-requires-clause-keyed
add_table-requires-clause-keyed c = subst (All (λ (r : Row). key_of r ≡ c.args.key)) (ap (λ v. v.items) (sym c.replace.ensures.value)) c.requires.keyed

pub returns-clause-above : goal.returns-clause-above
returns-clause-above c = c.in_ok-add_table.ensures.below c.args.next (above_other c.args.key c.args.next c.requires.rise c.if-key-next.false)

pub returns-clause-keyed : goal.returns-clause-keyed
returns-clause-keyed c = none_of_nothing (λ (r : Row). key_of r ≡ c.args.next) c.replace.new.dest.items (ap (λ v. v.items) c.replace.ensures.after ∙ c.new.ensures.items)

pub returns-clause-rows : goal.returns-clause-rows
returns-clause-rows c = nothing_after (flat c.add_table.new.tables.items) c.replace.new.dest.items (ap (λ v. v.items) c.replace.ensures.after ∙ c.new.ensures.items) ∙ c.in_ok-add_table.ensures.rows ∙ ap (λ v. flat c.args.tables.now.items ++ v.items) c.replace.ensures.value
