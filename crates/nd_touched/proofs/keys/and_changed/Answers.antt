use Rattle.std.proofs.Common.{◌≤◌, length, subst, ◌∙◌}
use Rattle.nd_touched.proofs.Told.{key_of_both}
use Rattle.nd_touched.proofs.keys.and_changed.Goals as goal

pub returns : goal.returns
returns g c = λ key.
    c.new.ensures.same key
    ∙ key_of_both g.K.Ord.cmp key c.args.keys.now c.loop-change.all.items c.args.changed.now c.loop-change.change-index c.loop-change.invariant
    (subst (λ l. length l ≤ c.loop-change.change-index) c.as_slice-change-items.ensures.changes c.loop-change-test.false)
