use Rattle.std.proofs.Common.{◌≤◌, length, subst, ◌∙◌}
use Rattle.net_units.specs.Keys.{by_number}
use Rattle.nd_touched.proofs.Told.{owner_of_both}
use Rattle.nd_touched.proofs.keys.and_owners.Goals as goal

pub returns : goal.returns
returns c = λ key.
    c.new.ensures.same key
    ∙ owner_of_both by_number key c.args.keys.now c.loop-pair.all.items c.args.pairs.now c.loop-pair.pair-index c.loop-pair.invariant
    (subst (λ l. length l ≤ c.loop-pair.pair-index) c.as_slice-pair-items.ensures.keys c.loop-pair-test.false)
