use Rattle.std.proofs.Common.{◌≡◌, ◌-◌, Some, cond, arith}
use Rattle.indexmap.specs.IndexMap.{get}
use Rattle.ct_table.specs.declared.key.Key.{Key}
use Rattle.ct_table.specs.inner.Key.{keys_equal}
use Rattle.ct_table.proofs.Numbered.{written, ended}
use Rattle.ct_table.proofs.index.renumber.Goals as goal

pub loop-rest-preserved : goal.loop-rest-preserved
loop-rest-preserved c =
    let one : (k : Key) → get keys_equal c.insert.new.self k ≡ cond (keys_equal c.of.result k) (Some (c.loop-rest.rest - 1)) (get keys_equal c.loop-rest.map k) = c.in-Ok.ensures.updates.0 in
    written c.args.side c.args.entries.now c.loop-rest.map c.insert.new.self c.loop-rest.rest (c.loop-rest.rest - 1) c.of.result _ c.loop-rest.invariant (omega arith) c.of.ensures one

pub returns : goal.returns
returns c =
    let zero_is : c.loop-rest.rest ≡ 0 = omega arith in
    ended c.args.side c.args.entries.now c.loop-rest.map (rw zero_is at c.loop-rest.invariant)
