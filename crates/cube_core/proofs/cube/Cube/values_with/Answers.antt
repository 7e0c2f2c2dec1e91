use Rattle.std.proofs.Common.{◌≡◌, ap₂, arith}
use Rattle.std.specs.Prelude.{bit_or}
use Rattle.std.proofs.lemmas.Nat.{or_lt}
use Rattle.nv_base.specs.Field.{field_count}
use Rattle.cube_core.proofs.Fields.{made_more, made_all}
use Rattle.cube_core.proofs.cube.Cube.values_with.Goals as goal

pub set-requires : goal.set-requires
set-requires c = or_lt _ _ _ c.asked.ensures.fits c.asked-in-loop-field.ensures.fits

pub loop-field-preserved : goal.loop-field-preserved
loop-field-preserved c =
    rw (c.set.ensures.set, c.all-field-items.ensures)
    (made_more _ _ _ _ _ c.loop-field-test.true (rw c.all-field-items.ensures at (ap₂ bit_or c.asked.ensures.value c.asked-in-loop-field.ensures.value)) c.loop-field.invariant)

pub returns : goal.returns
returns c =
    let last : c.loop-field.field-index ≡ field_count = omega arith in
    made_all _ _ (rw last at c.loop-field.invariant)
