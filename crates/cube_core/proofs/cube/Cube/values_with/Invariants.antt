use Rattle.std.specs.Prelude.{bit_or}
use Rattle.cube_core.specs.Cube.{asked}
use Rattle.cube_core.proofs.Fields.{Made}
use Rattle.cube_core.proofs.cube.Cube.values_with.Given as goal

-- the fields before this one have the numbers of both
abbrev pub invariant-loop-field : goal.invariant-loop-field
invariant-loop-field l = Made (λ field. bit_or (asked l.self field) (asked l.other field)) l.packet l.field-index
