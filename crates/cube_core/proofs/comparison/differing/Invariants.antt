use Rattle.std.proofs.Common.{◌≡◌, ◌≤◌, ◌++◌, map}
use Rattle.std.specs.List.{filter}
use Rattle.nv_base.specs.Field.{field_width}
use Rattle.cube_core.specs.Comparison.{falling, has_bit, differs_at, differing}
use Rattle.cube_core.proofs.comparison.differing.Given as goal

-- with the cubes of the bits that are left, those that are there are the list
abbrev pub invariant-loop-left : goal.invariant-loop-left
invariant-loop-left l = record {
  whole : l.cubes ++ map (differs_at l.field l.mask l.number) (filter (has_bit l.bits) (falling l.left)) ≡ differing l.field l.mask l.number l.bits;
  within : l.left ≤ field_width l.field;
}

abbrev pub decreases-loop-left : goal.decreases-loop-left
decreases-loop-left l = l.left
