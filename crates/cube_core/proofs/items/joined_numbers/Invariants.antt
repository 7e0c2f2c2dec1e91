use Rattle.std.proofs.Common.{Some}
use Rattle.cube_core.specs.Cubes.{masked_cubes}
use Rattle.cube_core.proofs.Loops.{Joining}
use Rattle.cube_core.proofs.items.joined_numbers.Given as goal

abbrev pub invariant-loop-number : goal.invariant-loop-number
invariant-loop-number l = Joining l.is_and (λ m. Some (masked_cubes l.field l.bits l.rel m)) l.numbers l.sofar l.number-index
