-- What functions that make lists of cubes answer: the list, `Limit` where it is too long, or that memory ran out.
use Rattle.std.specs.Prelude.{◌≡◌, ◌<◌, ◌≤◌, List, ◌++◌, length, Option, Some, None, Result, Ok, Err}
use Rattle.cube_core.specs.declared.cube.Cube.{Cube}
use Rattle.cube_core.specs.declared.fault.CubeFault.{CubeFault}
use Rattle.cube_core.specs.declared.fault.CubeFault.TheVariants.{Limit, Memory}
use Rattle.cube_core.specs.Limit.{cube_limit}

-- the list, where there is one
abbrev pub IsAnswer : Option (List Cube) → Result (List Cube) CubeFault → Type 0
IsAnswer cubes (Ok list) = (cubes ≡ Some list) × (length list ≤ cube_limit)
IsAnswer cubes (Err Limit) = cubes ≡ None
IsAnswer cubes (Err Memory) = Unit {0}

-- cubes more, put last
abbrev pub Adds : List Cube → List Cube → List Cube → Result (Unit {0}) CubeFault → Type 0
Adds old more new (Ok _) = (new ≡ old ++ more) × (length new ≤ cube_limit)
Adds old more new (Err Limit) = cube_limit < length (old ++ more)
Adds old more new (Err Memory) = Unit {0}
