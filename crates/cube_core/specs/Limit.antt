-- Lists of cubes that are not too long (not from OVN).
use Rattle.std.specs.Prelude.{ℕ, nat_le, Bool, true, false, List, [], ◌∷◌, ◌++◌, length, map, Option, Some, None, if◌then◌else◌}
use Rattle.std.specs.List.{filter, flat_map}
use Rattle.cube_core.specs.declared.cube.Cube.{Cube}
use Rattle.cube_core.specs.Cube.{share, meet, everything}

-- the most cubes that a list may have
abbrev pub cube_limit : ℕ
cube_limit = 65536

-- the list, where it is not too long
abbrev pub limited : List Cube → Option (List Cube)
limited cubes = if nat_le (length cubes) cube_limit then Some cubes else None

-- what a cube has in common with each of a list, those left out that share no packet with it
abbrev pub meets : List Cube → Cube → List Cube
meets cubes cube = map (meet cube) (filter (share cube) cubes)

-- what the cubes of one list have in common with those of another
abbrev pub products : List Cube → List Cube → List Cube
products ones others = flat_map (meets others) ones

-- one list more of a conjunction, or of a disjunction
abbrev pub joined : Bool → List Cube → List Cube → List Cube
joined true sofar more = products sofar more
joined false sofar more = sofar ++ more

-- the list of a conjunction or of a disjunction of none
abbrev pub joined_none : Bool → List Cube
joined_none true = everything ∷ []
joined_none false = []

-- a list more, where neither was too long, and where what they make is not
abbrev pub join_one : Bool → Option (List Cube) → Option (List Cube) → Option (List Cube)
join_one is_and (Some sofar) (Some more) = limited (joined is_and sofar more)
join_one is_and _ _ = None

-- one list after the other
abbrev pub join_each : Bool → Option (List Cube) → List (Option (List Cube)) → Option (List Cube)
join_each is_and sofar [] = sofar
join_each is_and sofar (more ∷ lists) = join_each is_and (join_one is_and sofar more) lists

-- The conjunction or the disjunction of lists, from the left. There is none where a list, or what the first of them make, is too long.
abbrev pub join_all : Bool → List (Option (List Cube)) → Option (List Cube)
join_all is_and lists = join_each is_and (Some (joined_none is_and)) lists
