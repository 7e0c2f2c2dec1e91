-- Which objects edits remove.
use Rattle.std.specs.Prelude.{Bool, not, ◌&&◌, List}
use Rattle.nv_base.specs.declared.object.ObjId.{ObjId}
use Rattle.nb_model.specs.Belongs.{is_among}

-- a number of old objects is none of new ones
abbrev pub is_gone : List ObjId → List ObjId → ObjId → Bool
is_gone old new number = is_among number old && not (is_among number new)
