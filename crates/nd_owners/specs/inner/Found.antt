-- The owner of a record that is found.
use Rattle.std.specs.Prelude.{Bool, Option, Some, None, if◌then◌else◌}
use Rattle.nv_base.specs.declared.object.ObjId.{ObjId}

-- the owner of a record, where it passes a test
abbrev pub owner_where : {R : Type 0} → (R → ObjId) → (R → Bool) → Option R → Option ObjId
owner_where owner passes None = None
owner_where owner passes (Some r) = if passes r then Some (owner r) else None
