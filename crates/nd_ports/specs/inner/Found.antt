-- What is asked of a record that is found.
use Rattle.std.specs.Prelude.{Option, Some, None, is_some}
use Rattle.nv_base.specs.declared.object.ObjId.{ObjId}
use Rattle.nb_records.specs.declared.switch.Switch.{Switch}
use Rattle.net_rows.specs.declared.inputs.SwitchL2Input.{SwitchL2Input}

-- the input of the lookup of a switch, by the first port for unknown destinations that it has
abbrev pub input_where : Option ObjId → Option Switch → Option SwitchL2Input
input_where first None = None
input_where first (Some switch) = Some (record { unknown = is_some first })
