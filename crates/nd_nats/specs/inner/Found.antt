-- What is asked of a record that is found.
use Rattle.std.specs.Prelude.{◌||◌, not, Option, Some, None, is_some}
use Rattle.nv_base.specs.declared.object.ObjId.{ObjId}
use Rattle.nb_records.specs.declared.router.Router.{Router}
use Rattle.nb_model.specs.Applies.{is_empty}
use Rattle.lr_rows.specs.declared.inputs.RouterNatInput.{RouterNatInput}

-- the input of the stages of translation of a router, by the first rule that changes destinations which it has
abbrev pub input_where : Option ObjId → Option Router → Option RouterNatInput
input_where first None = None
input_where first (Some router) = Some (record { dnats = is_some first || not (is_empty router.lbs) })
