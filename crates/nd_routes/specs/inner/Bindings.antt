-- Static bindings by their ports.
use Rattle.std.specs.Prelude.{List, [], ◌∷◌, filter, Option, None, Some}
use Rattle.std.specs.List.{flat_map}
use Rattle.std.specs.Option.{option_map}
use Rattle.nv_base.specs.declared.object.ObjId.{ObjId}
use Rattle.nv_table.specs.Table.{record_of}
use Rattle.nb_records.specs.declared.router.Binding.{Binding}
use Rattle.nb_records.specs.declared.router.RouterPort.{RouterPort}
use Rattle.nb_model.specs.Network.{Network, same}
use Rattle.lr_rows.specs.declared.inputs.BindingInput.{BindingInput}
use Rattle.lr_units.specs.Units.{binding_input}

-- the input of a binding that is found, where its port is
abbrev pub binding_where : List RouterPort → Option Binding → Option BindingInput
binding_where ports None = None
binding_where ports (Some binding) = option_map (λ port. binding_input port binding) (record_of (λ x. x.id) binding.port ports)

abbrev pub bindings_at : Network → ObjId → List Binding
bindings_at net port = filter (λ binding. same port binding.port) net.bindings

abbrev pub number_of : Binding → List ObjId
number_of binding = binding.id ∷ []

-- the numbers of the bindings of a port
abbrev pub numbers_at : Network → ObjId → List ObjId
numbers_at net port = flat_map number_of (bindings_at net port)
