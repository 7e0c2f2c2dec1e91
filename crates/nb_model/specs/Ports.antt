-- What is said of the ports of a switch (ovn-nb(5), 'Logical_Switch_Port TABLE').
use Rattle.std.specs.Prelude.{Bool, true, false, ◌&&◌}
use Rattle.std.specs.List.{list_any}
use Rattle.nv_base.specs.declared.object.ObjId.{ObjId}
use Rattle.nb_records.specs.declared.switch.Addr.{Addr}
use Rattle.nb_records.specs.declared.switch.Addr.TheVariants as addr
use Rattle.nb_model.specs.Network.{same, Port}

abbrev pub is_router_word : Addr → Bool
is_router_word addr.Router = true
is_router_word _ = false

abbrev pub is_unknown_word : Addr → Bool
is_unknown_word addr.Unknown = true
is_unknown_word _ = false

-- whatever no other port has goes to the port
abbrev pub takes_unknown : Port → Bool
takes_unknown port = list_any is_unknown_word port.addresses

-- an enabled port of the switch
abbrev pub is_open : ObjId → Port → Bool
is_open switch port = same port.switch switch && port.enabled
