-- The MACs that a port takes, part by part.
use Rattle.std.specs.Prelude.{ℕ, ◌&&◌, if◌then◌else◌, List, []}
use Rattle.std.specs.List.{flat_map, list_any}
use Rattle.nb_model.specs.Belongs.{is_router_kind}
use Rattle.nb_model.specs.Readable.{macs_of}
use Rattle.nb_model.specs.Ports.{is_router_word}
use Rattle.net_rows.specs.Lookup.{more_macs}
use Rattle.net_rows.specs.declared.inputs.PortL2Input.{PortL2Input}

-- those of its addresses
abbrev pub own_macs : PortL2Input → List ℕ
own_macs input = flat_map macs_of input.addresses

-- that of the peer, where the port is of kind Router and has the word `router`
abbrev pub peer_macs : PortL2Input → List ℕ
peer_macs input = if is_router_kind input.kind && list_any is_router_word input.addresses then more_macs input.peer_mac (own_macs input) else []
