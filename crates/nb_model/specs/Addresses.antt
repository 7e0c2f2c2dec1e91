-- The MACs of ports, and networks that are written with a host part.
use Rattle.std.specs.Prelude.{ℕ, ◌-◌, ◌%◌, ◌^◌, ◌==◌, Bool, not, List}
use Rattle.std.specs.List.{flat_map}
use Rattle.nv_base.specs.Block.{Block}
use Rattle.nb_records.specs.declared.switch.Port.{Port}
use Rattle.nb_model.specs.Readable.{macs_of}

-- the MACs among the addresses of a port
abbrev pub macs : Port → List ℕ
macs port = flat_map macs_of port.addresses

-- how many addresses a network has
abbrev pub size_of : Block → ℕ
size_of net = 2 ^ (32 - net.len)

-- a network written with a host part
abbrev pub has_host_part : Block → Bool
has_host_part net = not (net.base.0 % size_of net == 0)
