-- How many neighbours router ports know at the ports of a switch.
use Rattle.std.specs.Prelude.{ℕ, ◌*◌, ◌-◌, Bool, ◌&&◌, not, if◌then◌else◌, filter}
use Rattle.nv_base.specs.declared.object.ObjId.{ObjId}
use Rattle.nb_records.specs.declared.switch.Port.{Port}
use Rattle.nb_model.specs.Amounts.{total, pair_count}
use Rattle.nb_model.specs.Belongs.{peer_router_port}
use Rattle.nb_model.specs.Network.{Network, same}
use Rattle.nb_limits.specs.inner.Weights.{found_count}

-- a port of the peer's switch is enabled and is another than the peer
abbrev pub is_across : Port → Port → Bool
is_across peer port = port.enabled && not (same port.id peer.id)

-- of how many router ports a port is the peer: of one, or of none
abbrev pub peered : Network → Port → ℕ
peered net port = found_count (peer_router_port net port)

-- how many ports of a switch are peers of router ports
abbrev pub peers_on : Network → ObjId → ℕ
peers_on net switch = total (peered net) (filter (λ port. same switch port.switch) net.ports)

-- where the peers of so many router ports are on the switch of a port, each knows its pairs while it is enabled, but the one whose peer it is
abbrev pub known_at : Network → ℕ → Port → ℕ
known_at net peers port = if port.enabled then pair_count net port * (peers - peered net port) else 0

-- all that they know at the ports of a switch
abbrev pub neighbours_on : Network → ObjId → ℕ
neighbours_on net switch = total (known_at net (peers_on net switch)) (filter (λ port. same switch port.switch) net.ports)
