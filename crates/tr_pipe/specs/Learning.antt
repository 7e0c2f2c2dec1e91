-- What is learnt of neighbours, and asked of them (ovn-sb(5), `put_arp` and `get_arp`).
use Rattle.std.specs.Prelude.{List}
use Rattle.nv_base.specs.Ip4.{address}
use Rattle.nv_base.specs.declared.field.Field.TheVariants.{Inport, Outport, EthDst, ArpSpa, ArpSha, Reg0}
use Rattle.pkt_core.specs.Packet.{Values, value, with_value}
use Rattle.ct_core.specs.declared.neighbour.Neighbour.{Neighbour}
use Rattle.ct_core.specs.Neighbours.{learnt, mac_of}
use Rattle.ct_core.specs.State.{State}
use Rattle.ct_state.specs.Work.{with_nbrs}

-- who sent an ARP packet, as a neighbour of the port that it came in by
abbrev pub sender : Values → Neighbour
sender packet = record { port = record { 0 = value packet Inport }; addr = address (value packet ArpSpa); mac = value packet ArpSha }

-- the state in which that is learnt
abbrev pub with_sender : Values → State → State
with_sender packet state = with_nbrs (learnt (sender packet) state.nbrs) state

-- the packet to the MAC that the port which it goes out by knows of the address in `reg0`, to 0 where it knows none
abbrev pub resolved : List Neighbour → Values → Values
resolved nbrs packet = with_value packet EthDst (mac_of nbrs (record { 0 = value packet Outport }) (address (value packet Reg0)))
