-- How connections are written (modelled on `dpctl/dump-conntrack` of ovs-appctl(8); the form of a line is not from OVS).
use Rattle.std.specs.Prelude.{ℕ, Bool, List, ◌++◌, codes, decimal, if◌then◌else◌}
use Rattle.std.specs.List.{flat_map}
use Rattle.nv_base.specs.Ip4.{ip4_text}
use Rattle.pkt_core.specs.declared.tuple.Tuple.{Tuple}
use Rattle.ct_core.specs.declared.entry.Entry.{Entry}
use Rattle.ct_core.specs.declared.zone.Zone.{Zone}
use Rattle.ct_core.specs.declared.zone.Zone.TheVariants.{Port, Dnat, Snat}
use Rattle.nb_model.specs.Network.{Network}
use Rattle.nv_reply.specs.Events.{datapath_name, port_name}

-- a zone: that of a port of a switch, or one of the two of a router
abbrev pub zone_text : Network → Zone → List ℕ
zone_text net (Port number) = codes "port:" ++ port_name net number
zone_text net (Dnat number) = codes "dnat:" ++ datapath_name net number
zone_text net (Snat number) = codes "snat:" ++ datapath_name net number

-- a tuple: the address and the port of the source, and those of the destination
abbrev pub tuple_text : Tuple → List ℕ
tuple_text tuple = ip4_text tuple.src ++ codes ":" ++ decimal tuple.sport ++ codes ">" ++ ip4_text tuple.dst ++ codes ":" ++ decimal tuple.dport

-- the mark of an entry
abbrev pub mark_text : Bool → List ℕ
mark_text blocked = if blocked then codes "1" else codes "0"

-- the tuples of both directions
abbrev pub tuples_text : Entry → List ℕ
tuples_text entry = codes " orig=" ++ tuple_text entry.orig ++ codes " reply=" ++ tuple_text entry.reply

-- what a line says of an entry after its zone
abbrev pub entry_text : Entry → List ℕ
entry_text entry = codes " proto=" ++ decimal entry.orig.proto ++ tuples_text entry ++ codes " blocked=" ++ mark_text entry.blocked ++ codes "\n"

-- the line of an entry
abbrev pub connection_line : Network → Entry → List ℕ
connection_line net entry = zone_text net entry.zone ++ entry_text entry

-- the lines of connections
abbrev pub connection_lines : Network → List Entry → List ℕ
connection_lines net conns = flat_map (connection_line net) conns
