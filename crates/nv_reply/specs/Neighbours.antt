-- How what routers have learnt of their neighbours is written (modelled on the table MAC_Binding of ovn-sb(5); the form of a line is not from
-- OVN).
use Rattle.std.specs.Prelude.{ℕ, List, ◌++◌, codes}
use Rattle.std.specs.List.{flat_map}
use Rattle.nv_base.specs.Ip4.{ip4_text}
use Rattle.nv_base.specs.Mac.{mac_text}
use Rattle.ct_core.specs.declared.neighbour.Neighbour.{Neighbour}
use Rattle.nb_model.specs.Network.{Network}
use Rattle.nv_reply.specs.Events.{port_name}

-- what a line says of a neighbour after the router's port that learnt it: its address and its MAC
abbrev pub learnt_text : Neighbour → List ℕ
learnt_text nbr = codes " " ++ ip4_text nbr.addr ++ codes " " ++ mac_text nbr.mac ++ codes "\n"

-- the line of a neighbour
abbrev pub neighbour_line : Network → Neighbour → List ℕ
neighbour_line net nbr = port_name net nbr.port ++ learnt_text nbr

-- the lines of neighbours
abbrev pub neighbour_lines : Network → List Neighbour → List ℕ
neighbour_lines net nbrs = flat_map (neighbour_line net) nbrs
