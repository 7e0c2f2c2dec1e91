-- What routers' ports have learnt of their neighbours (ovn-sb(5), `put_arp` and `get_arp`). The bound is not from OVN.
use Rattle.std.specs.Prelude.{ℕ, ◌≤◌, ◌<◌, ◌^◌, ◌==◌, nat_lt, Bool, not, ◌&&◌, ◌||◌, if◌then◌else◌, List, [], ◌∷◌, Option, length, filter}
use Rattle.std.specs.List.{AllByRecursion, find, list_any, IsDistinct}
use Rattle.std.specs.Option.{option_map_or}
use Rattle.nv_base.specs.declared.ip4.Ip4.{Ip4}
use Rattle.nv_base.specs.declared.object.ObjId.{ObjId}
use Rattle.ct_core.specs.declared.neighbour.Neighbour.{Neighbour}

-- how many neighbours may be known
abbrev pub neighbour_limit : ℕ
neighbour_limit = 65536

-- whether it is what a port knows of an address
abbrev pub is_of : ObjId → Ip4 → Neighbour → Bool
is_of port addr n = (port.0 == n.port.0) && (addr.0 == n.addr.0)

-- whether a port knows something of an address
abbrev pub is_known : ObjId → Ip4 → List Neighbour → Bool
is_known port addr nbrs = list_any (is_of port addr) nbrs

-- with a neighbour in the place of what its port knew of the address, else last
abbrev pub noted : Neighbour → List Neighbour → List Neighbour
noted n [] = n ∷ []
noted n (x ∷ nbrs) = if is_of n.port n.addr x then n ∷ nbrs else x ∷ noted n nbrs

-- with what a port learns; where as many are known as may be, nothing new is learnt
abbrev pub learnt : Neighbour → List Neighbour → List Neighbour
learnt n nbrs = if is_known n.port n.addr nbrs || nat_lt (length nbrs) neighbour_limit then noted n nbrs else nbrs

-- what a port knows of an address
abbrev pub neighbour_of : List Neighbour → ObjId → Ip4 → Option Neighbour
neighbour_of nbrs port addr = find (is_of port addr) nbrs

-- the number of the MAC that a port knows of an address, 0 where it knows none
abbrev pub mac_of : List Neighbour → ObjId → Ip4 → ℕ
mac_of nbrs port addr = option_map_or (λ n. n.mac) (neighbour_of nbrs port addr) 0

-- without what a port knows
abbrev pub without_port : ObjId → List Neighbour → List Neighbour
without_port port nbrs = filter (λ n. not (n.port.0 == port.0)) nbrs

-- whether two are of one port and one address
abbrev pub same_pair : Neighbour → Neighbour → Bool
same_pair a b = is_of b.port b.addr a

pub record IsNeighbour (n : Neighbour) : Type 0 where
  pub port : n.port.0 < 2 ^ 32
  pub addr : n.addr.0 < 2 ^ 32
  pub mac : n.mac < 2 ^ 48

-- a list of neighbours: no more than may be known, one a port and address, of numbers that fit
pub record AreNeighbours (nbrs : List Neighbour) : Type 0 where
  pub few : length nbrs ≤ neighbour_limit
  pub apart : IsDistinct same_pair nbrs
  pub fit : AllByRecursion IsNeighbour nbrs
