-- What changes the list of connections (ovn-sb(5), `ct_commit`). The bound, and that an entry goes last, are not from OVN.
use Rattle.std.specs.Prelude.{ℕ, zero, suc, ◌≤◌, ◌<◌, ◌^◌, nat_lt, Bool, not, if◌then◌else◌, List, [], ◌∷◌, ◌++◌, Option, Some, None, length, filter}
use Rattle.std.specs.List.{AllByRecursion}
use Rattle.nv_base.specs.declared.object.ObjId.{ObjId}
use Rattle.pkt_core.specs.declared.tuple.Tuple.{Tuple}
use Rattle.ct_core.specs.declared.entry.Entry.{Entry}
use Rattle.ct_core.specs.declared.zone.Zone.{Zone}
use Rattle.ct_core.specs.declared.zone.Zone.TheVariants.{Port, Dnat, Snat}
use Rattle.ct_core.specs.Entry.{is_in}

-- how many connections there may be
abbrev pub connection_limit : ℕ
connection_limit = 65536

-- with an entry more, last, unless the list is full
abbrev pub recorded : Entry → List Entry → Option (List Entry)
recorded e conns = if nat_lt (length conns) connection_limit then Some (conns ++ e ∷ []) else None

-- with this mark for the entry at a place; a place beyond the end changes nothing
abbrev pub marked : ℕ → Bool → List Entry → List Entry
marked place blocked [] = []
marked zero blocked (e ∷ conns) = record e { blocked = blocked } ∷ conns
marked (suc place) blocked (e ∷ conns) = e ∷ marked place blocked conns

-- without the entries of a zone
abbrev pub without_zone : Zone → List Entry → List Entry
without_zone zone conns = filter (λ e. not (is_in zone e)) conns

-- numbers that a packet's fields can have
pub record IsTuple (t : Tuple) : Type 0 where
  pub proto : t.proto < 2 ^ 8
  pub src : t.src.0 < 2 ^ 32
  pub sport : t.sport < 2 ^ 16
  pub dst : t.dst.0 < 2 ^ 32
  pub dport : t.dport < 2 ^ 16

-- the object that a zone is of
abbrev pub object_of : Zone → ObjId
object_of (Port n) = n
object_of (Dnat n) = n
object_of (Snat n) = n

pub record IsEntry (e : Entry) : Type 0 where
  pub zone : (object_of e.zone).0 < 2 ^ 32
  pub orig : IsTuple e.orig
  pub reply : IsTuple e.reply

-- a list of connections: no more than there may be, of numbers that fit
pub record AreConnections (conns : List Entry) : Type 0 where
  pub few : length conns ≤ connection_limit
  pub fit : AllByRecursion IsEntry conns
