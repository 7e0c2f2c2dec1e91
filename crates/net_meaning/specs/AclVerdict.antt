-- What ACLs decide on a packet, wherever its connection is (ovn-nb(5), 'ACL TABLE').
use Rattle.std.specs.Prelude.{filter, fold, Option, Some, None, nat_lt, if◌then◌else◌}
use Rattle.nv_base.specs.declared.object.ObjId.{ObjId}
use Rattle.pkt_core.specs.Packet.{Values}
use Rattle.expr_eval.specs.MatchMeaning.{holds}
use Rattle.nb_records.specs.declared.acl.Acl.{Acl}
use Rattle.nb_records.specs.declared.acl.Verdict.{Verdict}
use Rattle.nb_records.specs.declared.acl.Verdict.TheVariants.{Allow, AllowRelated, AllowStateless, Drop, Reject}
use Rattle.nb_records.specs.declared.acl.Way.{Way}
use Rattle.nb_model.specs.Names.{names}
use Rattle.nb_model.specs.Network.{Network}
use Rattle.nb_model.specs.Applies.{acls}

-- of two ACLs the one of the higher priority; of equals the earlier, whose number is lower
abbrev pub higher : Option Acl → Acl → Option Acl
higher None acl = Some acl
higher (Some first) acl = if nat_lt first.priority acl.priority then Some acl else Some first

-- the ACL that decides on a packet: of those of a direction that apply to the switch and hold of it, the highest
abbrev pub deciding : Network → ObjId → Way → Values → Option Acl
deciding net switch way packet = fold higher None (filter (λ acl. holds (names net) packet acl.matching) (acls net switch way))

-- what is done with a packet; at `Full` it is to be kept as a connection, and there is no room for one
pub data Decision : Type 0 where
  Allowed : Decision
  Dropped : Decision
  Rejected : Decision
  Full : Decision

abbrev pub decision_of : Verdict → Decision
decision_of Allow = Allowed
decision_of AllowRelated = Allowed
decision_of AllowStateless = Allowed
decision_of Drop = Dropped
decision_of Reject = Rejected

-- a packet on which no ACL decides is allowed
abbrev pub decided_by : Option Acl → Decision
decided_by None = Allowed
decided_by (Some acl) = decision_of acl.verdict

-- what the ACLs of a direction do with a packet that is not tracked
abbrev pub decision : Network → ObjId → Way → Values → Decision
decision net switch way packet = decided_by (deciding net switch way packet)
