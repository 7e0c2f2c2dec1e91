use Rattle.std.proofs.Common.{◌≡◌, ◌&&◌, length}
use Rattle.std.specs.Prelude.{find, filter}
use Rattle.nb_model.specs.Belongs.{same_way}
use Rattle.nb_model.specs.Effect.{acl_like, is_rule}
use Rattle.nb_model.specs.Network.{same}
use Rattle.nv_table.specs.Table.{is_after}
use Rattle.nb_store.proofs.records.Records.acl_like.Given as goal

-- the one that is asked for is among those that are left
abbrev pub invariant-loop-acl : goal.invariant-loop-acl
invariant-loop-acl l =
    find (λ acl. is_after l.after acl.id && (same l.owner acl.owner && (same_way l.way acl.way && is_rule (l.priority, l.matching) acl))) l.self.acls ≡ acl_like l.self l.owner l.way (l.priority, l.matching)

-- those that are left
abbrev pub decreases-loop-acl : goal.decreases-loop-acl
decreases-loop-acl l = length (filter (λ acl. is_after l.after acl.id) l.self.acls)
