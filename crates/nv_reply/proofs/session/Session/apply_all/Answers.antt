use Rattle.std.proofs.Common.{sym, subst}
use Rattle.nv_reply.specs.inner.KeptRows.{AreKept}
use Rattle.nv_reply.proofs.session.Session.apply_all.Goals as goal
use Rattle.nv_reply.proofs.session.Session.apply_all.Goals.{then-changes+in-Some-1, then-changes+in-None-1, else-changes}

-- the rows that are kept are those of the network
pub invariant_of-self-2 : goal.invariant_of-self-2
invariant_of-self-2 c = elim c.if-changes.branch [
  | then-changes+in-Some-1 w ↦ rw w.self-inside-is tt
  | then-changes+in-None-1 w ↦ rw w.self-inside-is tt
  | else-changes w ↦ rw w.self-inside-is (subst (AreKept c.self.inside.rows) (sym (c.in_ok-changes.ensures.unchanged w.if-changes.false)) c.self.invariant)
]
