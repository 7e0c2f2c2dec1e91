-- Each arm appends the text of its step.
use Rattle.act_core.proofs.text.step.put_step.Goals as goal

pub returns-in-Next-clause-ok : goal.returns-in-Next-clause-ok
returns-in-Next-clause-ok c = rw (c.in-Next.is) c.put_text.ensures.ok

pub returns-in-Jump-clause-ok : goal.returns-in-Jump-clause-ok
returns-in-Jump-clause-ok c = rw (c.in-Jump.is) c.put_jump.ensures.ok

pub returns-in-Output-clause-ok : goal.returns-in-Output-clause-ok
returns-in-Output-clause-ok c = rw (c.in-Output.is) c.put_text-in-Output.ensures.ok

pub returns-in-Drop-clause-ok : goal.returns-in-Drop-clause-ok
returns-in-Drop-clause-ok c = rw (c.in-Drop.is) c.put_text-in-Drop.ensures.ok

pub returns-in-Set-clause-ok : goal.returns-in-Set-clause-ok
returns-in-Set-clause-ok c = rw (c.in-Set.is) c.put_set.ensures.ok

pub returns-in-Copy-clause-ok : goal.returns-in-Copy-clause-ok
returns-in-Copy-clause-ok c = rw (c.in-Copy.is) c.put_copy.ensures.ok

pub returns-in-SetOutport-clause-ok : goal.returns-in-SetOutport-clause-ok
returns-in-SetOutport-clause-ok c = rw (c.in-SetOutport.is) (rw c.as_slice.ensures at c.put_outport.ensures.ok)

pub returns-in-Exchange-clause-ok : goal.returns-in-Exchange-clause-ok
returns-in-Exchange-clause-ok c = rw (c.in-Exchange.is) c.put_exchange.ensures.ok

pub returns-in-DecTtl-clause-ok : goal.returns-in-DecTtl-clause-ok
returns-in-DecTtl-clause-ok c = rw (c.in-DecTtl.is) c.put_text-in-DecTtl.ensures.ok

pub returns-in-CtNext-clause-ok : goal.returns-in-CtNext-clause-ok
returns-in-CtNext-clause-ok c = rw (c.in-CtNext.is) c.put_text-in-CtNext.ensures.ok

pub returns-in-CtLb-clause-ok : goal.returns-in-CtLb-clause-ok
returns-in-CtLb-clause-ok c = rw (c.in-CtLb.is) c.put_text-in-CtLb.ensures.ok

pub returns-in-CtLbTo-clause-ok : goal.returns-in-CtLbTo-clause-ok
returns-in-CtLbTo-clause-ok c = rw (c.in-CtLbTo.is) (rw c.as_slice-in-CtLbTo.ensures at c.put_balanced.ensures.ok)

pub returns-in-CtCommit-clause-ok : goal.returns-in-CtCommit-clause-ok
returns-in-CtCommit-clause-ok c = rw (c.in-CtCommit.is) c.put_commit.ensures.ok

pub returns-in-CtSnat-clause-ok : goal.returns-in-CtSnat-clause-ok
returns-in-CtSnat-clause-ok c = rw (c.in-CtSnat.is) c.put_text-in-CtSnat.ensures.ok

pub returns-in-CtSnatTo-clause-ok : goal.returns-in-CtSnatTo-clause-ok
returns-in-CtSnatTo-clause-ok c = rw (c.in-CtSnatTo.is) c.put_snat.ensures.ok

pub returns-in-CtDnat-clause-ok : goal.returns-in-CtDnat-clause-ok
returns-in-CtDnat-clause-ok c = rw (c.in-CtDnat.is) c.put_text-in-CtDnat.ensures.ok

pub returns-in-CtDnatTo-clause-ok : goal.returns-in-CtDnatTo-clause-ok
returns-in-CtDnatTo-clause-ok c = rw (c.in-CtDnatTo.is) c.put_dnat.ensures.ok

pub returns-in-PutArp-clause-ok : goal.returns-in-PutArp-clause-ok
returns-in-PutArp-clause-ok c = rw (c.in-PutArp.is) c.put_text-in-PutArp.ensures.ok

pub returns-in-GetArp-clause-ok : goal.returns-in-GetArp-clause-ok
returns-in-GetArp-clause-ok c = rw (c.in-GetArp.is) c.put_text-in-GetArp.ensures.ok
