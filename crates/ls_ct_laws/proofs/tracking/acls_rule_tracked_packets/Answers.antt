use Rattle.ls_ct_laws.proofs.TrackedAcls.{rules_of}
use Rattle.ls_ct_laws.proofs.tracking.acls_rule_tracked_packets.Goals as goal

pub returns : goal.returns
returns c = rules_of
