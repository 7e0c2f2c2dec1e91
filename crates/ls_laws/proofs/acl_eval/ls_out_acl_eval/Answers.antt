use Rattle.ls_laws.proofs.AclEval.{decides_out}
use Rattle.ls_laws.proofs.acl_eval.ls_out_acl_eval.Goals as goal

pub returns : goal.returns
returns c = decides_out
