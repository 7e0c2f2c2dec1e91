use Rattle.ls_laws.proofs.AclEval.{decides_in}
use Rattle.ls_laws.proofs.acl_eval.ls_in_acl_eval.Goals as goal

pub returns : goal.returns
returns c = decides_in
