use Rattle.ls_laws.proofs.LookUp.{finds_none}
use Rattle.ls_laws.proofs.l2_lkup.ls_in_l2_unknown.Goals as goal

pub returns : goal.returns
returns c = finds_none
