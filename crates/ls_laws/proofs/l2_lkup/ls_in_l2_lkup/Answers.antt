use Rattle.ls_laws.proofs.LookUp.{looks_up}
use Rattle.ls_laws.proofs.l2_lkup.ls_in_l2_lkup.Goals as goal

pub returns : goal.returns
returns c = looks_up
