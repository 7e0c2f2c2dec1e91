use Rattle.ls_ct_laws.proofs.Connections.{looks_up_of}
use Rattle.ls_ct_laws.proofs.tracking.packets_are_looked_up.Goals as goal

pub returns : goal.returns
returns c = looks_up_of
