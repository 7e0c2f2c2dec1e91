use Rattle.ls_ct_laws.proofs.Connections.{keeps_of}
use Rattle.ls_ct_laws.proofs.tracking.packets_are_kept.Goals as goal

pub returns : goal.returns
returns c = keeps_of
