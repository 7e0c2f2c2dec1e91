use Rattle.ls_ct_laws.proofs.Connections.{asks_of}
use Rattle.ls_ct_laws.proofs.tracking.packets_are_asked_for.Goals as goal

pub returns : goal.returns
returns c = asks_of
