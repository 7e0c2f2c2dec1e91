use Rattle.lr_laws.proofs.Admission.{admits}
use Rattle.lr_laws.proofs.at_ports.lr_in_admission.Goals as goal

pub returns : goal.returns
returns c = admits
