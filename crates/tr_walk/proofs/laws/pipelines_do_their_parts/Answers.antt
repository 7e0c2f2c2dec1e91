use Rattle.tr_walk.proofs.Parts.{of_ingress, of_egress, of_late}
use Rattle.tr_walk.proofs.laws.pipelines_do_their_parts.Goals as goal

pub returns-clause-ingress : goal.returns-clause-ingress
returns-clause-ingress c = of_ingress

pub returns-clause-egress : goal.returns-clause-egress
returns-clause-egress c = of_egress

pub returns-clause-late : goal.returns-clause-late
returns-clause-late c = of_late
