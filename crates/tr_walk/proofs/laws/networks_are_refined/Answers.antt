use Rattle.tr_walk.proofs.Refinement.{is_refined, keeps_states}
use Rattle.tr_walk.proofs.laws.networks_are_refined.Goals as goal

pub returns-clause-refined : goal.returns-clause-refined
returns-clause-refined c = is_refined

pub returns-clause-states : goal.returns-clause-states
returns-clause-states c = keeps_states
