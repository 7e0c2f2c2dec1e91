use Rattle.tr_router.proofs.TimeLeft.{has_time_left}
use Rattle.tr_router.proofs.laws.time_to_live_is_left.Goals as goal

pub returns : goal.returns
returns c = has_time_left
