use Rattle.nv_reply.proofs.StatesLeft.{states_after}
use Rattle.nv_reply.proofs.laws.lines_leave_states_that_fit.Goals as goal

pub returns : goal.returns
returns c = states_after
