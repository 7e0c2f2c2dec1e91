use Rattle.nv_reply.proofs.Reached.{sound_after}
use Rattle.nv_reply.proofs.laws.lines_leave_sound_networks.Goals as goal

pub returns : goal.returns
returns c = sound_after
