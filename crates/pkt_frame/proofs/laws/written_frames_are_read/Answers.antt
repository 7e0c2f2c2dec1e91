use Rattle.pkt_frame.proofs.FrameTrips.{trips}
use Rattle.pkt_frame.proofs.laws.written_frames_are_read.Goals as goal

pub returns : goal.returns
returns c = trips
