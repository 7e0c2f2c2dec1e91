use Rattle.ct_core.proofs.Learnt.{learnt_again, learnt_mac, learnt_others, learnt_room}
use Rattle.ct_core.proofs.laws.what_is_learnt_is_known.Goals as goal

pub returns : goal.returns
returns c = record { learnt = learnt_room; mac = learnt_mac; again = learnt_again; others = learnt_others }
