use Rattle.nb_model.proofs.Whole.{edit_sound}
use Rattle.nb_model.proofs.laws.edits_leave_sound_networks.Goals as goal

pub returns : goal.returns
returns c = edit_sound
