use Rattle.nb_model.proofs.Drawn.{edit_draws}
use Rattle.nb_model.proofs.numbers.edits_draw_one_number.Goals as goal

pub returns : goal.returns
returns c = edit_draws
