use Rattle.net_rows.proofs.Typed.{all_rows_typed}
use Rattle.net_rows.proofs.laws.rows_of_sound_networks_are_typed.Goals as goal

pub returns : goal.returns
returns c = all_rows_typed
