use Rattle.net_rows.proofs.ApartUnits.{all_rows_apart}
use Rattle.net_rows.proofs.laws.rows_of_sound_networks_are_apart.Goals as goal

pub returns : goal.returns
returns c = all_rows_apart
