use Rattle.lr_units.proofs.Apart.{router_rows_apart}
use Rattle.lr_units.proofs.laws.rows_of_routers_are_apart.Goals as goal

pub returns : goal.returns
returns c = router_rows_apart
