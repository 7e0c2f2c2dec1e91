use Rattle.lr_units.proofs.Typed.{router_rows_typed}
use Rattle.lr_units.proofs.laws.rows_of_routers_are_typed.Goals as goal

pub returns : goal.returns
returns c = router_rows_typed
