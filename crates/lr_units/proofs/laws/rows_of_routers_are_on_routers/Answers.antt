use Rattle.lr_units.proofs.Datapaths.{row_has_stage, row_on_no_switch, row_on_router}
use Rattle.lr_units.proofs.laws.rows_of_routers_are_on_routers.Goals as goal

pub returns-clause-router : goal.returns-clause-router
returns-clause-router c = row_on_router

pub returns-clause-no_switch : goal.returns-clause-no_switch
returns-clause-no_switch c = row_on_no_switch

pub returns-clause-stage : goal.returns-clause-stage
returns-clause-stage c = row_has_stage
