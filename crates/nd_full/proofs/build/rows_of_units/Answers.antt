use Rattle.nd_full.proofs.All.{made_network}
use Rattle.nd_full.proofs.build.rows_of_units.Goals as goal

pub returns : goal.returns
returns c = made_network c.args.records.now c.requires c.new-made.result _ c.new-made.ensures c.in_ok-add_rows_of_datapaths.ensures
