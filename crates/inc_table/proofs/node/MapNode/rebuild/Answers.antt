use Rattle.std.proofs.Common.{◌∙◌, length, ap}
use Rattle.inc_table.proofs.node.MapNode.rebuild.Goals as goal

pub returns-clause-made : goal.returns-clause-made
returns-clause-made g c = c.in_ok-report.ensures.made ∙ ap length c.in_ok-self-inside.ensures
