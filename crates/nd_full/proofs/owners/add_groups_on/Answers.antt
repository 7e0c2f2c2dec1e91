use Rattle.std.proofs.Common.{sym}
use Rattle.nd_full.proofs.Applied.{without_groups}
use Rattle.nd_full.proofs.owners.add_groups_on.Goals as goal

pub returns-in-None : goal.returns-in-None
returns-in-None c = without_groups c.args.records.now c.args.switch c.args.owners.now.items (sym (rw c.groups.ensures at c.in-None.ensures.record))
