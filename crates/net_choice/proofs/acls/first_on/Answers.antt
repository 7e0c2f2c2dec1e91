use Rattle.std.proofs.Common.{sym}
use Rattle.std.specs.Option.{option_copied}
use Rattle.net_choice.proofs.NoGroups.{without_groups}
use Rattle.net_choice.proofs.acls.first_on.Goals as goal

pub returns-in-None : goal.returns-in-None
returns-in-None c = without_groups c.args.records.now c.args.way c.args.packet.now (option_copied c.args.best) c.args.switch (sym (rw c.groups.ensures at c.in-None.ensures.record))
