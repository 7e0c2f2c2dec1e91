use Rattle.std.proofs.Common.{sym, ◌∙◌}
use Rattle.nb_store.proofs.Listed.{listed}
use Rattle.nb_store.proofs.records.Records.group_has.Goals as goal

pub returns-in-Some : goal.returns-in-Some
returns-in-Some c = c.lists.ensures ∙ listed c.args.self.now c.args.name.now c.args.port c.in-Some.group.now c.in-Some.ensures.rise (sym c.in-Some.ensures.group)
