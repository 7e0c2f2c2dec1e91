use Rattle.std.proofs.Common.{sym, ◌∙◌}
use Rattle.nb_store.proofs.Reached.{lists_reached}
use Rattle.nb_store.proofs.records.Records.group_has_address.Goals as goal

pub returns-in-Some : goal.returns-in-Some
returns-in-Some c =
    c.lists_address.ensures.listed
    ∙ lists_reached c.args.self.now c.args.name.now c.args.value c.in-Some.group.now c.in-Some.ensures.rise c.lists_address.ensures.rise (sym c.in-Some.ensures.group)
