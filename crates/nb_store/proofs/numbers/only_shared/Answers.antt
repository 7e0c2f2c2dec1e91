use Rattle.std.proofs.Common.{sym, ◌∙◌}
use Rattle.nb_store.proofs.OneNumber.{only_there}
use Rattle.nb_store.proofs.numbers.only_shared.Goals as goal

pub returns-clause-only : goal.returns-clause-only
returns-clause-only c = only_there c.args.number c.args.numbers.now c.in_ok-at.at c.in_ok-at.ensures.place (sym c.is_later.ensures ∙ c.if-is_later.false)
