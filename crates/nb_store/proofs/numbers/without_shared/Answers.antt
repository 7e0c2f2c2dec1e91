use Rattle.std.proofs.Common.{◌∙◌}
use Rattle.nb_store.proofs.OneNumber.{left_out}
use Rattle.nb_store.proofs.numbers.without_shared.Goals as goal

pub returns-in_ok-without_place-in-Some-clause-left : goal.returns-in_ok-without_place-in-Some-clause-left
returns-in_ok-without_place-in-Some-clause-left c = c.in_ok-without_place-in-Some.ensures ∙ left_out c.args.number c.args.numbers.now c.in-Some.at c.in-Some.ensures.only
