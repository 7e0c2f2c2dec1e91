use Rattle.std.proofs.Common.{◌+◌, ap, sym, ◌∙◌}
use Rattle.std.proofs.lemmas.List.{take_rest}
use Rattle.nb_model.specs.Belongs.{is_among}
use Rattle.nb_store.proofs.OneNumber.{only_there}
use Rattle.nb_store.proofs.numbers.only_place.Goals as goal

pub returns-clause-only : goal.returns-clause-only
returns-clause-only c =
    only_there c.args.number c.args.numbers.now c.in_ok-at.at c.in_ok-at.ensures.place
    (ap (is_among c.args.number) (sym (take_rest c.args.numbers.now (c.in_ok-at.at + 1))) ∙ sym c.is_among.ensures ∙ c.if-is_among.false)
