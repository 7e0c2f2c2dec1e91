use Rattle.std.proofs.Common.{not, ◌||◌, length, sym, ap, ◌∙◌}
use Rattle.std.specs.Prelude.{◌==◌}
use Rattle.nb_model.specs.Applies.{is_empty}
use Rattle.nd_inputs.proofs.Any.{none_long}
use Rattle.nd_inputs.proofs.Attached.{dnats_is}
use Rattle.nd_inputs.proofs.nats.changes_destinations.Goals as goal

pub returns-else-has_dnat : goal.returns-else-has_dnat
returns-else-has_dnat c =
    ap not (c.is_empty.ensures ∙ ap (λ lbs. length lbs == 0) c.as_slice.ensures ∙ none_long c.args.router.now.lbs)
    ∙ ap (λ b. b || not (is_empty c.args.router.now.lbs)) (sym c.if-has_dnat.false ∙ c.has_dnat.ensures)
    ∙ dnats_is c.args.records.now c.requires.sound c.args.router.now c.requires.there
