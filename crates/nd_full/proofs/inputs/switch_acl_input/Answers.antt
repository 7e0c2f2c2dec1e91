use Rattle.std.proofs.Common.{◌||◌, ap, sym, ◌∙◌}
use Rattle.nd_full.proofs.Applied.{acl_input_is}
use Rattle.nd_full.proofs.Sound.{switches_rise}
use Rattle.nd_full.proofs.inputs.switch_acl_input.Goals as goal

pub returns-then-has_related : goal.returns-then-has_related
returns-then-has_related c =
    acl_input_is c.args.records.now c.args.switch.now c.args.owners.now (switches_rise c.args.records.now c.requires.sound) c.requires.there c.requires.owners c.balances-balances.result c.has_related.result c.balances-balances.ensures
    (c.if-has_related.true ∙ ap (λ b. b || c.balances-balances.result) (sym c.if-has_related.true ∙ c.has_related.ensures))

pub returns-else-has_related : goal.returns-else-has_related
returns-else-has_related c =
    acl_input_is c.args.records.now c.args.switch.now c.args.owners.now (switches_rise c.args.records.now c.requires.sound) c.requires.there c.requires.owners c.balances-balances.result c.balances-balances.result c.balances-balances.ensures
    (ap (λ b. b || c.balances-balances.result) (sym c.if-has_related.false ∙ c.has_related.ensures))
