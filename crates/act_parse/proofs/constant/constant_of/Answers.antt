use Rattle.std.proofs.Common.{refl, ◌∙◌}
use Rattle.act_parse.proofs.Whole.{whole_found, part_found, nothing_found}
use Rattle.act_parse.proofs.constant.constant_of.Goals as goal

pub returns-in_err-constant : goal.returns-in_err-constant
returns-in_err-constant c = c.from_residual.ensures ∙ nothing_found c.args.text.now _ c.in_err-constant.ensures.found refl

pub returns-then-len-text : goal.returns-then-len-text
returns-then-len-text c = whole_found c.args.text.now c.in_ok-constant.constant c.in_ok-constant.len c.in_ok-constant.ensures.found c.if-len-text.true

pub returns-else-len-text : goal.returns-else-len-text
returns-else-len-text c = part_found c.args.text.now c.in_ok-constant.constant c.in_ok-constant.len c.in_ok-constant.ensures.found c.if-len-text.false
