use Rattle.std.proofs.Common.{Some, length, option_map, ap, sym, ◌∙◌}
use Rattle.expr_parse.specs.Token.Token.{Number}
use Rattle.expr_parse.proofs.TokenFronts.{number_token, longest_number}
use Rattle.expr_parse.proofs.constants.constant.Goals as goal

pub returns-in_err-number : goal.returns-in_err-number
returns-in_err-number c = rw c.from_residual.ensures (ap (option_map number_token) c.in_err-number.ensures.found ∙ sym (longest_number c.args.text.now (length c.args.text.now) c.requires.some c.requires.first))

pub returns : goal.returns
returns c = ap (λ n. Some (Number n, c.in_ok-number.len)) c.of.ensures ∙ ap (option_map number_token) c.in_ok-number.ensures.found ∙ sym (longest_number c.args.text.now (length c.args.text.now) c.requires.some c.requires.first)
