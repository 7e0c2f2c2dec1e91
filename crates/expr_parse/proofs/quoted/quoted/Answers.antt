use Rattle.std.proofs.Common.{◌-◌, length, take, drop, arith}
use Rattle.std.proofs.lemmas.List.{take_rest}
use Rattle.expr_parse.proofs.TokenFronts.{rest_found, rest_missing}
use Rattle.expr_parse.proofs.quoted.quoted.Goals as goal
use Rattle.expr_parse.proofs.quoted.quoted.Goals.{else-end-rest-via-then-end-rest+else-is_quotable, else-end-rest-via-else-end-rest}

pub returns-then-is_quotable : goal.returns-then-is_quotable
returns-then-is_quotable c =
    let text = c.args.text.now in
    rest_found text (take (length text - 1) (drop 1 text)) c.before_quote-end.result c.requires.some c.requires.first (take_rest text 1) c.before_quote-end.ensures c.if-end-rest.true c.if-is_quotable.ensures

pub returns-else-end-rest : goal.returns-else-end-rest
returns-else-end-rest c =
    let text = c.args.text.now in
    rest_missing text (take (length text - 1) (drop 1 text)) c.before_quote-end.result c.requires.some c.requires.first (take_rest text 1) c.before_quote-end.ensures
    (λ within. elim c.else-end-rest.branch [
      | else-end-rest-via-then-end-rest+else-is_quotable w ↦ w.if-is_quotable.ensures
      | else-end-rest-via-else-end-rest w ↦ absurd (omega (arith, w.if-end-rest.false, within))
    ])
