use Rattle.std.proofs.Common.{arith}
use Rattle.expr_parse.specs.inner.Borrowed.{token_of}
use Rattle.expr_parse.proofs.TokenFronts.{pair_found, single_found, none_found}
use Rattle.expr_parse.proofs.signs.sign.Goals as goal
use Rattle.expr_parse.proofs.signs.sign.Goals.{then-text-gt1+in_default, else-text-gt1}

pub returns-in-Some : goal.returns-in-Some
returns-in-Some c = pair_found c.args.text.now (token_of c.in-Some.token) c.if-text-gt1.true c.requires.first c.in-Some.ensures

pub returns-in_err-token : goal.returns-in_err-token
returns-in_err-token c =
    rw c.from_residual.ensures (none_found c.args.text.now c.requires.some c.requires.first (λ more. elim c.if-text-gt1.branch [
      | then-text-gt1+in_default w ↦ w.in_default.ensures
      | else-text-gt1 w ↦ absurd (omega (arith, w.if-text-gt1.false, more))
    ]) c.in_err-token.ensures)

pub returns : goal.returns
returns c =
    single_found c.args.text.now (token_of c.in_ok-token.token) c.requires.some c.requires.first (λ more. elim c.if-text-gt1.branch [
      | then-text-gt1+in_default w ↦ w.in_default.ensures
      | else-text-gt1 w ↦ absurd (omega (arith, w.if-text-gt1.false, more))
    ]) c.in_ok-token.ensures
