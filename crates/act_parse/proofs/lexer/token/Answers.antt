use Rattle.std.proofs.Common.{◌<◌, ℕ, List, length, subst}
use Rattle.act_parse.proofs.Loops.{token_ends}
use Rattle.act_parse.proofs.lexer.token.Goals as goal

pub returns-in-None-clause-reads : goal.returns-in-None-clause-reads
returns-in-None-clause-reads c =
    let more : c.loop-byte.byte-index < length c.args.token.now = subst (λ (xs : List ℕ). c.loop-byte.byte-index < length xs) c.as_bytes-byte-items.ensures.value c.loop-byte-test.true in
    token_ends c.args.token.now c.loop-byte.byte-index c.loop-byte.left.now c.args.text.now c.stuck-in-None.result more c.in-None.ensures.cases c.loop-byte.invariant.same c.stuck-in-None.ensures
