use Rattle.std.proofs.Common.{◌+◌, arith, ap}
use Rattle.expr_parse.proofs.Lexing.{blanks_within}
use Rattle.expr_parse.proofs.lexer.after_blanks.Goals as goal

pub overflow_add-result : goal.overflow_add-result
overflow_add-result c = omega (arith, (blanks_within c.args.text.now c.args.offset c.blanks.result c.requires.within c.blanks.ensures).1)

pub returns-clause-value : goal.returns-clause-value
returns-clause-value c = ap (λ n. c.args.offset + n) (blanks_within c.args.text.now c.args.offset c.blanks.result c.requires.within c.blanks.ensures).0

pub returns-clause-within : goal.returns-clause-within
returns-clause-within c = (blanks_within c.args.text.now c.args.offset c.blanks.result c.requires.within c.blanks.ensures).1
