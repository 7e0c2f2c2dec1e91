use Rattle.std.proofs.Common.{◌++◌, ap, ◌∙◌}
use Rattle.expr_parse.specs.inner.Gives.{seen}
use Rattle.expr_parse.proofs.Faults.{certain}
use Rattle.expr_parse.proofs.reader.early_fault.Goals as goal

pub returns-then-is_before : goal.returns-then-is_before
returns-then-is_before c = λ other.
    let first = c.in-Ok.ensures.first in
    let tokens = ap (λ ts. (seen ts ++ first.0.0, first.0.1)) c.deref.ensures.value ∙ first.1 in
    certain c.args.text.now (seen c.deref.result.now) first.0 c.in-Ok.end c.in-Err.fault tokens (c.is_before.ensures c.if-is_before.true)
    (c.in-Err.ensures.fault other)
