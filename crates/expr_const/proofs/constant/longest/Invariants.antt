use Rattle.std.proofs.Common.{◌≡◌, ◌≤◌, length}
use Rattle.expr_const.specs.Constant.{longest}
use Rattle.expr_const.proofs.constant.longest.Given as goal

abbrev pub invariant-loop-len : goal.invariant-loop-len
invariant-loop-len l = record {
  within : l.len ≤ length l.text;
  same : longest l.len l.text ≡ longest (length l.text) l.text;
}

abbrev pub decreases-loop-len : goal.decreases-loop-len
decreases-loop-len l = l.len
