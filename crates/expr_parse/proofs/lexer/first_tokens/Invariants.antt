use Rattle.std.proofs.Common.{◌≡◌, ℕ, ◌≤◌, ◌-◌, length, drop}
use Rattle.expr_parse.specs.Tokens.{tokens_of}
use Rattle.expr_parse.proofs.Lexing.{after, standing}
use Rattle.expr_parse.proofs.lexer.first_tokens.Given as goal

abbrev pub invariant-loop-found : goal.invariant-loop-found
invariant-loop-found l = record {
  within : l.at ≤ length l.text;
  few : length l.tokens.items ≤ l.at;
  same : (n : ℕ) × (length l.text - l.at ≤ n) × (after l.tokens.items (standing n l.at (drop l.at l.text)) ≡ tokens_of l.text);
}

abbrev pub decreases-loop-found : goal.decreases-loop-found
decreases-loop-found l = length l.text - l.at
