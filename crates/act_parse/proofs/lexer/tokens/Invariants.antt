use Rattle.std.proofs.Common.{◌≡◌, ◌≤◌, length, map, drop}
use Rattle.act_parse.specs.inner.Reading.{tokens}
use Rattle.act_parse.specs.inner.Gives.{shown}
use Rattle.act_parse.proofs.lexer.tokens.Given as goal

-- the tokens that are left come to the same in the text that is left
abbrev pub invariant-loop-next : goal.invariant-loop-next
invariant-loop-next l = record {
  left : length l.left ≤ length l.text;
  same : tokens (map shown (drop l.next-index l.tokens)) l.left ≡ tokens (map shown l.tokens) l.text;
}
