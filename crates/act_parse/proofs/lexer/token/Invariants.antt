use Rattle.std.proofs.Common.{◌≡◌, ◌+◌, length, drop}
use Rattle.act_parse.specs.inner.Reading.{token}
use Rattle.act_parse.proofs.lexer.token.Given as goal

-- the bytes that are left come to the same in the text that is left
abbrev pub invariant-loop-byte : goal.invariant-loop-byte
invariant-loop-byte l = record {
  left : length l.left + l.byte-index ≡ length l.text;
  same : token (drop l.byte-index l.token) l.left ≡ token l.token l.text;
}
