use Rattle.std.proofs.Common.{◌≡◌, ◌+◌, [], drop}
use Rattle.nb_read.specs.Lists.{guards}
use Rattle.nb_read.proofs.security.guards.Given as goal

-- the words that are left are read after those before
abbrev pub invariant-loop-word : goal.invariant-loop-word
invariant-loop-word l = record {
  number : l.at ≡ l.number + l.word-index;
  same : guards l.found l.at (drop l.word-index l.words) ≡ guards [] l.number l.words;
}
