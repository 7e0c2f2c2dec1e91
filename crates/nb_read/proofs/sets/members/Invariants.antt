use Rattle.std.proofs.Common.{◌≡◌, ◌+◌, [], drop}
use Rattle.nb_read.specs.Lists.{members}
use Rattle.nb_read.proofs.sets.members.Given as goal

-- the words that are left are read after those before
abbrev pub invariant-loop-word : goal.invariant-loop-word
invariant-loop-word l = record {
  number : l.at ≡ l.number + l.word-index;
  same : members l.found l.at (drop l.word-index l.words) ≡ members [] l.number l.words;
}
