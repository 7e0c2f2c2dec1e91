use Rattle.std.proofs.Common.{◌≡◌, ◌+◌, [], drop}
use Rattle.nb_read.specs.Lists.{addresses}
use Rattle.nb_read.proofs.hosts.addresses.Given as goal

-- the words that are left are read after those before
abbrev pub invariant-loop-word : goal.invariant-loop-word
invariant-loop-word l = record {
  number : l.at ≡ l.number + l.word-index;
  same : addresses l.found l.at (drop l.word-index l.words) ≡ addresses [] l.number l.words;
}
