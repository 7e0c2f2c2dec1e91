use Rattle.std.proofs.Common.{◌≡◌, ◌+◌, None, drop}
use Rattle.nb_read.specs.Lists.{port_options}
use Rattle.nb_read.proofs.options.port_options.Given as goal

-- the words that are left are read after those before
abbrev pub invariant-loop-word : goal.invariant-loop-word
invariant-loop-word l = record {
  number : l.at ≡ l.number + l.word-index;
  same : port_options l.found l.at (drop l.word-index l.words) ≡ port_options None l.number l.words;
}
