use Rattle.std.proofs.Common.{◌≡◌, ◌≤◌, length}
use Rattle.nb_words.specs.inner.Front.{begun, going_on}
use Rattle.nb_words.proofs.word.first_word.Given as goal

-- the word so far goes on with what is left
abbrev pub invariant-loop-first : goal.invariant-loop-first
invariant-loop-first l = record {
  within : length l.left ≤ length l.more;
  same : going_on l.text l.is_bare l.quote l.left ≡ begun l.byte l.more;
}

abbrev pub decreases-loop-first : goal.decreases-loop-first
decreases-loop-first l = length l.left
