use Rattle.std.proofs.Common.{◌≡◌, ◌++◌, length, option_map}
use Rattle.nb_words.specs.Words.{words_of}
use Rattle.nb_words.proofs.word.words_of.Given as goal

-- the words so far, and those of what is left
abbrev pub invariant-loop-first : goal.invariant-loop-first
invariant-loop-first l = option_map (λ more. l.words ++ more) (words_of l.left) ≡ words_of l.line

abbrev pub decreases-loop-first : goal.decreases-loop-first
decreases-loop-first l = length l.left
