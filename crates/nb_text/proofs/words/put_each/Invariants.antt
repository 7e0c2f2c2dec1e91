use Rattle.std.proofs.Common.{◌≡◌, ◌++◌, take}
use Rattle.nb_text.specs.Words.{each_spaced}
use Rattle.nb_text.proofs.words.put_each.Given as goal

-- the words so far come after what was there
abbrev pub invariant-loop-word : goal.invariant-loop-word
invariant-loop-word g l = l.out.items ≡ l.fn.out.items ++ each_spaced g.W.Word.text (take l.word-index l.words)
