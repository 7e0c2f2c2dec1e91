-- A word of a command is short.
use Rattle.std.proofs.Common.{◌≡◌, ◌<◌, ◌^◌, ◌+◌, ◌&&◌, Bool, true, false, ℕ, zero, suc, List, [], ◌∷◌, length, drop, Some, nat_lt, refl}
use Rattle.std.specs.List.{slice_get, list_all}
use borrow.Author.Tests.{ltb-true}
use Rattle.nb_words.specs.declared.word.Word.{Word}
use Rattle.nb_words.specs.declared.command.Command.{Command}
use Rattle.nb_words.specs.Commands.{is_short, is_small}

both : (a b : Bool) → (a && b) ≡ true → (a ≡ true) × (b ≡ true)
both true b e = (refl, e)
both false b e = absurd cc

passes : (words : List Word) (place : ℕ) (word : Word) → slice_get words place ≡ Some word → list_all is_short words ≡ true → is_short word ≡ true
passes [] place word there all = absurd cc
passes (w ∷ words) zero word there all = let same : w ≡ word = cc in cc ((both (is_short w) (list_all is_short words) all).0)
passes (w ∷ words) (suc place) word there all = passes words place word there ((both (is_short w) (list_all is_short words) all).1)

pub is_short_at : (words : List Word) (place : ℕ) (word : Word) → slice_get words place ≡ Some word → list_all is_short words ≡ true → length word.text < 2 ^ 32
is_short_at words place word there all = ltb-true (length word.text) (2 ^ 32) (passes words place word there all)

pub rest_is_short : (word : Word) (words : List Word) → list_all is_short (word ∷ words) ≡ true → list_all is_short words ≡ true
rest_is_short word words all = (both (is_short word) (list_all is_short words) all).1

pub drop_is_short : (n : ℕ) (words : List Word) → list_all is_short words ≡ true → list_all is_short (drop n words) ≡ true
drop_is_short zero words all = all
drop_is_short (suc n) [] all = refl
drop_is_short (suc n) (word ∷ words) all = drop_is_short n words (rest_is_short word words all)

pub is_numbered : (command : Command) → is_small command ≡ true → command.first + length command.words < 2 ^ 32
is_numbered command small = ltb-true (command.first + length command.words) (2 ^ 32) ((both (nat_lt (command.first + length command.words) (2 ^ 32)) (list_all is_short command.words) small).0)

pub all_are_short : (command : Command) → is_small command ≡ true → list_all is_short command.words ≡ true
all_are_short command small = (both (nat_lt (command.first + length command.words) (2 ^ 32)) (list_all is_short command.words) small).1
