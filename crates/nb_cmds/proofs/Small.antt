-- Small commands.
use Rattle.std.proofs.Common.{◌≡◌, ◌<◌, ◌^◌, ◌+◌, ◌&&◌, Bool, true, false, ℕ, zero, suc, List, [], ◌∷◌, length, take, drop, nat_lt, refl}
use Rattle.std.specs.List.{list_all}
use Rattle.std.proofs.lemmas.Bool.{ltb-true}
use Rattle.nb_words.specs.declared.word.Word.{Word}
use Rattle.nb_words.specs.declared.command.Command.{Command}
use Rattle.nb_words.specs.Commands.{is_short, is_small}

both : (a b : Bool) → (a && b) ≡ true → (a ≡ true) × (b ≡ true)
both true b e = (refl, e)
both false b e = absurd cc

all : (a b : Bool) → a ≡ true → b ≡ true → (a && b) ≡ true
all true b e f = f
all false b e f = absurd cc

pub only_passes : {X : Type 0} (p : X → Bool) (x : X) → list_all p (x ∷ []) ≡ true → p x ≡ true
only_passes p x passes = (both (p x) true passes).0

pub has_small_numbers : (c : Command) → is_small c ≡ true → c.first + length c.words < 2 ^ 32
has_small_numbers c small = ltb-true (c.first + length c.words) (2 ^ 32) ((both (nat_lt (c.first + length c.words) (2 ^ 32)) (list_all is_short c.words) small).0)

pub front_short : (n : ℕ) (words : List Word) → list_all is_short words ≡ true → list_all is_short (take n words) ≡ true
front_short zero words short = refl
front_short (suc n) [] short = refl
front_short (suc n) (word ∷ words) short =
    let parts = both (is_short word) (list_all is_short words) short in
    all (is_short word) (list_all is_short (take n words)) parts.0 (front_short n words parts.1)

pub all_are_short : (c : Command) → is_small c ≡ true → list_all is_short c.words ≡ true
all_are_short c small = (both (nat_lt (c.first + length c.words) (2 ^ 32)) (list_all is_short c.words) small).1

pub others_are_short : (word : Word) (words : List Word) → list_all is_short (word ∷ words) ≡ true → list_all is_short words ≡ true
others_are_short word words short = (both (is_short word) (list_all is_short words) short).1

pub rest_is_short : (n : ℕ) (words : List Word) → list_all is_short words ≡ true → list_all is_short (drop n words) ≡ true
rest_is_short zero words short = short
rest_is_short (suc n) [] short = refl
rest_is_short (suc n) (word ∷ words) short = rest_is_short n words (others_are_short word words short)

pub second_is_short : (first second : Word) → list_all is_short (first ∷ second ∷ []) ≡ true → length second.text < 2 ^ 32
second_is_short first second short = ltb-true (length second.text) (2 ^ 32) ((both (is_short second) true (others_are_short first (second ∷ []) short)).0)
