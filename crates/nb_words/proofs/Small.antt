-- The words of a line that is not too long are short, and have small numbers.
use Rattle.std.proofs.Common.{◌≡◌, ◌≤◌, ◌<◌, ◌+◌, ◌^◌, ◌&&◌, ◌++◌, Bool, true, false, ℕ, List, [], ◌∷◌, length, suc, Option, Some, None, option_map, arith, if◌then◌else◌, ◌==◌, nat_lt, refl, length-append}
use Rattle.std.specs.List.{list_all, slice_split, onto_first}
use Rattle.std.proofs.lemmas.Bool.{lt-ltb}
use Rattle.nb_words.specs.declared.word.Word.{Word}
use Rattle.nb_words.specs.Commands.{command, is_between, is_short, is_small, numbered}
use Rattle.nb_words.specs.Words.{is_separator, is_quote, no_word, with_byte, words_of, within, quoted}
use Rattle.nb_words.proofs.Counts.{no_more_words}

all : (a b : Bool) → a ≡ true → b ≡ true → (a && b) ≡ true
all true b e f = f
all false b e f = absurd cc

both : (a b : Bool) → (a && b) ≡ true → (a ≡ true) × (b ≡ true)
both true b e = (refl, e)
both false b e = absurd cc

-- the words are short
abbrev pub Short : Option (List Word) → Type 0
Short None = Unit {0}
Short (Some words) = list_all is_short words ≡ true

one_more : (word : Word) (words : Option (List Word)) → length word.text < 2 ^ 32 → Short words → Short (option_map (λ ws. word ∷ ws) words)
one_more word None small short = tt
one_more word (Some words) small short = all (is_short word) (list_all is_short words) (lt-ltb (length word.text) (2 ^ 32) small) short

either : (b : Bool) (one other : Option (List Word)) → Short one → Short other → Short (if b then one else other)
either true one other first second = first
either false one other first second = second

-- a byte more of the word is one less of what is left
moved : (word : Word) (byte : ℕ) (line : List ℕ) (limit : ℕ) → length word.text + suc (length line) < limit → length (with_byte word byte).text + length line < limit
moved word byte line limit small = let e : length (word.text ++ byte ∷ []) ≡ length word.text + 1 = length-append word.text (byte ∷ []) in omega (arith, e)

less : (n m limit : ℕ) → n + suc m < limit → n + m < limit
less n m limit small = omega arith

fewer : (m limit : ℕ) → suc m < limit → m < limit
fewer m limit small = omega arith

from_none : (m limit : ℕ) → m < limit → 0 + m < limit
from_none m limit small = omega arith

front : (n m limit : ℕ) → n + m < limit → n < limit
front n m limit small = omega arith

back : (n m limit : ℕ) → n + suc m < limit → m < limit
back n m limit small = omega arith

pub record Sizes (line : List ℕ) : Type 0 where
  pub outside : length line < 2 ^ 32 → Short (words_of line)
  pub inside : (word : Word) → length word.text + length line < 2 ^ 32 → Short (within word line)
  pub in_quotes : (quote : ℕ) (word : Word) → length word.text + length line < 2 ^ 32 → Short (quoted quote word line)

short_words : (line : List ℕ) → Sizes line
short_words [] = record {
  outside = λ small. refl;
  inside = λ word small. all (is_short word) true (lt-ltb (length word.text) (2 ^ 32) (front (length word.text) 0 (2 ^ 32) small)) refl;
  in_quotes = λ quote word small. tt;
}
short_words (byte ∷ line) =
    let rest = short_words line in
    record {
      outside = λ small. either (is_separator byte) _ _ (rest.outside (fewer (length line) (2 ^ 32) small))
          (either (is_quote byte) _ _ (rest.in_quotes byte (record no_word { is_bare = false }) (from_none (length line) (2 ^ 32) (fewer (length line) (2 ^ 32) small)))
          (rest.inside (with_byte no_word byte) (moved no_word byte line (2 ^ 32) (from_none (suc (length line)) (2 ^ 32) small))));
      inside = λ word small. either (is_separator byte) _ _ (one_more word _ (front (length word.text) (suc (length line)) (2 ^ 32) small) (rest.outside (back (length word.text) (length line) (2 ^ 32) small)))
          (either (is_quote byte) _ _ (rest.in_quotes byte (record word { is_bare = false }) (less (length word.text) (length line) (2 ^ 32) small)) (rest.inside (with_byte word byte) (moved word byte line (2 ^ 32) small)));
      in_quotes = λ quote word small. either (byte == quote) _ _ (rest.inside word (less (length word.text) (length line) (2 ^ 32) small)) (rest.in_quotes quote (with_byte word byte) (moved word byte line (2 ^ 32) small));
    }

-- the words of these commands, and the separators between them, are at most so many
abbrev pub total : List (List Word) → ℕ
total [] = 0
total (words ∷ parts) = length words + 1 + total parts

-- the words of all these commands are short
abbrev pub all_short : List (List Word) → Bool
all_short parts = list_all (λ words. list_all is_short words) parts

totals : (words : List Word) → total (slice_split is_between words) ≤ length words + 1
totals [] = omega arith
totals (word ∷ words) = split (is_between word) word (slice_split is_between words) (length words) (totals words) where
  split : (b : Bool) (word : Word) (parts : List (List Word)) (n : ℕ) → total parts ≤ n + 1 → total (if b then [] ∷ parts else onto_first word parts) ≤ suc n + 1
  split true word parts n few = omega arith
  split false word [] n few = omega arith
  split false word (words ∷ parts) n few = omega arith

split_short : (words : List Word) → list_all is_short words ≡ true → all_short (slice_split is_between words) ≡ true
split_short [] short = refl
split_short (word ∷ words) short =
    let parts = both (is_short word) (list_all is_short words) short in
    split (is_between word) word (slice_split is_between words) parts.0 (split_short words parts.1) where
      split : (b : Bool) (word : Word) (parts : List (List Word)) → is_short word ≡ true → all_short parts ≡ true → all_short (if b then [] ∷ parts else onto_first word parts) ≡ true
      split true word parts one rest = rest
      split false word [] one rest = all (is_short word && true) true (all (is_short word) true one refl) refl
      split false word (words ∷ parts) one rest =
          let each = both (list_all is_short words) (all_short parts) rest in
          all (is_short word && list_all is_short words) (all_short parts) (all (is_short word) (list_all is_short words) one each.0) each.1

small_parts : (n : ℕ) (parts : List (List Word)) → n + total parts < 2 ^ 32 → all_short parts ≡ true → list_all is_small (numbered n parts) ≡ true
small_parts n [] few short = refl
small_parts n (words ∷ parts) few short =
    let each = both (list_all is_short words) (all_short parts) short in
    all (is_small (command n words)) (list_all is_small (numbered (n + length words + 1) parts))
    (all (nat_lt (n + length words) (2 ^ 32)) (list_all is_short words) (lt-ltb (n + length words) (2 ^ 32) (here n (length words) (total parts) (2 ^ 32) few)) each.0)
    (small_parts (n + length words + 1) parts (after n (length words) (total parts) (2 ^ 32) few) each.1) where
      here : (n words more limit : ℕ) → n + (words + 1 + more) < limit → n + words < limit
      here n words more limit few = omega arith

      after : (n words more limit : ℕ) → n + (words + 1 + more) < limit → n + words + 1 + more < limit
      after n words more limit few = omega arith

-- the commands of a line are small
pub commands_are_small : (line : List ℕ) (words : List Word) → words_of line ≡ Some words → length line ≤ 65536 → list_all is_small (numbered 1 (slice_split is_between words)) ≡ true
commands_are_small line words e fits =
    small_parts 1 (slice_split is_between words) (sum (total (slice_split is_between words)) (length words) (length line) (totals words) (no_more_words line words e) fits)
    (split_short words (let short = (short_words line).outside (limit (length line) fits) in rw e at short)) where
      sum : (total words bytes : ℕ) → total ≤ words + 1 → words ≤ bytes → bytes ≤ 65536 → 1 + total < 2 ^ 32
      sum total words bytes few least fits = omega arith

      limit : (bytes : ℕ) → bytes ≤ 65536 → bytes < 2 ^ 32
      limit bytes fits = omega arith
