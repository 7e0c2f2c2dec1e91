-- The lines of an input have no more bytes than the input.
use Rattle.std.proofs.Common.{◌≡◌, ℕ, ◌+◌, ◌≤◌, Bool, true, false, cond, List, [], ◌∷◌, ◌++◌, length, sum_by, ap, ◌∙◌, arith}
use Rattle.std.specs.List.{slice_split, onto_first}
use Rattle.std.proofs.lemmas.List.Sums.{sum_by-append, sum_by-cons}
use Rattle.nv_input.specs.Lines.{is_newline, lines_of}

onto_longer : (byte : ℕ) (parts : List (List ℕ)) → sum_by length (onto_first byte parts) ≤ 1 + sum_by length parts
onto_longer byte [] = omega arith
onto_longer byte (part ∷ parts) = omega (arith, sum_by-cons length (byte ∷ part) parts, sum_by-cons length part parts)

split_longer : (p : ℕ → Bool) (bytes : List ℕ) → sum_by length (slice_split p bytes) ≤ length bytes
split_longer p [] = omega arith
split_longer p (byte ∷ bytes) = by (p byte) (slice_split p bytes) (split_longer p bytes)
  where
    by : (b : Bool) (parts : List (List ℕ)) → sum_by length parts ≤ length bytes → sum_by length (cond b ([] ∷ parts) (onto_first byte parts)) ≤ length (byte ∷ bytes)
    by true parts rest = omega (arith, rest, sum_by-cons length [] parts)
    by false parts rest = omega (arith, rest, onto_longer byte parts)

pub lines_longer : (input : List ℕ) → sum_by length (lines_of input) ≤ length input
lines_longer input = split_longer is_newline input

-- and those before a line have no more than all
pub before_longer : (lines before : List (List ℕ)) (line : List ℕ) (later : List (List ℕ)) → lines ≡ before ++ line ∷ later → sum_by length before ≤ sum_by length lines
before_longer lines before line later all = omega (arith, ap (sum_by length) all ∙ sum_by-append length before (line ∷ later))
