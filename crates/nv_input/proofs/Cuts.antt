-- The first newline cuts the bytes.
use Rattle.std.proofs.Common.{◌≡◌, ℕ, suc, ◌<◌, zero-le, false, eqb, List, ◌∷◌, ◌++◌, length, take, drop, get_or, sym, ap, ◌∙◌, arith}
use Rattle.std.proofs.lemmas.Bool.{false_from_ne_true}
use Rattle.std.proofs.lemmas.Bool.Decides.{nat_tests}
use Rattle.std.proofs.lemmas.List.{take-append-drop, get_or-take, length-take-le}
use Rattle.std.proofs.lemmas.List.Elements.{All-from_get_or}
use Rattle.std.proofs.lemmas.List.Splits.{slice_split_none}
use Rattle.std.proofs.Math.Seq.{drop-cons}
use Rattle.std.specs.Prelude.{Some}
use Rattle.memchr.specs.Find.{Nowhere, NoneBefore, Passes, IsFirstByte, is_byte}
use Rattle.nv_input.specs.Lines.{is_newline}
use Rattle.nv_input.specs.inner.StateAfter.{EndsNoLine, CutsLine}

-- bytes among which is no newline
pub ends_none : (bytes : List ℕ) → Nowhere (Passes (is_byte 10) bytes) 0 (length bytes) → EndsNoLine bytes
ends_none bytes nowhere = slice_split_none is_newline bytes (All-from_get_or (λ x. is_newline x ≡ false) bytes 0 (λ i below. false_from_ne_true _ (nowhere i zero-le below)))

-- the first newline, and the rest after it
pub cuts : (bytes line after rest : List ℕ) (at : ℕ) → NoneBefore (Passes (is_byte 10) bytes) 0 (length bytes) at → Passes (is_byte 10) bytes at → line ≡ take at bytes → after ≡ drop at bytes → rest ≡ drop 1 after → CutsLine bytes line rest
cuts bytes line after rest at none here line_is after_is rest_is =
    let inside : at < length bytes = none.high in
    let is_newline_at : get_or bytes at 0 ≡ 10 = grind (arith, nat_tests, here) in
    let after_cons : drop at bytes ≡ 10 ∷ drop (suc at) bytes = drop-cons bytes at 0 inside ∙ ap (λ x. x ∷ drop (suc at) bytes) is_newline_at in
    let front_nowhere : Nowhere (Passes (is_byte 10) (take at bytes)) 0 (length (take at bytes)) =
    λ i low below passes. let short : length (take at bytes) ≡ at = length-take-le at bytes (omega arith) in
    none.before i zero-le (omega (arith, short)) (sym (ap (λ x. eqb x 10) (get_or-take at bytes i 0 (omega (arith, short)))) ∙ passes) in
    record {
      whole =
          sym (take-append-drop at bytes) ∙ ap (λ x. x ++ drop at bytes) (sym line_is)
          ∙ ap (λ x. line ++ x) (after_cons ∙ ap (λ x. 10 ∷ x) (sym (rest_is ∙ ap (drop 1) (after_is ∙ after_cons))));
      ends_no_line = rw line_is (ends_none (take at bytes) front_nowhere);
    }

-- a newline at the front is the first
pub at_front : (bytes : List ℕ) → 0 < length bytes → get_or bytes 0 0 ≡ 10 → IsFirstByte (is_byte 10) bytes (Some 0)
at_front bytes inside here = (record { low = zero-le; high = inside; before = λ k low below. absurd (omega (arith, below)) }, ap (λ x. eqb x 10) here)
