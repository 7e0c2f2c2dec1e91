-- The test of UTF-8.
use Rattle.std.proofs.Common.{◌≡◌, Bool, true, false, ℕ, List, refl, sym}
use Rattle.std.specs.Str.{is_utf8}
use Rattle.std.proofs.Common.{IsUtf8}
use Rattle.std.proofs.lemmas.Str.{IsUtf8-from_is_utf8, is_utf8-from_IsUtf8}

pub is_text : (bytes : List ℕ) → IsUtf8 bytes → true ≡ is_utf8 bytes
is_text bytes text = sym (is_utf8-from_IsUtf8 bytes text)

pub is_no_text : (bytes : List ℕ) → ¬ (IsUtf8 bytes) → false ≡ is_utf8 bytes
is_no_text bytes none = tested (is_utf8 bytes) (λ e. none (IsUtf8-from_is_utf8 bytes e)) where
  tested : (b : Bool) → ¬ (b ≡ true) → false ≡ b
  tested true none = absurd (none refl)
  tested false none = refl
