-- A number that is not below the limit.
use Rattle.std.proofs.Common.{◌≡◌, ◌≤◌, Bool, true, false, ℕ, Option, Some, None, Ok, ok_or, nat_lt, arith, refl, if◌then◌else◌}
use borrow.Author.Tests.{ltb-true}
use Rattle.nv_base.specs.Number.{below}
use Rattle.nv_base.specs.declared.text.BadText.{BadText}

pub not_below : (number : Option ℕ) (value limit : ℕ) (error : BadText) → ok_or number error ≡ Ok value → limit ≤ value → None ≡ below limit number
not_below None value limit error is most = absurd cc
not_below (Some n) value limit error is most = let same : n ≡ value = cc in tested (nat_lt n limit) (λ less. absurd (omega (arith, ltb-true n limit less, same))) where
  tested : (b : Bool) → (b ≡ true → ⊥) → None ≡ (if b then Some n else None)
  tested true never = absurd (never refl)
  tested false never = refl
