-- Connections that are written one by one.
use Rattle.std.proofs.Common.{◌≡◌, ℕ, zero, suc, ◌+◌, ◌≤◌, List, [], ◌∷◌, ◌++◌, drop, length, add-one, arith, refl, ap, ◌∙◌}
use Rattle.std.specs.Prelude.{slice_get}
use Rattle.std.specs.List.{flat_map}
use Rattle.std.specs.Option.{option_map_or}

-- those from a place on are the one at the place and those after it
next_at : {X : Type 0} (give : X → List ℕ) (xs : List X) (place : ℕ) → option_map_or give (slice_get xs place) [] ++ flat_map give (drop (suc place) xs) ≡ flat_map give (drop place xs)
next_at give [] zero = refl
next_at give [] (suc place) = refl
next_at give (x ∷ xs) zero = refl
next_at give (x ∷ xs) (suc place) = next_at give xs place

pub given_next : {X : Type 0} (give : X → List ℕ) (xs : List X) (place : ℕ) → option_map_or give (slice_get xs place) [] ++ flat_map give (drop (place + 1) xs) ≡ flat_map give (drop place xs)
given_next give xs place = rw (add-one place) (next_at give xs place)

-- beyond the end there are none
pub none_beyond : {X : Type 0} (give : X → List ℕ) (xs : List X) (place : ℕ) → length xs ≤ place → flat_map give (drop place xs) ≡ []
none_beyond give [] zero beyond = refl
none_beyond give [] (suc place) beyond = refl
none_beyond give (x ∷ xs) zero beyond = absurd (omega (arith, beyond))
none_beyond give (x ∷ xs) (suc place) beyond = none_beyond give xs place (omega (arith, beyond))
