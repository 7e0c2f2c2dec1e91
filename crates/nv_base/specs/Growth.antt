-- What a text is after appends that may have been cut off.
use Rattle.std.specs.Prelude.{◌≡◌, ℕ, List, ◌++◌}

-- all that was there stays in front
abbrev pub GrowsAtEnd : List ℕ → List ℕ → Type 0
GrowsAtEnd old new = (tail : List ℕ) × (new ≡ old ++ tail)
