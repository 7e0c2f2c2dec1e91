-- Which text the value of an option may be.
use Rattle.std.specs.Prelude.{◌≡◌, ℕ, Option, Some, None, pos}
use Rattle.clap.specs.Words.{IsSignedIn, Text, without_minus}

-- there is no text, or it is what is read of a number from 1 to the most
abbrev pub HasPassed : ℕ → Option Text → Type 0
HasPassed most None = Unit {0}
HasPassed most (Some text) = (written : Text) × (text ≡ without_minus written) × IsSignedIn (pos 1) (pos most) written
