-- What is still in front of a text after appends of which the last may have been cut off.
use Rattle.std.proofs.Common.{◌≡◌, ℕ, List, ◌++◌, length, take, drop, sym, ap, ◌∙◌}
use Rattle.std.proofs.Math.Seq.{take-append_seam}
use Rattle.std.proofs.lemmas.List.{take-append-drop}
use Rattle.nv_base.specs.Growth.{GrowsAtEnd}
use Rattle.nv_base.proofs.Growth.{grown_more}

-- where a text grew at its end, it is in front
pub in_front : (old new : List ℕ) (n : ℕ) → n ≡ length old → GrowsAtEnd old new → take n new ≡ old
in_front old new n long grown = ap (λ n. take n new) long ∙ (ap (take (length old)) grown.1 ∙ take-append_seam old grown.0)

-- and where it is in front, it grew at its end
pub grown : (old new : List ℕ) (n : ℕ) → take n new ≡ old → GrowsAtEnd old new
grown old new n front = (drop n new, sym (take-append-drop n new) ∙ ap (λ l. l ++ drop n new) front)

-- what was appended to, and then kept in front, keeps in front what was there before
pub further : (there middle end more : List ℕ) (n m : ℕ) → n ≡ length there → middle ≡ there ++ more → take m end ≡ middle → take n end ≡ there
further there middle end more n m long e front = in_front there end n long (grown_more there middle end more e (grown middle end m front))
