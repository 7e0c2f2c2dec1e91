-- One call of a source or a sink in memory.
use Rattle.std.proofs.Common.{◌≡◌, ◌≢◌, ℕ, ◌-◌, ◌≤◌, Bool, eqb, List, ◌++◌, inl, inr, ⊎_elim, Decides, length, take, drop, min, ap, ◌∙◌, subst, arith}
use Rattle.std.proofs.lemmas.List.{take_at, length-append, length-take-le, length-drop}
use Rattle.std.proofs.lemmas.List.Elements.{contains_decides, Decides-contains}
use Rattle.std.proofs.lemmas.Bool.Decides.{Decides-eqb}
use Rattle.std.specs.List.{Contains, IsAnyAnswer}
use Rattle.nv_io.specs.Counts.{next_count}
use Rattle.nv_io.specs.Store.{Store, NextPutFails}

-- the numbers that fail, as memory keeps them, tell whether the next call fails
pub next_fails : (tested fail : List ℕ) (number next : ℕ) (r : Bool) → IsAnyAnswer (λ y t. eqb y number ≡ t) tested r → tested ≡ fail → number ≡ next → Decides r (Contains fail next)
next_fails tested fail number next r answered same_list same_number =
    let here = Decides-contains tested number r (contains_decides eqb Decides-eqb tested number r answered) in
    subst (λ n. Decides r (Contains fail n)) same_number (subst (λ numbers. Decides r (Contains numbers number)) same_list here)

-- so many bytes of a text, put in front of others, are the front; and there are as many bytes as before
pub front : (left before after : List ℕ) (piece n : ℕ) → n ≡ min piece (min (length before) (length left)) → after ≡ take n left ++ drop n before → take n after ≡ take n left
front left before after piece n count copied =
    let within : n ≤ length left = omega arith in
    ap (take n) copied ∙ take_at (take n left) (drop n before) n (length-take-le n left within)

pub still : (left before after : List ℕ) (piece n : ℕ) → n ≡ min piece (min (length before) (length left)) → after ≡ take n left ++ drop n before → n ≡ min piece (min (length after) (length left))
still left before after piece n count copied =
    let within : n ≤ length left = omega arith in
    let as_long : length after ≡ length before = ap length copied ∙ length-append (take n left) (drop n before) ∙ omega (arith, length-take-le n left within, length-drop n before) in
    rw as_long count

-- with room left, only the numbers tell; with none, the next put fails
pub put_fails : (store : Store) (room kept : ℕ) (r : Bool) → room ≡ store.room → kept ≡ length store.kept → room - kept ≢ 0 → Decides r (Contains store.fail (next_count store.puts)) → Decides r (NextPutFails store)
put_fails store room kept r same_room same_kept some listed = (λ is. inl (listed.0 is), ⊎_elim listed.1 (λ full. absurd (some (omega arith))))

pub full_fails : (store : Store) (room len kept : ℕ) → room ≡ store.room → kept ≡ len → len ≡ length store.kept → len ≤ room → room - kept ≡ 0 → NextPutFails store
full_fails store room len kept same_room same_len same_kept within none = inr (omega arith)
