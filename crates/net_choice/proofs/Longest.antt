-- The longest of some ways, length by length: of those of the greatest length the first.
use Rattle.std.proofs.Common.{◌≡◌, ℕ, ◌+◌, ◌<◌, Bool, true, false, cond, nat_lt, List, [], ◌∷◌, Option, Some, None, arith, refl, sym, ap, ◌∙◌, subst}
use Rattle.std.specs.Prelude.{◌==◌, fold}
use Rattle.std.specs.List.{AllByRecursion, find}
use Rattle.std.proofs.lemmas.Bool.{false≢true, eqb-true}
use Rattle.std.proofs.lemmas.Bool.Decides.{nat_tests}
use Rattle.net_choice.specs.declared.routes.Way.{Way}
use Rattle.net_choice.specs.inner.Routes.{is_shorter, longer}

-- a way is so long
abbrev pub has_len : ℕ → Way → Bool
has_len len way = way.len == len

-- each way is shorter than so many bits
abbrev pub AllShorter : ℕ → List Way → Type 0
AllShorter len ways = AllByRecursion (λ (way : Way). way.len < len) ways

-- where none is longer the first stays
pub none_longer : (best : Way) (ways : List Way) → AllShorter (best.len + 1) ways → fold longer (Some best) ways ≡ Some best
none_longer best [] all = refl
none_longer best (way ∷ ways) all = ap (λ b. fold longer (cond b (Some way) (Some best)) ways) not_longer ∙ none_longer best ways all.1
  where
    not_longer : nat_lt best.len way.len ≡ false
    not_longer = let less : way.len < best.len + 1 = all.0 in grind (arith, nat_tests, less)

-- the first of the greatest length is the longest, where what was before is shorter
pub longest_is : (len : ℕ) (best : Option Way) (ways : List Way) (found : Way) → is_shorter best len ≡ true → AllShorter (len + 1) ways → find (has_len len) ways ≡ Some found → fold longer best ways ≡ Some found
longest_is len best [] found shorter all is = absurd (cc)
longest_is len best (way ∷ ways) found shorter all is = by (way.len == len) refl is (λ o less it. longest_is len o ways found less all.1 it)
  where
    taken : way.len ≡ len → (o : Option Way) → is_shorter o len ≡ true → longer o way ≡ Some way
    taken same None less = refl
    taken same (Some first) less = ap (λ b. cond b (Some way) (Some first)) (ap (nat_lt first.len) same ∙ less)

    either_way : (b : Bool) (first : Way) → nat_lt first.len len ≡ true → nat_lt way.len len ≡ true → is_shorter (cond b (Some way) (Some first)) len ≡ true
    either_way true first one other = other
    either_way false first one other = one

    still : nat_lt way.len len ≡ true → (o : Option Way) → is_shorter o len ≡ true → is_shorter (longer o way) len ≡ true
    still less None shorter = less
    still less (Some first) shorter = either_way (nat_lt first.len way.len) first shorter less

    by : (b : Bool) → (way.len == len) ≡ b → cond b (Some way) (find (has_len len) ways) ≡ Some found
        → ((o : Option Way) → is_shorter o len ≡ true → find (has_len len) ways ≡ Some found → fold longer o ways ≡ Some found) → fold longer (longer best way) ways ≡ Some found
    by true same it rest =
        let level : way.len ≡ len = eqb-true way.len len same in
        ap (λ o. fold longer o ways) (taken level best shorter) ∙ none_longer way ways (subst (λ n. AllShorter (n + 1) ways) (sym level) all.1) ∙ it
    by false other it rest =
        let below : way.len < len + 1 = all.0 in
        let less : nat_lt way.len len ≡ true = grind (arith, nat_tests, below, other) in
        rest (longer best way) (still less best shorter) it

-- where none is so long all are shorter
pub all_shorter : (len : ℕ) (ways : List Way) → AllShorter (len + 1) ways → find (has_len len) ways ≡ None → AllShorter len ways
all_shorter len [] all none = tt
all_shorter len (way ∷ ways) all none = by (way.len == len) refl none (all_shorter len ways all.1)
  where
    by : (b : Bool) → (way.len == len) ≡ b → cond b (Some way) (find (has_len len) ways) ≡ None → (find (has_len len) ways ≡ None → AllShorter len ways) → AllShorter len (way ∷ ways)
    by true same it rest = absurd (cc)
    by false other it rest =
        let below : way.len < len + 1 = all.0 in
        let less : way.len < len = grind (arith, nat_tests, below, other) in
        (less, rest it)

-- no way is shorter than no bit
pub no_way : (best : Option Way) (ways : List Way) → AllShorter 0 ways → fold longer best ways ≡ best
no_way best [] all = refl
no_way best (way ∷ ways) all = let less : way.len < 0 = all.0 in absurd (omega (arith, less))

-- what is true of shorter ways is so of more bits
longer_bound : (m n : ℕ) (ways : List Way) → m < n + 1 → AllShorter m ways → AllShorter n ways
longer_bound m n [] le all = tt
longer_bound m n (way ∷ ways) le all = let less : way.len < m = all.0 in (omega (arith, le, less), longer_bound m n ways le all.1)

-- where a way is at least as long as any other it stays
pub longest_stays : (len : ℕ) (best : Option Way) (ways : List Way) → is_shorter best len ≡ false → AllShorter (len + 1) ways → fold longer best ways ≡ best
longest_stays len None ways long all = absurd (false≢true (sym long))
longest_stays len (Some best) ways long all = none_longer best ways (longer_bound (len + 1) (best.len + 1) ways (grind (arith, nat_tests, long)) all)
