-- How many bytes of a text begin what a test asks for.
use Rattle.std.proofs.Common.{◌≡◌, ℕ, suc, zero, ◌+◌, ◌<◌, ◌≤◌, Bool, true, false, cond, List, [], ◌∷◌, ◌++◌, length, take, drop, get_or, refl, ap, sym, ◌∙◌, arith, append_assoc}
use Rattle.std.proofs.lemmas.List.{take_more, drop_more, drop_all}
use Rattle.act_parse.specs.inner.Wanted.{reach_by}

pub reach_most : (test : List ℕ → Bool) (text : List ℕ) → reach_by test text ≤ length text
reach_most test [] = omega arith
reach_most test (x ∷ xs) = go (test (x ∷ [])) (reach_most (λ front. test (x ∷ front)) xs)
  where
    go : (p : Bool) → reach_by (λ front. test (x ∷ front)) xs ≤ length xs → cond p (suc (reach_by (λ front. test (x ∷ front)) xs)) 0 ≤ suc (length xs)
    go true le = omega (arith, le)
    go false le = omega arith

-- the bytes that two texts have in common, where one more of them does not pass
pub reach_same : (test : List ℕ → Bool) (xs rest others : List ℕ) → reach_by test (xs ++ rest) < length xs → reach_by test (xs ++ others) ≡ reach_by test (xs ++ rest)
reach_same test [] rest others far = absurd (omega (arith, far))
reach_same test (x ∷ xs) rest others far = go (test (x ∷ [])) (reach_same (λ front. test (x ∷ front)) xs rest others) far
  where
    go : (p : Bool) → (reach_by (λ front. test (x ∷ front)) (xs ++ rest) < length xs → reach_by (λ front. test (x ∷ front)) (xs ++ others) ≡ reach_by (λ front. test (x ∷ front)) (xs ++ rest))
        → cond p (suc (reach_by (λ front. test (x ∷ front)) (xs ++ rest))) 0 < suc (length xs)
        → cond p (suc (reach_by (λ front. test (x ∷ front)) (xs ++ others))) 0 ≡ cond p (suc (reach_by (λ front. test (x ∷ front)) (xs ++ rest))) 0
    go true later far = ap (λ (n : ℕ). suc n) (later (omega (arith, far)))
    go false later far = refl

-- the bytes pass, where there are any
pub reach_passes : (test : List ℕ → Bool) (text : List ℕ) → 0 < reach_by test text → test (take (reach_by test text) text) ≡ true
reach_passes test [] some = absurd (omega (arith, some))
reach_passes test (x ∷ xs) some = go (test (x ∷ [])) refl (reach_by (λ front. test (x ∷ front)) xs) (reach_passes (λ front. test (x ∷ front)) xs) some
  where
    go : (p : Bool) → test (x ∷ []) ≡ p → (n : ℕ) → (0 < n → test (x ∷ take n xs) ≡ true) → 0 < cond p (suc n) 0 → test (take (cond p (suc n) 0) (x ∷ xs)) ≡ true
    go true is zero later some = is
    go true is (suc n) later some = later (omega arith)
    go false is n later some = absurd (omega (arith, some))

-- they are all the bytes whose fronts pass, where with the next byte they do not
pub reach_exact : (test : List ℕ → Bool) (w rest : List ℕ) → ((k : ℕ) → 0 < k → k ≤ length w → test (take k w) ≡ true) → ((b : ℕ) (bs : List ℕ) → rest ≡ b ∷ bs → test (w ++ b ∷ []) ≡ false) → reach_by test (w ++ rest) ≡ length w
reach_exact test [] [] passes stops = refl
reach_exact test [] (b ∷ bs) passes stops = ap (λ (p : Bool). cond p (suc (reach_by (λ front. test (b ∷ front)) bs)) 0) (stops b bs refl)
reach_exact test (x ∷ w) rest passes stops =
    ap (λ (p : Bool). cond p (suc (reach_by (λ front. test (x ∷ front)) (w ++ rest))) 0) (passes 1 (omega arith) (omega arith))
    ∙ ap (λ (n : ℕ). suc n) (reach_exact (λ front. test (x ∷ front)) w rest (λ k some within. passes (suc k) (omega arith) (omega (arith, within))) stops)

-- so many bytes pass, and what is left decides how many more
abbrev pub SoFar : (List ℕ → Bool) → List ℕ → ℕ → Type 0
SoFar test text n = reach_by test text ≡ n + reach_by (λ front. test (take n text ++ front)) (drop n text)

reach_alike : (p q : List ℕ → Bool) (text : List ℕ) → ((xs : List ℕ) → p xs ≡ q xs) → reach_by p text ≡ reach_by q text
reach_alike p q [] same = refl
reach_alike p q (x ∷ xs) same =
    ap (λ (t : Bool). cond t (suc (reach_by (λ front. p (x ∷ front)) xs)) 0) (same (x ∷ []))
    ∙ ap (λ (n : ℕ). cond (q (x ∷ [])) (suc n) 0) (reach_alike (λ front. p (x ∷ front)) (λ front. q (x ∷ front)) xs (λ ys. same (x ∷ ys)))

pub so_far_begins : (test : List ℕ → Bool) (text : List ℕ) → SoFar test text 0
so_far_begins test text = omega arith

-- the next byte decides
next : (test : List ℕ → Bool) (text : List ℕ) (n : ℕ) (passes : Bool) → n < length text → test (take (n + 1) text) ≡ passes
    → reach_by (λ front. test (take n text ++ front)) (drop n text) ≡ cond passes (suc (reach_by (λ front. test (take (n + 1) text ++ front)) (drop (n + 1) text))) 0
next test text n passes more is =
    let b = get_or text n 0 in
    let front : take (n + 1) text ≡ take n text ++ b ∷ [] = take_more text n 0 more in
    ap (reach_by (λ front. test (take n text ++ front))) (drop_more text n 0 more)
    ∙ ap (λ (t : Bool). cond t (suc (reach_by (λ front. test (take n text ++ b ∷ front)) (drop (n + 1) text))) 0) (ap test (sym front) ∙ is)
    ∙ ap (λ (k : ℕ). cond passes (suc k) 0) (reach_alike (λ front. test (take n text ++ b ∷ front)) (λ front. test (take (n + 1) text ++ front)) (drop (n + 1) text)
    (λ xs. ap test (sym (append_assoc (take n text) (b ∷ []) xs) ∙ ap (λ ys. ys ++ xs) (sym front))))

pub so_far_more : (test : List ℕ → Bool) (text : List ℕ) (n : ℕ) → n < length text → test (take (n + 1) text) ≡ true → SoFar test text n → SoFar test text (n + 1)
so_far_more test text n more passes before = omega (arith, before, next test text n true more passes)

pub so_far_stops : (test : List ℕ → Bool) (text : List ℕ) (n : ℕ) → n < length text → test (take (n + 1) text) ≡ false → SoFar test text n → n ≡ reach_by test text
so_far_stops test text n more fails before = omega (arith, before, next test text n false more fails)

pub so_far_ends : (test : List ℕ → Bool) (text : List ℕ) (n : ℕ) → length text ≤ n → SoFar test text n → n ≡ reach_by test text
so_far_ends test text n all before = omega (arith, before, ap (reach_by (λ front. test (take n text ++ front))) (drop_all n text all))
