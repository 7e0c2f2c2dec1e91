-- Tokens, from what they are without their offsets.
use Rattle.std.proofs.Common.{◌≡◌, ℕ, List, [], ◌∷◌, ◌++◌, refl, ap, ◌∙◌}
use Rattle.expr_parse.proofs.Words.{Token, Tokens, kinds}

pub kinds_append : (front back : Tokens) → kinds (front ++ back) ≡ kinds front ++ kinds back
kinds_append [] back = refl
kinds_append (t ∷ ts) back = ap (λ xs. t.1 ∷ xs) (kinds_append ts back)

pub kinds_none : (ts : Tokens) → kinds ts ≡ [] → ts ≡ []
kinds_none [] e = refl
kinds_none (t ∷ ts) e = absurd (cc)

pub kinds_first : (ts : Tokens) (k : Token) (ks : List Token) → kinds ts ≡ k ∷ ks → (p : ℕ) × (us : Tokens) × (ts ≡ (p, k) ∷ us) × (kinds us ≡ ks)
kinds_first [] k ks e = absurd (cc)
kinds_first ((p, l) ∷ ts) k ks e =
    let same : l ≡ k = cc in
    (p, ts, ap (λ m. ◌∷◌ (p, m) ts) same, cc)

pub kinds_one : (ts : Tokens) (k : Token) → kinds ts ≡ k ∷ [] → (p : ℕ) × (ts ≡ (p, k) ∷ [])
kinds_one ts k e = let f = kinds_first ts k [] e in (f.0, f.2 ∙ ap (λ xs. (f.0, k) ∷ xs) (kinds_none f.1 f.3))

pub kinds_split : (ts : Tokens) (ks ls : List Token) → kinds ts ≡ ks ++ ls → (us : Tokens) × (vs : Tokens) × (ts ≡ us ++ vs) × (kinds us ≡ ks) × (kinds vs ≡ ls)
kinds_split ts [] ls e = ([], ts, refl, refl, e)
kinds_split ts (k ∷ ks) ls e =
    let f = kinds_first ts k (ks ++ ls) e in
    let s = kinds_split f.1 ks ls f.3 in
    ((f.0, k) ∷ s.0, s.1, f.2 ∙ ap (λ xs. (f.0, k) ∷ xs) s.2, ap (λ xs. k ∷ xs) s.3, s.4)
