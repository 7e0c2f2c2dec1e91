-- The constant that a whole text spells, by the longest front that spells one.
use Rattle.std.proofs.Common.{◌≡◌, ◌≢◌, ℕ, suc, zero, ◌≤◌, List, [], ◌∷◌, length, take, Option, Some, None, refl, ap, sym, ◌∙◌, arith}
use Rattle.std.proofs.lemmas.List.{take_all}
use Rattle.std.specs.Option.{option_map}
use Rattle.expr_core.specs.declared.constant.Const.{Const}
use Rattle.expr_const.specs.Constant.{or_else, constant_of, longest}

-- the constant of the whole, if there is one, and else that of a shorter front
abbrev shorter : List ℕ → Option Const → Option (Const × ℕ)
shorter [] o = None
shorter (b ∷ bs) o = or_else {T = Const × ℕ} (option_map (λ c. (c, suc (length bs))) o) (longest (length bs) (b ∷ bs))

longest_is : (text : List ℕ) → longest (length text) text ≡ shorter text (constant_of text)
longest_is [] = refl
longest_is (b ∷ bs) = ap (λ (xs : List ℕ). shorter (b ∷ bs) (constant_of xs)) (take_all (suc (length bs)) (b ∷ bs) (omega arith))

longest_short : (n : ℕ) (text : List ℕ) (x : Const × ℕ) → longest n text ≡ Some x → x.1 ≤ n
longest_short zero text x e = absurd (cc)
longest_short (suc n) text x e = go (constant_of (take (suc n) text)) e (longest_short n text x)
  where
    go : (o : Option Const) → or_else {T = Const × ℕ} (option_map (λ c. (c, suc n)) o) (longest n text) ≡ Some x → (longest n text ≡ Some x → x.1 ≤ n) → x.1 ≤ suc n
    go None e later = omega (arith, later e)
    go (Some c) e later = let same : (c, suc n) ≡ x = cc in omega (arith, ap (λ (y : Const × ℕ). y.1) same)

pub whole_found : (text : List ℕ) (c : Const) (len : ℕ) → Some (c, len) ≡ longest (length text) text → len ≡ length text → Some c ≡ constant_of text
whole_found [] c len e whole = absurd (cc)
whole_found (b ∷ bs) c len e whole = go (constant_of (b ∷ bs)) (e ∙ longest_is (b ∷ bs))
  where
    go : (o : Option Const) → Some (c, len) ≡ shorter (b ∷ bs) o → Some c ≡ o
    go None f = absurd (omega (arith, longest_short (length bs) (b ∷ bs) (c, len) (sym f), whole))
    go (Some d) f = let same : (c, len) ≡ (d, suc (length bs)) = cc in ap (λ (y : Const × ℕ). Some y.0) same

pub part_found : (text : List ℕ) (c : Const) (len : ℕ) → Some (c, len) ≡ longest (length text) text → len ≢ length text → None ≡ constant_of text
part_found [] c len e part = refl
part_found (b ∷ bs) c len e part = go (constant_of (b ∷ bs)) (e ∙ longest_is (b ∷ bs))
  where
    go : (o : Option Const) → Some (c, len) ≡ shorter (b ∷ bs) o → None ≡ o
    go None f = refl
    go (Some d) f = let same : (c, len) ≡ (d, suc (length bs)) = cc in absurd (part (ap (λ (y : Const × ℕ). y.1) same))

pub nothing_found : (text : List ℕ) (r : Option (Const × ℕ)) → r ≡ longest (length text) text → r ≡ None → None ≡ constant_of text
nothing_found [] r e none = refl
nothing_found (b ∷ bs) r e none = go (constant_of (b ∷ bs)) (sym none ∙ e ∙ longest_is (b ∷ bs))
  where
    go : (o : Option Const) → None ≡ shorter (b ∷ bs) o → None ≡ o
    go None f = refl
    go (Some d) f = absurd (cc)
