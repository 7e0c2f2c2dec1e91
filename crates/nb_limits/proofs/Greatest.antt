-- The greatest amount of a list, looked for one by one.
use Rattle.std.proofs.Common.{◌≡◌, ℕ, max, List, [], ◌∷◌, arith, sym, ap, ◌∙◌}
use Rattle.std.specs.Ordering.{nat_cmp, ord_max}
use Rattle.std.proofs.lemmas.Bool.Decides.{nat_tests}
use Rattle.nb_model.specs.Amounts.{greatest}

-- The greater of two.
pub greater : (a b : ℕ) → ord_max nat_cmp a b ≡ max a b
greater a b = grind (arith, nat_tests)

-- The greatest so far is with those that are left the greatest of all.
pub most_begins : (all : ℕ) → max 0 all ≡ all
most_begins all = omega arith

pub most_goes_on : {X : Type 0} (f : X → ℕ) (most new whole : ℕ) (left : List X) (x : X) (after : List X) → max most (greatest f left) ≡ whole → left ≡ x ∷ after → new ≡ max most (f x) → max new (greatest f after) ≡ whole
most_goes_on f most new whole left x after so_far next is = step most new (f x) (greatest f after) whole (ap (λ l. max most (greatest f l)) (sym next) ∙ so_far) is
  where
    step : (m n a b w : ℕ) → max m (max a b) ≡ w → n ≡ max m a → max n b ≡ w
    step m n a b w e is = omega (arith, e, is)

pub most_ends : {X : Type 0} (f : X → ℕ) (most whole : ℕ) (left : List X) → max most (greatest f left) ≡ whole → left ≡ [] → most ≡ whole
most_ends f most whole left so_far none = last most whole (ap (λ l. max most (greatest f l)) (sym none) ∙ so_far)
  where
    last : (m w : ℕ) → max m 0 ≡ w → m ≡ w
    last m w e = omega (arith, e)
