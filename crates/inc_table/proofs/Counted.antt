-- How makes add up, one change more.
use Rattle.std.proofs.Common.{◌≡◌, ℕ, zero, suc, cond, List, [], ◌∷◌, ◌++◌, count_by, arith, refl, sym, ap, ◌∙◌, Option}
use Rattle.std.proofs.lemmas.List.Sums.{sum_by_push}
use Rattle.inc_table.specs.declared.delta.Change.{Change}
use Rattle.inc_table.specs.declared.delta.Change.TheVariants.{Put, Gone}
use Rattle.inc_table.specs.Delta.{left_by}
use Rattle.inc_table.specs.Maker.{one_more, more_made}
use Rattle.inc_table.specs.Node.{is_put}
use Rattle.inc_table.specs.inner.Walk.{made_one}

pub one_more_made : (n made : ℕ) → more_made n (one_more made) ≡ one_more (more_made n made)
one_more_made zero made = refl
one_more_made (suc n) made = one_more_made n (one_more made)

pub counted_more : {K V : Type 0} (l : List (K × Change V)) (q : K) (change : Change V) (value : Option V) (made : ℕ) → value ≡ left_by change
    → made_one value (more_made (count_by (λ c. is_put c.1) l) made) ≡ more_made (count_by (λ c. is_put c.1) (l ++ (q, change) ∷ [])) made
counted_more {K} {V} l q change value made is = ap (λ (v : Option V). made_one v (more_made (count_by (λ (c : K × Change V). is_put c.1) l) made)) is ∙ by change
  where
    by : (c : Change V) → made_one (left_by c) (more_made (count_by (λ (x : K × Change V). is_put x.1) l) made) ≡ more_made (count_by (λ (x : K × Change V). is_put x.1) (l ++ (q, c) ∷ [])) made
    by (Put v) =
        let test : K × Change V → ℕ = λ x. cond (is_put x.1) 1 0 in
        let push = sum_by_push test l (q, Put v) in
        let more : count_by (λ (x : K × Change V). is_put x.1) (l ++ (q, Put v) ∷ []) ≡ suc (count_by (λ (x : K × Change V). is_put x.1) l) = omega (arith, push) in
        sym (ap (λ n. more_made n made) more ∙ one_more_made (count_by (λ (x : K × Change V). is_put x.1) l) made)
    by Gone =
        let test : K × Change V → ℕ = λ x. cond (is_put x.1) 1 0 in
        let push = sum_by_push test l (q, Gone) in
        let more : count_by (λ (x : K × Change V). is_put x.1) (l ++ (q, Gone) ∷ []) ≡ count_by (λ (x : K × Change V). is_put x.1) l = omega (arith, push) in
        sym (ap (λ n. more_made n made) more)
