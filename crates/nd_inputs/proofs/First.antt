-- The first of the records that pass a test that passes another one too, as they are gone through by rising number.
use Rattle.std.proofs.Common.{◌≡◌, Bool, true, false, cond, ◌&&◌, List, [], ◌∷◌, ◌++◌, map, refl, sym, ap, ◌∙◌}
use Rattle.std.specs.Prelude.{Option, Some, None, filter, find}
use Rattle.std.specs.List.{flat_map}
use Rattle.nv_base.specs.declared.object.ObjId.{ObjId}
use Rattle.nv_table.specs.Table.{NumbersRise, is_after}
use Rattle.nv_table.proofs.Through.{these_after, these_next, these_whole}

-- each as a list of its own
abbrev single : {R : Type 0} → R → List R
single r = r ∷ []

singles : {R : Type 0} (rs : List R) → flat_map single rs ≡ rs
singles [] = refl
singles (r ∷ rs) = ap (λ more. r ∷ more) (singles rs)

-- what each gives, where it gives one
pub one_by_one : {R Y : Type 0} (give : R → Y) (rs : List R) → flat_map (λ r. give r ∷ []) rs ≡ map give rs
one_by_one give [] = refl
one_by_one give (r ∷ rs) = ap (λ more. give r ∷ more) (one_by_one give rs)

-- a search among those that pass
pub among : {R : Type 0} (p q : R → Bool) (rs : List R) → find q (filter p rs) ≡ find (λ r. p r && q r) rs
among p q [] = refl
among {R} p q (r ∷ rs) = by (p r) (among p q rs)
  where
    by : (b : Bool) → find q (filter p rs) ≡ find (λ x. p x && q x) rs → find q (cond b (r ∷ filter p rs) (filter p rs)) ≡ cond (b && q r) (Some r) (find (λ x. p x && q x) rs)
    by true rest = ap (λ found. cond (q r) (Some r) found) rest
    by false rest = rest

-- what those of them give that pass another test too
pub given : {R Y : Type 0} (p q : R → Bool) (give : R → List Y) (rs : List R) → flat_map (λ r. cond (q r) (give r) []) (filter p rs) ≡ flat_map give (filter (λ r. p r && q r) rs)
given p q give [] = refl
given {R} {Y} p q give (r ∷ rs) = by (p r) (q r) refl (given p q give rs)
  where
    one : R → List Y
    one x = cond (q x) (give x) []

    by : (a b : Bool) → q r ≡ b → flat_map one (filter p rs) ≡ flat_map give (filter (λ x. p x && q x) rs)
        → flat_map one (cond a (r ∷ filter p rs) (filter p rs)) ≡ flat_map give (cond (a && b) (r ∷ filter (λ x. p x && q x) rs) (filter (λ x. p x && q x) rs))
    by true true is rest = ap (λ c. cond c (give r) [] ++ flat_map one (filter p rs)) is ∙ ap (λ more. give r ++ more) rest
    by true false is rest = ap (λ c. cond c (give r) [] ++ flat_map one (filter p rs)) is ∙ rest
    by false b is rest = rest

module _ {R : Type 0} (number : R → ObjId) (p : R → Bool) (after : Option ObjId) (rs : List R) where
  -- where none is found, none is left
  pub none_left : None ≡ find (λ r. is_after after (number r) && p r) rs → these_after number p after rs ≡ []
  none_left none = sym (these_whole number p after rs none single [] (these_after number p after rs) (singles (these_after number p after rs)))

  -- the one that is found is the first of those that are left
  pub one_left : (x : R) → NumbersRise number rs → Some x ≡ find (λ r. is_after after (number r) && p r) rs → these_after number p after rs ≡ x ∷ these_after number p (Some (number x)) rs
  one_left x rise found =
      sym (these_next number p after rs x rise found single [] (these_after number p after rs) (singles (these_after number p after rs))) ∙ ap (λ more. x ∷ more) (singles (these_after number p (Some (number x)) rs))

  module _ (q : R → Bool) (whole : Option R) (is : find q (these_after number p after rs) ≡ whole) where
    pub first_none : None ≡ find (λ r. is_after after (number r) && p r) rs → None ≡ whole
    first_none none = ap (find q) (sym (none_left none)) ∙ is

    module _ (x : R) (rise : NumbersRise number rs) (found : Some x ≡ find (λ r. is_after after (number r) && p r) rs) where
      this_or_left : cond (q x) (Some x) (find q (these_after number p (Some (number x)) rs)) ≡ whole
      this_or_left = ap (find q) (sym (one_left x rise found)) ∙ is

      pub first_this : q x ≡ true → Some x ≡ whole
      first_this passes = ap (λ b. cond b (Some x) (find q (these_after number p (Some (number x)) rs))) (sym passes) ∙ this_or_left

      pub first_left : q x ≡ false → find q (these_after number p (Some (number x)) rs) ≡ whole
      first_left fails = ap (λ b. cond b (Some x) (find q (these_after number p (Some (number x)) rs))) (sym fails) ∙ this_or_left
