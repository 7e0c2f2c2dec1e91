-- Records of which some pass a test, gone through by rising number: a fold over those that are left after a number.
use Rattle.std.proofs.Common.{◌≡◌, ℕ, ◌<◌, Bool, true, false, cond, ◌&&◌, nat_lt, List, [], ◌∷◌, Option, Some, None, length, arith, refl, sym, ap, ◌∙◌, subst}
use Rattle.std.specs.Prelude.{find, filter, fold, IsTrue}
use Rattle.std.specs.List.{AllByRecursion}
use Rattle.std.proofs.lemmas.Bool.{and_parts, lt-ltb}
use Rattle.std.proofs.lemmas.Bool.Decides.{nat_tests}
use Rattle.nv_base.specs.declared.object.ObjId.{ObjId}
use Rattle.nv_table.specs.Table.{NumbersRise, is_after}

not_above : (a b : ℕ) → a < b → nat_lt b a ≡ false
not_above a b less = grind (arith, nat_tests, less)

not_itself : (a : ℕ) → nat_lt a a ≡ false
not_itself a = grind (arith, nat_tests)

module _ {R : Type 0} (number : R → ObjId) (p : R → Bool) where
  -- those that are left after a number, or all where none is given
  abbrev pub left : Option ObjId → List R → List R
  left after rs = filter (λ r. is_after after (number r) && p r) rs

  -- the first of them
  abbrev next : Option ObjId → List R → Option R
  next after rs = find (λ r. is_after after (number r) && p r) rs

  -- after a number that is left itself all are
  all_later : (n : ObjId) (after : Option ObjId) (rs : List R) → IsTrue (is_after after n) → AllByRecursion (λ r. n.0 < (number r).0) rs → left after rs ≡ filter p rs
  all_later n after [] is all = refl
  all_later n after (r ∷ rs) is all =
      ap (λ b. cond (b && p r) (r ∷ left after rs) (left after rs)) (above after is) ∙ ap (λ (l : List R). cond (p r) (r ∷ l) l) (all_later n after rs is all.1)
    where
      above : (low : Option ObjId) → IsTrue (is_after low n) → is_after low (number r) ≡ true
      above None i = refl
      above (Some low) i = let less : n.0 < (number r).0 = all.0 in grind (arith, nat_tests, i, less)

  all_above : (n : ObjId) (rs : List R) → AllByRecursion (λ r. n.0 < (number r).0) rs → left (Some n) rs ≡ filter p rs
  all_above n [] all = refl
  all_above n (r ∷ rs) all = ap (λ b. cond (b && p r) (r ∷ left (Some n) rs) (left (Some n) rs)) (lt-ltb n.0 (number r).0 all.0) ∙ ap (λ (l : List R). cond (p r) (r ∷ l) l) (all_above n rs all.1)

  next_above : (n : ObjId) (after : Option ObjId) (x : R) (rs : List R) → AllByRecursion (λ r. n.0 < (number r).0) rs → next after rs ≡ Some x → n.0 < (number x).0
  next_above n after x [] all found = absurd (cc)
  next_above n after x (r ∷ rs) all found = by (is_after after (number r) && p r) found (next_above n after x rs all.1)
    where
      by : (b : Bool) → cond b (Some r) (next after rs) ≡ Some x → (next after rs ≡ Some x → n.0 < (number x).0) → n.0 < (number x).0
      by true is rest = let same : r ≡ x = cc in subst (λ (y : R). n.0 < (number y).0) same all.0
      by false is rest = rest is

  -- the next one is the first of those that are left, and the others are left after it
  next_left : (after : Option ObjId) (x : R) (rs : List R) → NumbersRise number rs → next after rs ≡ Some x → left after rs ≡ x ∷ left (Some (number x)) rs
  next_left after x [] rise found = absurd (cc)
  next_left after x (r ∷ rs) rise found = by (is_after after (number r) && p r) refl found (next_left after x rs rise.1)
    where
      here : is_after after (number r) && p r ≡ true → left after rs ≡ left (Some (number r)) (r ∷ rs)
      here is =
          all_later (number r) after rs (and_parts (is_after after (number r)) (p r) is).0 rise.0
          ∙ sym (all_above (number r) rs rise.0)
          ∙ ap (λ b. cond (b && p r) (r ∷ left (Some (number r)) rs) (left (Some (number r)) rs)) (sym (not_itself (number r).0))

      by : (b : Bool) → (is_after after (number r) && p r) ≡ b → cond b (Some r) (next after rs) ≡ Some x
          → (next after rs ≡ Some x → left after rs ≡ x ∷ left (Some (number x)) rs) → cond b (r ∷ left after rs) (left after rs) ≡ x ∷ left (Some (number x)) (r ∷ rs)
      by true is at rest = let same : r ≡ x = cc in subst (λ (y : R). r ∷ left after rs ≡ y ∷ left (Some (number y)) (r ∷ rs)) same (ap (λ (l : List R). r ∷ l) (here is))
      by false is at rest =
          let low : (number r).0 < (number x).0 = next_above (number r) after x rs rise.0 at in
          rest at ∙ ap (λ b. x ∷ cond (b && p r) (r ∷ left (Some (number x)) rs) (left (Some (number x)) rs)) (sym (not_above (number r).0 (number x).0 low))

  -- where there is no next one none is left
  none_left : (after : Option ObjId) (rs : List R) → next after rs ≡ None → left after rs ≡ []
  none_left after [] none = refl
  none_left after (r ∷ rs) none = by (is_after after (number r) && p r) none (none_left after rs)
    where
      by : (b : Bool) → cond b (Some r) (next after rs) ≡ None → (next after rs ≡ None → left after rs ≡ []) → cond b (r ∷ left after rs) (left after rs) ≡ []
      by true is rest = absurd (cc)
      by false is rest = rest is

  -- fewer are left after the next one
  pub fewer_left : (after : Option ObjId) (x : R) (rs : List R) → NumbersRise number rs → Some x ≡ next after rs → length (left (Some (number x)) rs) < length (left after rs)
  fewer_left after x rs rise found = subst (λ l. length (left (Some (number x)) rs) < length l) (sym (next_left after x rs rise (sym found))) (omega arith)

  module _ {B : Type 0} (f : B → R → B) (after : Option ObjId) (rs : List R) (so_far whole : B) (is : fold f so_far (left after rs) ≡ whole) where
    -- where there is no next one the fold is whole
    pub fold_whole : None ≡ next after rs → so_far ≡ whole
    fold_whole none = ap (fold f so_far) (sym (none_left after rs (sym none))) ∙ is

    -- with the next one it goes on
    pub fold_next : (x : R) → NumbersRise number rs → Some x ≡ next after rs → (more : B) → more ≡ f so_far x → fold f more (left (Some (number x)) rs) ≡ whole
    fold_next x rise found more with_it = ap (λ b. fold f b (left (Some (number x)) rs)) with_it ∙ ap (fold f so_far) (sym (next_left after x rs rise (sym found))) ∙ is

  -- the first of those that are left that passes another test: the next one, where it does, or one of those after it
  module _ (q : R → Bool) (after : Option ObjId) (rs : List R) (whole : Option R) (is : find q (left after rs) ≡ whole) where
    pub find_whole : None ≡ next after rs → None ≡ whole
    find_whole none = ap (find q) (sym (none_left after rs (sym none))) ∙ is

    pub find_here : (x : R) → NumbersRise number rs → Some x ≡ next after rs → q x ≡ true → Some x ≡ whole
    find_here x rise found passes = ap (λ b. cond b (Some x) (find q (left (Some (number x)) rs))) (sym passes) ∙ ap (find q) (sym (next_left after x rs rise (sym found))) ∙ is

    pub find_next : (x : R) → NumbersRise number rs → Some x ≡ next after rs → q x ≡ false → find q (left (Some (number x)) rs) ≡ whole
    find_next x rise found fails = ap (λ b. cond b (Some x) (find q (left (Some (number x)) rs))) (sym fails) ∙ ap (find q) (sym (next_left after x rs rise (sym found))) ∙ is
