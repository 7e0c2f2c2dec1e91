-- Numbers that stand next to each other in a list.
use Rattle.std.proofs.Common.{◌≡◌, ℕ, ◌+◌, ◌-◌, ◌<◌, ◌≤◌, ◌&&◌, ◌||◌, suc, Bool, true, false, cond, not, List, [], ◌∷◌, ◌++◌, Some, None, length, take, drop, get_or, slice_get, nat_lt, refl, ap, sym, ◌∙◌, arith}
use Rattle.std.proofs.Math.Seq.{take-add}
use Rattle.std.proofs.lemmas.Bool.Decides.{nat_tests}
use Rattle.std.proofs.lemmas.List.{append-nil, length-append, length-take, length-take-le, length-drop, take-append-drop, take-take, drop-drop, get_or-drop, get_or-take}
use Rattle.std.proofs.lemmas.Option.{slice_get-get_or}
use Rattle.std.specs.Cmp.Lexicographic.{pointwise}
use Rattle.std.specs.List.{list_any, position, position_or_len}
use Rattle.nv_base.specs.declared.object.ObjId.{ObjId}

module _ (l r : List ObjId) (at : ℕ) (is : r ≡ take (length r) (drop at l)) where
  -- a run, and what follows it
  pub run_then : drop at l ≡ r ++ drop (at + length r) l
  run_then = sym (take-append-drop (length r) (drop at l)) ∙ ap (λ x. x ++ drop (length r) (drop at l)) (sym is) ∙ ap (λ x. r ++ x) (drop-drop (length r) at l)

  pub run_within : at ≤ length l → at + length r ≤ length l
  run_within le =
      let long = ap length is in
      let cut = length-take (length r) (drop at l) in
      let left = length-drop at l in
      omega (arith, long, cut, left)

  pub first_of_run : (x : ObjId) → 0 < length r → x ≡ get_or r 0 x → at < length l → slice_get l at ≡ Some x
  first_of_run x some first within =
      let zero_more : at + 0 ≡ at = omega arith in
      slice_get-get_or l at x within
      ∙ ap Some (sym (ap (λ k. get_or l k x) zero_more) ∙ sym (get_or-drop at l 0 x) ∙ sym (get_or-take (length r) (drop at l) 0 x some) ∙ ap (λ y. get_or y 0 x) (sym is) ∙ sym first)

  -- the list up to a run, the run and the rest
  pub three : l ≡ take at l ++ (r ++ drop (at + length r) l)
  three = sym (take-append-drop at l) ∙ ap (λ x. take at l ++ x) run_then

  pub up_to : take (at + length r) l ≡ take at l ++ r
  up_to = take-add at (length r) l ∙ ap (λ x. take at l ++ x) (sym is)

-- ---- a number that is looked for

or_true : (a b : Bool) → a ≡ true → (a || b) ≡ true
or_true a b e = ap (λ x. x || b) e

module _ (p : ObjId → Bool) where
  position_is : (l : List ObjId) (k : ℕ) → position_or_len p l ≡ k → k < length l → position p l ≡ Some k
  position_is l k e lt =
      let test : nat_lt k (length l) ≡ true = grind (arith, nat_tests, lt) in
      ap (λ n. cond (nat_lt n (length l)) (Some n) None) e ∙ ap (λ b. cond b (Some k) None) test

  after : (a l : List ObjId) → list_any p a ≡ false → position_or_len p (a ++ l) ≡ length a + position_or_len p l
  after [] l none = omega arith
  after (x ∷ a) l none = by (p x) none (after a l)
    where
      by : (b : Bool) → (b || list_any p a) ≡ false → (list_any p a ≡ false → position_or_len p (a ++ l) ≡ length a + position_or_len p l)
          → cond (not b) (1 + position_or_len p (a ++ l)) 0 ≡ suc (length a) + position_or_len p l
      by true f more = absurd (cc)
      by false f more = let e = more f in omega (arith, e)

  front : (r s : List ObjId) → list_any p r ≡ true → position_or_len p (r ++ s) ≡ position_or_len p r
  front [] s some = absurd (cc)
  front (x ∷ r) s some = by (p x) some (front r s)
    where
      by : (b : Bool) → (b || list_any p r) ≡ true → (list_any p r ≡ true → position_or_len p (r ++ s) ≡ position_or_len p r)
          → cond (not b) (1 + position_or_len p (r ++ s)) 0 ≡ cond (not b) (1 + position_or_len p r) 0
      by true f more = refl
      by false f more = ap (λ n. 1 + n) (more f)

  within : (r : List ObjId) → list_any p r ≡ true → position_or_len p r < length r
  within [] some = absurd (cc)
  within (x ∷ r) some = by (p x) some (within r)
    where
      by : (b : Bool) → (b || list_any p r) ≡ true → (list_any p r ≡ true → position_or_len p r < length r) → cond (not b) (1 + position_or_len p r) 0 < suc (length r)
      by true f more = omega arith
      by false f more = let e = more f in omega (arith, e)

  -- it stands in a run
  pub near_is : (r : List ObjId) → list_any p r ≡ true → position p r ≡ Some (position_or_len p r)
  near_is r some = position_is r (position_or_len p r) refl (within r some)

  pub near_within : (r : List ObjId) (i : ℕ) → list_any p r ≡ true → Some i ≡ position p r → i < length r
  near_within r i some e =
      let both : Some i ≡ Some (position_or_len p r) = e ∙ near_is r some in
      let same : i ≡ position_or_len p r = cc in
      let lt = within r some in
      omega (arith, same, lt)

  -- it stands in a run, and not before it
  pub place_is : (l a r s : List ObjId) (at i : ℕ) → l ≡ a ++ (r ++ s) → length a ≡ at → list_any p a ≡ false → list_any p r ≡ true → Some i ≡ position p r → Some (at + i) ≡ position p l
  place_is l a r s at i whole sized none some e =
      let both : Some i ≡ Some (position_or_len p r) = e ∙ near_is r some in
      let same : i ≡ position_or_len p r = cc in
      let lt = within r some in
      let first = length-append a (r ++ s) in
      let second = length-append r s in
      let far = after a (r ++ s) none in
      let near = front r s some in
      sym (ap (position p) whole ∙ position_is (a ++ (r ++ s)) (at + i) (omega (arith, far, near, same, sized)) (omega (arith, first, second, lt, same, sized)))

  pub none_there : (l : List ObjId) → list_any p l ≡ false → None ≡ position p l
  none_there l none =
      let far = ap (position_or_len p) (sym (append-nil l)) ∙ after l [] none in
      let end : position_or_len p l ≡ length l = omega (arith, far) in
      let test : nat_lt (length l) (length l) ≡ false = grind (arith, nat_tests) in
      sym (ap (λ n. cond (nat_lt n (length l)) (Some n) None) end ∙ ap (λ b. cond b (Some (length l)) None) test)

-- ---- two lists

module _ (q : ObjId → ObjId → Bool) where
  both_parts : (a b x y : List ObjId) → length a ≡ length b → pointwise q (a ++ x) (b ++ y) ≡ (pointwise q a b && pointwise q x y)
  both_parts [] [] x y e = refl
  both_parts [] (m ∷ b) x y e = absurd (omega (arith, e))
  both_parts (n ∷ a) [] x y e = absurd (omega (arith, e))
  both_parts (n ∷ a) (m ∷ b) x y e = ap (λ c. q n m && c) (both_parts a b x y (omega (arith, e))) ∙ turn (q n m) (pointwise q a b) (pointwise q x y)
    where
      turn : (c d f : Bool) → (c && (d && f)) ≡ ((c && d) && f)
      turn true d f = refl
      turn false d f = refl

  -- lists of other lengths differ
  pub unlike : (a b : List ObjId) → (length a ≡ length b → ⊥) → false ≡ pointwise q a b
  unlike [] [] e = absurd (e refl)
  unlike [] (m ∷ b) e = refl
  unlike (n ∷ a) [] e = refl
  unlike (n ∷ a) (m ∷ b) e = by (q n m) (unlike a b (λ f. e (omega (arith, f))))
    where
      by : (c : Bool) → false ≡ pointwise q a b → false ≡ (c && pointwise q a b)
      by true f = f
      by false f = refl

  module _ (A B : List ObjId) (done size : ℕ) (own : done + size ≤ length A) (others : done + size ≤ length B) (so_far : pointwise q (take done A) (take done B) ≡ true) where
    -- some more are compared
    pub agree_more : pointwise q (take (done + size) A) (take (done + size) B) ≡ pointwise q (take size (drop done A)) (take size (drop done B))
    agree_more =
        let left = length-take-le done A (omega arith) in
        let right = length-take-le done B (omega arith) in
        ap (λ l. pointwise q l (take (done + size) B)) (take-add done size A)
        ∙ ap (λ l. pointwise q (take done A ++ take size (drop done A)) l) (take-add done size B)
        ∙ both_parts (take done A) (take done B) (take size (drop done A)) (take size (drop done B)) (omega (arith, left, right))
        ∙ ap (λ c. c && pointwise q (take size (drop done A)) (take size (drop done B))) so_far

    -- some that differ
    pub agree_not : (count : ℕ) → done + size ≤ count → pointwise q (take size (drop done A)) (take size (drop done B)) ≡ false → false ≡ pointwise q (take count A) (take count B)
    agree_not count le differ =
        let whole : count ≡ (done + size) + (count - (done + size)) = omega arith in
        let left = length-take-le (done + size) A own in
        let right = length-take-le (done + size) B others in
        sym (ap (λ n. pointwise q (take n A) (take n B)) whole
        ∙ ap (λ l. pointwise q l (take ((done + size) + (count - (done + size))) B)) (take-add (done + size) (count - (done + size)) A)
        ∙ ap (λ l. pointwise q (take (done + size) A ++ take (count - (done + size)) (drop (done + size) A)) l) (take-add (done + size) (count - (done + size)) B)
        ∙ both_parts (take (done + size) A) (take (done + size) B) _ _ (omega (arith, left, right))
        ∙ ap (λ c. c && pointwise q (take (count - (done + size)) (drop (done + size) A)) (take (count - (done + size)) (drop (done + size) B))) (agree_more ∙ differ))

-- a front of a run is one of the list from there on
pub front_of_run : (l r : List ObjId) (at done size : ℕ) → r ≡ take (length r) (drop (at + done) l) → size ≤ length r → take size r ≡ take size (drop done (drop at l))
front_of_run l r at done size is le =
    ap (take size) is ∙ take-take size (length r) (drop (at + done) l) le ∙ ap (take size) (sym (drop-drop done at l))
