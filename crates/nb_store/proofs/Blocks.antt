-- A number that is looked for in a list block by block.
use Rattle.std.proofs.Common.{◌≡◌, ℕ, ◌≤◌, ◌+◌, ◌-◌, suc, zero, Bool, true, false, cond, not, ◌||◌, List, [], ◌∷◌, Option, Some, None, length, take, drop, nat_lt, refl, sym, ap, ◌∙◌, arith}
use Rattle.std.proofs.Math.Seq.{take-add}
use Rattle.std.proofs.lemmas.Bool.Decides.{nat_tests}
use Rattle.std.proofs.lemmas.List.{length-drop, take-append-drop, take_rest}
use Rattle.std.proofs.lemmas.List.Folds.{list_any-append}
use Rattle.std.specs.List.{position, position_or_len}
use Rattle.std.specs.Option.{option_map}
use Rattle.nv_base.specs.declared.object.ObjId.{ObjId}
use Rattle.nb_model.specs.Belongs.{is_among}
use Rattle.nb_model.specs.Network.{same}

or_left : (a b : Bool) → a ≡ true → (a || b) ≡ true
or_left true b e = refl
or_left false b e = absurd (cc)

or_right : (a b : Bool) → b ≡ true → (a || b) ≡ true
or_right true b e = refl
or_right false b e = e

in_two : (n : ObjId) (k : ℕ) (l : List ObjId) → is_among n l ≡ (is_among n (take k l) || is_among n (drop k l))
in_two n k l = ap (is_among n) (sym (take-append-drop k l)) ∙ list_any-append (same n) (take k l) (drop k l)

-- a block has it, so the list does
pub in_block : (n : ObjId) (l : List ObjId) (i k : ℕ) → is_among n (take k (drop i l)) ≡ true → is_among n l ≡ true
in_block n l i k there =
    in_two n i l ∙ or_right (is_among n (take i l)) _ (in_two n k (drop i l) ∙ or_left _ (is_among n (drop k (drop i l))) there)

-- neither what stands before a block nor the block has it
pub before_and_block : (n : ObjId) (l : List ObjId) (i end : ℕ) → i ≤ end → is_among n (take i l) ≡ false → is_among n (take (end - i) (drop i l)) ≡ false → is_among n (take end l) ≡ false
before_and_block n l i end le before block =
    let whole : end ≡ i + (end - i) = omega arith in
    ap (λ k. is_among n (take k l)) whole
    ∙ ap (is_among n) (take-add i (end - i) l)
    ∙ list_any-append (same n) (take i l) (take (end - i) (drop i l))
    ∙ ap (λ b. b || is_among n (take (end - i) (drop i l))) before
    ∙ block

later : (n : ObjId) (k : ℕ) (l : List ObjId) → k ≤ length l → is_among n (take k l) ≡ false → position_or_len (same n) l ≡ k + position_or_len (same n) (drop k l)
later n zero l le none = omega arith
later n (suc k) [] le none = absurd (omega (arith, le))
later n (suc k) (x ∷ l) le none = by (same n x) none (later n k l (omega (arith, le)))
  where
    by : (b : Bool) → (b || is_among n (take k l)) ≡ false → (is_among n (take k l) ≡ false → position_or_len (same n) l ≡ k + position_or_len (same n) (drop k l))
        → cond (not b) (1 + position_or_len (same n) l) 0 ≡ suc k + position_or_len (same n) (drop k l)
    by true f more = absurd (cc)
    by false f more = let e = more f in omega (arith, e)

-- its first place, counted from the place before which it does not stand
pub place_after : (n : ObjId) (l : List ObjId) (k : ℕ) → k ≤ length l → is_among n (take k l) ≡ false → (at : Option ℕ) → at ≡ position (same n) (take (length l - k) (drop k l)) → option_map (λ i. k + i) at ≡ position (same n) l
place_after n l k le none at found =
    let rest = length-drop k l in
    let long : length l ≡ k + length (drop k l) = omega (arith, rest) in
    ap (option_map (λ i. k + i)) (found ∙ ap (position (same n)) (take_rest l k))
    ∙ sym (ap (λ p. cond (nat_lt p (length l)) (Some p) None) (later n k l le none)
    ∙ ap (λ m. cond (nat_lt (k + position_or_len (same n) (drop k l)) m) (Some (k + position_or_len (same n) (drop k l))) None) long
    ∙ by (position_or_len (same n) (drop k l)) (length (drop k l)) (nat_lt (position_or_len (same n) (drop k l)) (length (drop k l))) (shifted _ _))
  where
    shifted : (p m : ℕ) → nat_lt (k + p) (k + m) ≡ nat_lt p m
    shifted p m = grind (arith, nat_tests)

    by : (p m : ℕ) (b : Bool) → nat_lt (k + p) (k + m) ≡ b → cond (nat_lt (k + p) (k + m)) (Some (k + p)) None ≡ option_map (λ i. k + i) (cond b (Some p) None)
    by p m true e = ap (λ b. cond b (Some (k + p)) None) e
    by p m false e = ap (λ b. cond b (Some (k + p)) None) e
