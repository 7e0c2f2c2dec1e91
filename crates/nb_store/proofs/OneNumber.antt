-- A number more in a list, or less, and a record changed at its place.
use Rattle.std.proofs.Common.{◌≡◌, ℕ, ◌<◌, ◌+◌, ◌-◌, ◌==◌, suc, zero, Bool, true, false, cond, not, ◌&&◌, ◌||◌, List, [], ◌∷◌, ◌++◌, append-nil, Some, None, length, take, drop, slice_get, nat_eq, nat_lt, refl, sym, ap, ◌∙◌, subst, arith}
use Rattle.std.proofs.Math.Seq.{take-append_seam}
use Rattle.std.proofs.lemmas.Bool.{and_from, ltb-true}
use Rattle.std.proofs.lemmas.Bool.Decides.{nat_tests}
use Rattle.std.proofs.lemmas.List.{length-append, length-map, length-take-le}
use Rattle.std.proofs.lemmas.List.Elements.{filter-append}
use Rattle.std.proofs.lemmas.List.Folds.{list_any-append}
use Rattle.std.proofs.lemmas.Option.{slice_get_within, same_Some}
use Rattle.std.specs.Cmp.Lexicographic.{pointwise}
use Rattle.std.specs.List.{position, position_or_len}
use Rattle.nv_base.specs.declared.object.ObjId.{ObjId}
use Rattle.nv_table.specs.Swapped.{Swap, differs, differs_from, fits}
use Rattle.nv_table.specs.Table.{NumbersRise, has_number, record_of, with_exchanged}
use Rattle.nv_table.proofs.Undone.{found_number}
use Rattle.nb_records.specs.Longer.{same_number, has_more, lists_more, named_longer}
use Rattle.nb_records.specs.Tags.{named_tags}
use Rattle.nb_records.specs.declared.tag.Tag.TheVariants.{Lists}
use Rattle.nb_model.specs.Belongs.{is_among}
use Rattle.nb_model.specs.Effect.{each_where, with_number, without}
use Rattle.nb_model.specs.Network.{same}
use Rattle.nb_store.specs.inner.Only.{IsOnly}
use Rattle.nb_store.proofs.PlacedRecords.{placed, none_changed, changed_at}

-- ---- the parts of a list, before a number and after it

one_number : (a b : ObjId) → same a b ≡ true → a ≡ b
one_number a b e = ap (λ (k : ℕ). let n : ObjId = record { 0 = k } in n) (grind (arith, nat_tests, e))

here : (before after : List ObjId) (n : ObjId) → slice_get (before ++ n ∷ after) (length before) ≡ Some n
here [] after n = refl
here (x ∷ before) after n = here before after n

rest : (before after : List ObjId) (n : ObjId) → drop (suc (length before)) (before ++ n ∷ after) ≡ after
rest [] after n = refl
rest (x ∷ before) after n = rest before after n

back : (before after : List ObjId) → drop (length before) (before ++ after) ≡ after
back [] after = refl
back (x ∷ before) after = back before after

cut_at : (l : List ObjId) (at : ℕ) (n : ObjId) → slice_get l at ≡ Some n → l ≡ take at l ++ n ∷ drop (suc at) l
cut_at [] at n e = absurd (cc)
cut_at (x ∷ l) zero n e = ap (λ (m : ObjId). m ∷ l) (same_Some x n e)
cut_at (x ∷ l) (suc at) n e = ap (λ m. x ∷ m) (cut_at l at n e)

-- ---- one list is longer by a number than another

same_bytes : (l : List ℕ) → pointwise nat_eq l l ≡ true
same_bytes [] = refl
same_bytes (x ∷ l) = let e : nat_eq x x ≡ true = grind (arith, nat_tests) in ap (λ b. b && pointwise nat_eq l l) e ∙ same_bytes l

same_numbers : (l : List ObjId) → pointwise same_number l l ≡ true
same_numbers [] = refl
same_numbers (x ∷ l) = let e : same_number x x ≡ true = grind (arith, nat_tests) in ap (λ b. b && pointwise same_number l l) e ∙ same_numbers l

as_same : (xs ys : List ObjId) → xs ≡ ys → pointwise same_number xs ys ≡ true
as_same xs ys e = ap (λ l. pointwise same_number l ys) e ∙ same_numbers ys

more_at : (before after : List ObjId) (n : ObjId) → is_among n (before ++ after) ≡ false → lists_more (before ++ n ∷ after) (before ++ after) (length before) ≡ true
more_at before after n new =
    let long = length-append before (n ∷ after) in
    let short = length-append before after in
    let one : length before + 1 ≡ suc (length before) = omega arith in
    let sized : (length (before ++ n ∷ after) == length (before ++ after) + 1) ≡ true = grind (arith, nat_tests, long, short) in
    ap (λ o. has_more o (before ++ n ∷ after) (before ++ after) (length before)) (here before after n)
    ∙ and_from _ _ sized
    (and_from _ _ (as_same _ _ (take-append_seam before (n ∷ after) ∙ sym (take-append_seam before after)))
    (and_from _ _ (as_same _ _ (ap (λ k. drop k (before ++ n ∷ after)) one ∙ rest before after n ∙ sym (back before after))) (ap not new)))

-- of records with a name
named_more : (name : List ℕ) (before after : List ObjId) (n : ObjId) → is_among n (before ++ after) ≡ false → named_longer name (before ++ n ∷ after) name (before ++ after) (length before + 1) ≡ true
named_more name before after n new =
    let above : nat_lt 0 (length before + 1) ≡ true = grind (arith, nat_tests) in
    let less : length before + 1 - 1 ≡ length before = omega arith in
    and_from _ _ above (and_from _ _ (same_bytes name) (ap (lists_more (before ++ n ∷ after) (before ++ after)) less ∙ more_at before after n new))

more_last : (name : List ℕ) (l : List ObjId) (n : ObjId) → is_among n l ≡ false → named_longer name (l ++ n ∷ []) name l (length l + 1) ≡ true
more_last name l n new = subst (λ short. named_longer name (l ++ n ∷ []) name short (length l + 1) ≡ true) (append-nil l) (named_more name l [] n (ap (is_among n) (append-nil l) ∙ new))

-- the place of the last number among the tags
pub last_within : (name : List ℕ) (l : List ObjId) (n : ObjId) → length l + 1 < length (named_tags name (l ++ n ∷ []))
last_within name l n =
    let long = length-append l (n ∷ []) in
    let tags : length (named_tags name (l ++ n ∷ [])) ≡ suc (length (l ++ n ∷ [])) = ap suc (length-map (l ++ n ∷ []) Lists) in
    omega (arith, long, tags)

pub put_last : (n : ObjId) (l : List ObjId) → is_among n l ≡ false → with_number n l ≡ l ++ n ∷ []
put_last n l new = ap (λ b. cond b l (l ++ n ∷ [])) new

pub more_once : (name : List ℕ) (l : List ObjId) (n : ObjId) → is_among n l ≡ false → named_longer name (with_number n l) name l (length l + 1) ≡ true
more_once name l n new = ap (λ long. named_longer name long name l (length l + 1)) (put_last n l new) ∙ more_last name l n new

pub there_already : (n : ObjId) (l : List ObjId) → is_among n l ≡ true → with_number n l ≡ l
there_already n l old = ap (λ b. cond b l (l ++ n ∷ [])) old

-- ---- a number that is there once

none_goes : (n : ObjId) (l : List ObjId) → is_among n l ≡ false → without (same n) l ≡ l
none_goes n [] none = refl
none_goes n (x ∷ l) none = by (same n x) none (none_goes n l)
  where
    by : (b : Bool) → (b || is_among n l) ≡ false → (is_among n l ≡ false → without (same n) l ≡ l) → cond (not b) (x ∷ without (same n) l) (without (same n) l) ≡ x ∷ l
    by true f more = absurd (cc)
    by false f more = ap (λ m. x ∷ m) (more f)

module _ (n : ObjId) (l : List ObjId) (at : ℕ) (only : IsOnly n l at) where
  next : at + 1 ≡ suc at
  next = omega arith

  whole : l ≡ take at l ++ n ∷ drop (at + 1) l
  whole = cut_at l at n only.here ∙ ap (λ k. take at l ++ n ∷ drop k l) (sym next)

  long : length (take at l) ≡ at
  long = let in_it = slice_get_within l at n only.here in length-take-le at l (omega (arith, in_it))

  new : is_among n (take at l ++ drop (at + 1) l) ≡ false
  new = list_any-append (same n) (take at l) (drop (at + 1) l) ∙ ap (λ b. b || is_among n (drop (at + 1) l)) only.first ∙ only.last

  it : same n n ≡ true
  it = grind (arith, nat_tests)

  pub left_out : take at l ++ drop (at + 1) l ≡ without (same n) l
  left_out =
      sym (ap (without (same n)) whole
      ∙ filter-append (λ m. not (same n m)) (take at l) (n ∷ drop (at + 1) l)
      ∙ ap (λ b. without (same n) (take at l) ++ cond (not b) (n ∷ without (same n) (drop (at + 1) l)) (without (same n) (drop (at + 1) l))) it
      ∙ ap (λ m. m ++ without (same n) (drop (at + 1) l)) (none_goes n (take at l) only.first)
      ∙ ap (λ m. take at l ++ m) (none_goes n (drop (at + 1) l) only.last))

  pub less_once : (name : List ℕ) → named_longer name l name (without (same n) l) (at + 1) ≡ true
  less_once name =
      subst (λ short. named_longer name l name short (at + 1) ≡ true) left_out
      (subst (λ all. named_longer name all name (take at l ++ drop (at + 1) l) (at + 1) ≡ true) (sym whole)
      (ap (λ k. named_longer name (take at l ++ n ∷ drop (at + 1) l) name (take at l ++ drop (at + 1) l) (k + 1)) (sym long) ∙ named_more name (take at l) (drop (at + 1) l) n new))

-- the first place of a number
record IsFirst (n : ObjId) (l : List ObjId) (at : ℕ) : Type 0 where
  there : slice_get l at ≡ Some n
  first : is_among n (take at l) ≡ false

first_at : (n : ObjId) (l : List ObjId) → position_or_len (same n) l < length l → IsFirst n l (position_or_len (same n) l)
first_at n [] within = absurd (omega (arith, within))
first_at n (x ∷ l) within = by (same n x) refl within (first_at n l)
  where
    by : (b : Bool) → same n x ≡ b → cond (not b) (1 + position_or_len (same n) l) 0 < suc (length l) → (position_or_len (same n) l < length l → IsFirst n l (position_or_len (same n) l))
        → IsFirst n (x ∷ l) (cond (not b) (1 + position_or_len (same n) l) 0)
    by true e lt more = record { there = ap Some (sym (one_number n x e)); first = refl }
    by false e lt more =
        let one : 1 + position_or_len (same n) l ≡ suc (position_or_len (same n) l) = omega arith in
        let it = more (omega (arith, lt)) in
        subst (IsFirst n (x ∷ l)) (sym one) (record { there = it.there; first = ap (λ b. b || is_among n (take (position_or_len (same n) l) l)) e ∙ it.first })

pub only_there : (n : ObjId) (l : List ObjId) (at : ℕ) → Some at ≡ position (same n) l → is_among n (drop (at + 1) l) ≡ false → IsOnly n l at
only_there n l at found last = by (nat_lt (position_or_len (same n) l) (length l)) refl found
  where
    by : (b : Bool) → nat_lt (position_or_len (same n) l) (length l) ≡ b → Some at ≡ cond b (Some (position_or_len (same n) l)) None → IsOnly n l at
    by true e f =
        let is : at ≡ position_or_len (same n) l = same_Some _ _ f in
        let it = subst (IsFirst n l) (sym is) (first_at n l (ltb-true _ _ e)) in
        record { here = it.there; first = it.first; last = last }
    by false e f = absurd (cc)

-- ---- a record that is changed at its place

module _ {R : Type 0} (number : R → ObjId) (n : ObjId) (x : R) (rs : List R) (found : Some x ≡ record_of number n rs) (rise : NumbersRise number rs) where
  pub own_number : n ≡ number x
  own_number = found_number number n x rs (sym found)

  pub changed_there : (change : R → R) → number (change x) ≡ number x → with_exchanged number (change x) rs ≡ each_where (λ r. same n (number r)) change rs
  changed_there change keeps =
      changed_at number (has_number number n) change x rs (sym found) rise keeps
      ∙ ap (λ (m : ObjId). each_where (λ r. same m (number r)) change rs) (sym own_number)

  -- nothing changes
  pub unchanged_there : (change : R → R) → change x ≡ x → rs ≡ each_where (λ r. same n (number r)) change rs
  unchanged_there change stays =
      let place = placed number (has_number number n) x rs (sym found) rise in
      place.whole
      ∙ sym (place.exchanged x refl)
      ∙ ap (λ y. with_exchanged number y rs) (sym stays)
      ∙ changed_there change (ap number stays)

  -- what differs from it by its one number fits
  pub fits_there : (is_longer : R → R → ℕ → Bool) (s : Swap R) → number s.0 ≡ number x → differs is_longer s x ≡ true → fits number is_longer s rs ≡ true
  fits_there is_longer s same_number is =
      ap (λ (m : ObjId). differs_from is_longer s (record_of number m rs)) (same_number ∙ sym own_number) ∙ ap (differs_from is_longer s) (sym found) ∙ is

pub none_there : {R : Type 0} (number : R → ObjId) (n : ObjId) (rs : List R) (change : R → R) → None ≡ record_of number n rs → rs ≡ each_where (λ r. same n (number r)) change rs
none_there number n rs change none = sym (none_changed (λ r. same n (number r)) change rs (sym none))
