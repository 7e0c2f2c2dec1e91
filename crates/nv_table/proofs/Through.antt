-- Records that are gone through by rising number: those that are left after a number.
use Rattle.std.proofs.Common.{◌≡◌, ◌<◌, Bool, true, false, cond, nat_lt, ◌&&◌, ◌||◌, List, [], ◌∷◌, ◌++◌, length, append_assoc, append-nil, arith, refl, sym, ap, ◌∙◌, subst}
use Rattle.std.proofs.lemmas.Bool.{ltb-true, lt-ltb}
use Rattle.std.proofs.lemmas.Bool.Decides.{nat_tests}
use Rattle.std.proofs.lemmas.Option.{same_Some}
use Rattle.std.specs.Prelude.{Option, Some, None, filter, find}
use Rattle.std.specs.List.{AllByRecursion, flat_map, list_any}
use Rattle.nv_base.specs.declared.object.ObjId.{ObjId}
use Rattle.nv_table.specs.Table.{NumbersRise, is_after, record_after}

-- a number above one that is above another is above that one
after_more : (after : Option ObjId) (n m : ObjId) → n.0 < m.0 → is_after after n ≡ true → is_after after m ≡ true
after_more None n m above is = refl
after_more (Some low) n m above is = lt-ltb low.0 m.0 (omega (arith, above, ltb-true low.0 n.0 is))

not_above : (n m : ObjId) → n.0 < m.0 → nat_lt m.0 n.0 ≡ false
not_above n m above = grind (arith, nat_tests, above)

not_itself : (n : ObjId) → nat_lt n.0 n.0 ≡ false
not_itself n = grind (arith, nat_tests)

-- what holds of all holds of those that pass
every_kept : {R : Type 0} (P : R → Type 0) (p : R → Bool) (rs : List R) → AllByRecursion P rs → AllByRecursion P (filter p rs)
every_kept P p [] all = tt
every_kept {R} P p (r ∷ rs) all = by (p r) (every_kept P p rs all.1)
  where
    by : (b : Bool) → AllByRecursion P (filter p rs) → AllByRecursion P (cond b (r ∷ filter p rs) (filter p rs))
    by true rest = (all.0, rest)
    by false rest = rest

-- what holds of all holds of the one that is found
found_one : {R : Type 0} (P : R → Type 0) (p : R → Bool) (rs : List R) (x : R) → AllByRecursion P rs → find p rs ≡ Some x → P x
found_one P p [] x all found = absurd (cc)
found_one {R} P p (r ∷ rs) x all found = by (p r) found (found_one P p rs x all.1)
  where
    by : (b : Bool) → cond b (Some r) (find p rs) ≡ Some x → (find p rs ≡ Some x → P x) → P x
    by true is rest = subst P (same_Some r x is) all.0
    by false is rest = rest is

module _ {R : Type 0} (number : R → ObjId) where
  -- those that are left after a number, or all where none is given
  abbrev pub left_after : Option ObjId → List R → List R
  left_after after records = filter (λ r. is_after after (number r)) records

  -- at the beginning all are
  pub all_left : (rs : List R) → left_after None rs ≡ rs
  all_left [] = refl
  all_left (r ∷ rs) = ap (λ more. r ∷ more) (all_left rs)

  -- where no record is found none is left
  pub none_left : (after : Option ObjId) (rs : List R) → record_after number after rs ≡ None → left_after after rs ≡ []
  none_left after [] none = refl
  none_left after (r ∷ rs) none = by (is_after after (number r)) none (none_left after rs)
    where
      by : (b : Bool) → cond b (Some r) (record_after number after rs) ≡ None → (record_after number after rs ≡ None → left_after after rs ≡ []) → cond b (r ∷ left_after after rs) (left_after after rs) ≡ []
      by true is rest = absurd (cc)
      by false is rest = rest is

  -- records of numbers above one that is left are left
  above_left : (after : Option ObjId) (n : ObjId) (rs : List R) → is_after after n ≡ true → AllByRecursion (λ r. n.0 < (number r).0) rs → left_after after rs ≡ rs
  above_left after n [] is all = refl
  above_left after n (r ∷ rs) is all = rw (after_more after n (number r) all.0 is) (ap (λ more. r ∷ more) (above_left after n rs is all.1))

  own_left : (n : ObjId) (rs : List R) → AllByRecursion (λ r. n.0 < (number r).0) rs → left_after (Some n) rs ≡ rs
  own_left n [] all = refl
  own_left n (r ∷ rs) all = rw (lt-ltb n.0 (number r).0 all.0) (ap (λ more. r ∷ more) (own_left n rs all.1))

  -- the record that is found is the first of those that are left, and the others are left after it
  pub one_left : (after : Option ObjId) (rs : List R) (x : R) → NumbersRise number rs → record_after number after rs ≡ Some x → left_after after rs ≡ x ∷ left_after (Some (number x)) rs
  one_left after [] x rise found = absurd (cc)
  one_left after (r ∷ rs) x rise found = by (is_after after (number r)) refl found (one_left after rs x rise.1)
    where
      first : is_after after (number r) ≡ true → r ∷ left_after after rs ≡ r ∷ left_after (Some (number r)) (r ∷ rs)
      first is = rw (not_itself (number r)) (ap (λ more. r ∷ more) (above_left after (number r) rs is rise.0 ∙ sym (own_left (number r) rs rise.0)))

      later : record_after number after rs ≡ Some x → left_after after rs ≡ x ∷ left_after (Some (number x)) rs → left_after after rs ≡ x ∷ left_after (Some (number x)) (r ∷ rs)
      later there rest =
          let above : (number r).0 < (number x).0 = found_one (λ y. (number r).0 < (number y).0) (λ y. is_after after (number y)) rs x rise.0 there in rw (not_above (number r) (number x) above) rest

      by : (b : Bool) → is_after after (number r) ≡ b → cond b (Some r) (record_after number after rs) ≡ Some x
          → (record_after number after rs ≡ Some x → left_after after rs ≡ x ∷ left_after (Some (number x)) rs) → cond b (r ∷ left_after after rs) (left_after after rs) ≡ x ∷ left_after (Some (number x)) (r ∷ rs)
      by true is at rest = subst (λ y. r ∷ left_after after rs ≡ y ∷ left_after (Some (number y)) (r ∷ rs)) (same_Some r x at) (first is)
      by false is at rest = later at (rest at)

  module _ {Y : Type 0} (give : R → List Y) (after : Option ObjId) (rs : List R) (made whole : List Y) (is : made ++ flat_map give (left_after after rs) ≡ whole) where
    -- where none is left, what was given of the records is all
    pub is_whole : record_after number after rs ≡ None → made ≡ whole
    is_whole none = sym (append-nil made) ∙ ap (λ rest. made ++ flat_map give rest) (sym (none_left after rs none)) ∙ is

    module _ (x : R) (rise : NumbersRise number rs) (found : record_after number after rs ≡ Some x) where
      -- what the next record gives comes after what was given
      pub with_next : (made ++ give x) ++ flat_map give (left_after (Some (number x)) rs) ≡ whole
      with_next = append_assoc made (give x) (flat_map give (left_after (Some (number x)) rs)) ∙ ap (λ rest. made ++ flat_map give rest) (sym (one_left after rs x rise found)) ∙ is

  -- and fewer are left
  pub fewer_left : (after : Option ObjId) (rs : List R) (x : R) → NumbersRise number rs → record_after number after rs ≡ Some x → length (left_after (Some (number x)) rs) < length (left_after after rs)
  fewer_left after rs x rise found = subst (λ l. length (left_after (Some (number x)) rs) < length l) (sym (one_left after rs x rise found)) (omega arith)

  module _ (q : R → Bool) (after : Option ObjId) (rs : List R) (any : Bool) (is : list_any q (left_after after rs) ≡ any) where
    -- where none is left, none passes
    pub none_passes : record_after number after rs ≡ None → false ≡ any
    none_passes none = ap (list_any q) (sym (none_left after rs none)) ∙ is

    module _ (x : R) (rise : NumbersRise number rs) (found : record_after number after rs ≡ Some x) where
      first_or_left : (q x || list_any q (left_after (Some (number x)) rs)) ≡ any
      first_or_left = ap (list_any q) (sym (one_left after rs x rise found)) ∙ is

      -- where the next record passes, one does
      pub one_passes : q x ≡ true → true ≡ any
      one_passes passes = ap (λ b. b || list_any q (left_after (Some (number x)) rs)) (sym passes) ∙ first_or_left

      -- and where it does not, it depends on those after it
      pub next_fails : q x ≡ false → list_any q (left_after (Some (number x)) rs) ≡ any
      next_fails fails = ap (λ b. b || list_any q (left_after (Some (number x)) rs)) (sym fails) ∙ first_or_left

-- ---- records that pass a test

module _ {R : Type 0} (number : R → ObjId) (p : R → Bool) where
  -- a search for one of these is a search among them
  among_these : (after : Option ObjId) (rs : List R) → find (λ r. is_after after (number r) && p r) rs ≡ record_after number after (filter p rs)
  among_these after [] = refl
  among_these after (r ∷ rs) = by (is_after after (number r)) (p r) refl (among_these after rs)
    where
      found : Option R
      found = find (λ r. is_after after (number r) && p r) rs

      by : (a b : Bool) → is_after after (number r) ≡ a → found ≡ record_after number after (filter p rs) → cond (a && b) (Some r) found ≡ record_after number after (cond b (r ∷ filter p rs) (filter p rs))
      by true true is rest = rw is refl
      by false true is rest = rw is rest
      by true false is rest = rest
      by false false is rest = rest

  -- their numbers rise
  rise_among : (rs : List R) → NumbersRise number rs → NumbersRise number (filter p rs)
  rise_among [] rise = tt
  rise_among (r ∷ rs) rise = by (p r) (rise_among rs rise.1)
    where
      by : (b : Bool) → NumbersRise number (filter p rs) → NumbersRise number (cond b (r ∷ filter p rs) (filter p rs))
      by true rest = (every_kept (λ x. (number r).0 < (number x).0) p rs rise.0, rest)
      by false rest = rest

  -- those of them that are left after a number
  abbrev pub these_after : Option ObjId → List R → List R
  these_after after rs = left_after number after (filter p rs)

  module _ (after : Option ObjId) (rs : List R) where
    module _ (none : None ≡ find (λ r. is_after after (number r) && p r) rs) where
      none_among : record_after number after (filter p rs) ≡ None
      none_among = sym (none ∙ among_these after rs)

      pub these_whole : {Y : Type 0} (give : R → List Y) (made whole : List Y) → made ++ flat_map give (these_after after rs) ≡ whole → made ≡ whole
      these_whole give made whole is = is_whole number give after (filter p rs) made whole is none_among

      pub these_none : (q : R → Bool) (any : Bool) → list_any q (these_after after rs) ≡ any → false ≡ any
      these_none q any is = none_passes number q after (filter p rs) any is none_among

    module _ (x : R) (rise : NumbersRise number rs) (found : Some x ≡ find (λ r. is_after after (number r) && p r) rs) where
      found_among : record_after number after (filter p rs) ≡ Some x
      found_among = sym (found ∙ among_these after rs)

      pub these_fewer : length (these_after (Some (number x)) rs) < length (these_after after rs)
      these_fewer = fewer_left number after (filter p rs) x (rise_among rs rise) found_among

      pub these_next : {Y : Type 0} (give : R → List Y) (made whole : List Y) → made ++ flat_map give (these_after after rs) ≡ whole → (made ++ give x) ++ flat_map give (these_after (Some (number x)) rs) ≡ whole
      these_next give made whole is = with_next number give after (filter p rs) made whole is x (rise_among rs rise) found_among

      pub these_pass : (q : R → Bool) (any : Bool) → list_any q (these_after after rs) ≡ any → q x ≡ true → true ≡ any
      these_pass q any is passes = one_passes number q after (filter p rs) any is x (rise_among rs rise) found_among passes

      pub these_fail : (q : R → Bool) (any : Bool) → list_any q (these_after after rs) ≡ any → q x ≡ false → list_any q (these_after (Some (number x)) rs) ≡ any
      these_fail q any is fails = next_fails number q after (filter p rs) any is x (rise_among rs rise) found_among fails

      -- one passes where this one does, or one after it
      pub these_or : (q : R → Bool) → (q x || list_any q (these_after (Some (number x)) rs)) ≡ list_any q (these_after after rs)
      these_or q = first_or_left number q after (filter p rs) (list_any q (these_after after rs)) refl x (rise_among rs rise) found_among
