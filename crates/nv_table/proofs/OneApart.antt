-- A record in place of another of its number that has one tag more, or one less.
use Rattle.std.proofs.Common.{◌≡◌, ℕ, ◌+◌, ◌-◌, ◌<◌, ◌≤◌, ◌==◌, Bool, true, false, cond, not, ◌&&◌, ◌||◌, List, [], ◌∷◌, arith, refl, sym, ap, ◌∙◌, subst, None, Some, Option, slice_get}
use borrow.Author.Tests.{eqb-true, le-ltb, lt-ltb}
use Rattle.std.proofs.lemmas.Bool.{and_parts, false≢true}
use Rattle.std.proofs.lemmas.Cmp.{eq_by_cmp_equiv, nat_cmp_total}
use Rattle.std.proofs.lemmas.Map.Lookups.{CmpEqualImpliesEq}
use Rattle.std.specs.Cmp.{IsTotalOrder, unsigned_tied}
use Rattle.std.specs.List.{AllByRecursion}
use Rattle.std.specs.Ordering.{is_eq, ordering_then}
use Rattle.std.specs.declared.cmp.Ordering.{Ordering}
use Rattle.std.specs.declared.cmp.Ordering.TheVariants.{Less, Equal, Greater}
use Rattle.nv_base.specs.declared.object.ObjId.{ObjId}
use Rattle.nv_map.specs.Map.{KeysRise, value_at, with_entry, with_value}
use Rattle.nv_map.proofs.Changes.{rise_with_entry}
use Rattle.nv_map.proofs.Rising.{rise_none}
use Rattle.nv_table.specs.Swapped.{IsLonger, fits, differs_from}
use Rattle.nv_table.specs.Table.{has_number, has_tag, order_at, NumbersRise, record_of, with_record, without_number, with_exchanged, unkeyed}
use Rattle.nv_table.specs.inner.Index.{Mark, mark_cmp, number_cmp, has_mark, is_mark_of, is_mark, is_own_mark, HasMarks, IsLeft, IsMoved, AreApart, keyed, IsLean, IsIndexed, IsCounted, Fits}
use Rattle.nv_table.proofs.Edited.{not_marked, enough, taken_counted, put_counted}
use Rattle.nv_table.proofs.Keyed.{pair, value_keyed, value_numbered, all_stay, above_apart, numbered_as}
use Rattle.nv_table.specs.inner.Probes.{mark_total}
use Rattle.nv_table.proofs.Moves.{has_with}
use Rattle.nv_table.proofs.Undone.{rise_exchanged, taken_back, found_number, any_with, all_found}

-- ---- a value put in place of another one

module _ {R : Type 0} (number : R → ObjId) where
  goes_first : (r : R) (rs : List R) → AllByRecursion (λ x. (number r).0 < (number x).0) rs → with_record number r rs ≡ r ∷ rs
  goes_first r [] a = refl
  goes_first r (x ∷ rs) a = ap (λ b. cond b (r ∷ x ∷ rs) (x ∷ with_record number r rs)) (lt-ltb _ _ a.0)

  all_above : (n m : ℕ) → n ≡ m → (rs : List R) → AllByRecursion (λ x. n < (number x).0) rs → AllByRecursion (λ x. m < (number x).0) rs
  all_above n m e [] a = tt
  all_above n m e (x ∷ rs) a = (omega (arith, e, a.0), all_above n m e rs a.1)

  exchanged_keyed : (r held : R) (rs : List R) → NumbersRise number rs → record_of number (number r) rs ≡ Some held → with_value number_cmp (number r) r (keyed number rs) ≡ keyed number (with_exchanged number r rs)
  exchanged_keyed r held [] rise e = absurd (cc)
  exchanged_keyed r held (x ∷ rs) rise e =
      ap (λ b. cond b ((number x, r) ∷ keyed number rs) (pair number x ∷ with_value number_cmp (number r) r (keyed number rs))) (unsigned_tied (number r).0 (number x).0)
      ∙ by ((number r).0 == (number x).0) refl e (exchanged_keyed r held rs rise.1)
    where
      by : (b : Bool) → ((number r).0 == (number x).0) ≡ b → cond b (Some x) (record_of number (number r) rs) ≡ Some held
          → (record_of number (number r) rs ≡ Some held → with_value number_cmp (number r) r (keyed number rs) ≡ keyed number (with_exchanged number r rs))
          → cond b ((number x, r) ∷ keyed number rs) (pair number x ∷ with_value number_cmp (number r) r (keyed number rs)) ≡ keyed number (with_record number r (cond (not b) (x ∷ without_number number (number r) rs) (without_number number (number r) rs)))
      by true t f rest =
          let same : (number r).0 ≡ (number x).0 = eqb-true _ _ t in
          let key : number x ≡ number r = ap (λ (k : ℕ). let m : ObjId = record { 0 = k } in m) (sym same) in
          ap (λ (k : ObjId). (k, r) ∷ keyed number rs) key
          ∙ sym (ap (keyed number) (ap (with_record number r) (all_stay number (number r) rs (above_apart number (number r) (number x).0 same rs rise.0)) ∙ goes_first r rs (all_above _ _ (sym same) rs rise.0)))
      by false t f rest =
          let above : (number x).0 < (number held).0 = all_found number (λ y. (number x).0 < (number y).0) (number r) held rs rise.0 f in
          let at : (number r).0 ≡ (number held).0 = ap (λ (m : ObjId). m.0) (found_number number (number r) held rs f) in
          ap (λ l. pair number x ∷ l) (rest f)
          ∙ sym (ap (λ b. keyed number (cond b (r ∷ x ∷ without_number number (number r) rs) (x ∷ with_record number r (without_number number (number r) rs)))) (le-ltb _ _ (omega (arith, above, at))))

-- ---- the marks

module _ {R T : Type 0} (number : R → ObjId) (tags : R → List T) {cmp : T → T → Ordering} (long short : R) (place : ℕ) (is : IsLonger tags cmp long short place) (same : number long ≡ number short) where
  own_parts : (mark : Mark T) → is_own_mark number tags cmp long place mark ≡ (is_eq (order_at cmp (slice_get (tags long) place) mark.0) && has_number number mark.1 long)
  own_parts mark = both (order_at cmp (slice_get (tags long) place) mark.0) ∙ ap (λ b. is_eq (order_at cmp (slice_get (tags long) place) mark.0) && b) ((eq_by_cmp_equiv nat_cmp_total).symm (number long).0 mark.1.0 ∙ unsigned_tied mark.1.0 (number long).0)
    where
      both : (r : Ordering) → is_eq (ordering_then r (number_cmp (number long) mark.1)) ≡ (is_eq r && is_eq (number_cmp (number long) mark.1))
      both Less = refl
      both Equal = refl
      both Greater = refl

  -- the marks of the longer one
  long_is : (mark : Mark T) → is_mark_of number tags cmp long mark ≡ (is_own_mark number tags cmp long place mark || is_mark_of number tags cmp short mark)
  long_is mark =
      ap (λ b. has_number number mark.1 long && b) (is.more mark.0)
      ∙ turn (has_number number mark.1 long) (is_eq (order_at cmp (slice_get (tags long) place) mark.0)) (has_tag tags (cmp mark.0) short)
      ∙ ap (λ b. b || (has_number number mark.1 long && has_tag tags (cmp mark.0) short)) (sym (own_parts mark))
      ∙ ap (λ (n : ObjId). is_own_mark number tags cmp long place mark || ((mark.1.0 == n.0) && has_tag tags (cmp mark.0) short)) same
    where
      turn : (a c u : Bool) → (a && (c || u)) ≡ ((c && a) || (a && u))
      turn true true u = refl
      turn true false u = refl
      turn false true u = refl
      turn false false u = refl

  -- its own mark is not one of the other
  own_not_short : (mark : Mark T) → is_own_mark number tags cmp long place mark ≡ true → is_mark_of number tags cmp short mark ≡ false
  own_not_short mark own =
      ap (λ b. has_number number mark.1 short && b) (is.apart mark.0 (and_parts _ _ (sym (own_parts mark) ∙ own)).0) ∙ none (has_number number mark.1 short)
    where
      none : (a : Bool) → (a && false) ≡ false
      none true = refl
      none false = refl

  own_number : (mark : Mark T) → is_own_mark number tags cmp long place mark ≡ true → has_number number mark.1 long ≡ true
  own_number mark own = (and_parts _ _ (sym (own_parts mark) ∙ own)).1

module _ {R T : Type 0} (number : R → ObjId) (tags : R → List T) {cmp : T → T → Ordering} (r held : R) (es : List (ObjId × R)) (index : List (Mark T × Unit {0}))
    (whole : IsIndexed number tags cmp es index) (there : record_of number (number r) (unkeyed es) ≡ Some held) where
  same_number : number r ≡ number held
  same_number = found_number number (number r) held (unkeyed es) there

  -- the value is there
  pub is_there : value_at number_cmp (number r) es ≡ Some held
  is_there = ap (value_at number_cmp (number r)) whole.numbered ∙ value_keyed number (number r) (unkeyed es) ∙ there

  pub swapped_entries : with_value number_cmp (number r) r es ≡ keyed number (with_exchanged number r (unkeyed es))
  swapped_entries = ap (with_value number_cmp (number r) r) whole.numbered ∙ exchanged_keyed number r held (unkeyed es) whole.rise there

  pub swapped_records : unkeyed (with_value number_cmp (number r) r es) ≡ with_exchanged number r (unkeyed es)
  swapped_records = (numbered_as number _ _ swapped_entries).1

  -- the marks of the other records
  abbrev others : Mark T → Bool
  others mark = is_mark number tags cmp (without_number number (number r) (unkeyed es)) mark

  marks_before : (mark : Mark T) → is_mark number tags cmp (unkeyed es) mark ≡ (is_mark_of number tags cmp held mark || others mark)
  marks_before mark =
      ap (λ l. is_mark number tags cmp l mark) (sym (taken_back number (number r) held (unkeyed es) whole.rise there))
      ∙ any_with number (λ x. is_mark_of number tags cmp x mark) held (without_number number (number r) (unkeyed es))

  marks_after : (mark : Mark T) → is_mark number tags cmp (with_exchanged number r (unkeyed es)) mark ≡ (is_mark_of number tags cmp r mark || others mark)
  marks_after mark = any_with number (λ x. is_mark_of number tags cmp x mark) r (without_number number (number r) (unkeyed es))

  indexed : (new : List (Mark T × Unit {0})) → KeysRise (mark_cmp cmp) new → ((mark : Mark T) → has_mark cmp mark new ≡ (is_mark_of number tags cmp r mark || others mark)) → IsIndexed number tags cmp (with_value number_cmp (number r) r es) new
  indexed new rise marked =
      let whole_list = numbered_as number _ _ swapped_entries in
      record {
        numbered = whole_list.0;
        rise = rw whole_list.1 (rise_exchanged number r (unkeyed es) whole.rise);
        marks_rise = rise;
        marked = λ mark. marked mark ∙ sym (marks_after mark) ∙ ap (λ l. is_mark number tags cmp l mark) (sym whole_list.1);
      }

  -- ---- where the new record is the longer one
  module _ (place : ℕ) (is : IsLonger tags cmp r held place) (marks : List (Mark T × Unit {0})) (lean : IsLean number tags cmp r place true marks) where
    abbrev own : Mark T → Bool
    own mark = is_own_mark number tags cmp r place mark

    none_of_others : (mark : Mark T) → own mark ≡ true → others mark ≡ false
    none_of_others mark o = not_marked number tags cmp (number r) (unkeyed es) mark (own_number number tags r held place is same_number mark o)

    pub longer_apart : AreApart cmp marks index
    longer_apart mark has =
        let o : own mark ≡ true = sym (lean.marked mark) ∙ has in
        whole.marked mark ∙ marks_before mark
        ∙ ap (λ b. b || others mark) (own_not_short number tags r held place is same_number mark o)
        ∙ none_of_others mark o

    pub longer_indexed : (new : List (Mark T × Unit {0})) → KeysRise (mark_cmp cmp) new → IsMoved cmp own marks index new → IsIndexed number tags cmp (with_value number_cmp (number r) r es) new
    longer_indexed new rise moved = indexed new rise (λ mark.
        moved mark
        ∙ ap (λ b. b || (has_mark cmp mark marks && own mark)) (whole.marked mark ∙ marks_before mark)
        ∙ ap (λ b. (is_mark_of number tags cmp held mark || others mark) || (b && own mark)) (lean.marked mark)
        ∙ turn (own mark) (is_mark_of number tags cmp held mark) (others mark)
        ∙ ap (λ b. b || others mark) (sym (long_is number tags r held place is same_number mark)))
      where
        turn : (o s w : Bool) → ((s || w) || (o && o)) ≡ ((o || s) || w)
        turn true true w = refl
        turn true false true = refl
        turn true false false = refl
        turn false true w = refl
        turn false false true = refl
        turn false false false = refl

    pub longer_left : (left : List (Mark T × Unit {0})) → KeysRise (mark_cmp cmp) left → IsLeft cmp own marks left → IsLean number tags cmp held place false left
    longer_left left rise is_left = record {
      marks_rise = rise;
      marked = λ mark. is_left mark ∙ ap (λ b. b && not (own mark)) (lean.marked mark) ∙ none (own mark);
    }
      where
        none : (o : Bool) → (o && not o) ≡ false
        none true = refl
        none false = refl

  -- ---- where the one that was there is the longer one
  module _ (place : ℕ) (is : IsLonger tags cmp held r place) (marks : List (Mark T × Unit {0})) (lean : IsLean number tags cmp r place false marks) where
    abbrev held_own : Mark T → Bool
    held_own mark = is_own_mark number tags cmp held place mark

    held_none_of_others : (mark : Mark T) → held_own mark ≡ true → others mark ≡ false
    held_none_of_others mark o = not_marked number tags cmp (number r) (unkeyed es) mark (ap (λ (n : ObjId). mark.1.0 == n.0) same_number ∙ own_number number tags held r place is (sym same_number) mark o)

    pub shorter_apart : AreApart cmp index marks
    shorter_apart mark has = lean.marked mark

    pub shorter_indexed : (new : List (Mark T × Unit {0})) → KeysRise (mark_cmp cmp) new → IsLeft cmp held_own index new → IsIndexed number tags cmp (with_value number_cmp (number r) r es) new
    shorter_indexed new rise is_left = indexed new rise (λ mark.
        is_left mark
        ∙ ap (λ b. b && not (held_own mark)) (whole.marked mark ∙ marks_before mark ∙ ap (λ b. b || others mark) (long_is number tags held r place is (sym same_number) mark))
        ∙ turn (held_own mark) (is_mark_of number tags cmp r mark) (others mark) (own_not_short number tags held r place is (sym same_number) mark) (held_none_of_others mark))
      where
        turn : (o s w : Bool) → (o ≡ true → s ≡ false) → (o ≡ true → w ≡ false) → (((o || s) || w) && not o) ≡ (s || w)
        turn true s w f g = sym (ap (λ b. b || w) (f refl) ∙ g refl)
        turn false true w f g = refl
        turn false false true f g = refl
        turn false false false f g = refl

    pub shorter_moved : (come : List (Mark T × Unit {0})) → KeysRise (mark_cmp cmp) come → IsMoved cmp held_own index marks come → IsLean number tags cmp held place true come
    shorter_moved come rise moved = record {
      marks_rise = rise;
      marked = λ mark.
          moved mark
          ∙ ap (λ b. b || (has_mark cmp mark index && held_own mark)) (lean.marked mark)
          ∙ ap (λ b. b && held_own mark) (whole.marked mark ∙ marks_before mark ∙ ap (λ b. b || others mark) (long_is number tags held r place is (sym same_number) mark))
          ∙ turn (held_own mark) (is_mark_of number tags cmp r mark) (others mark);
    }
      where
        turn : (o s w : Bool) → (((o || s) || w) && o) ≡ o
        turn true s w = refl
        turn false true w = refl
        turn false false true = refl
        turn false false false = refl

-- ---- how the records differ

module _ {R T : Type 0} (number : R → ObjId) (tags : R → List T) (cmp : T → T → Ordering) (is_longer : R → R → ℕ → Bool) (law : (a b : R) (k : ℕ) → is_longer a b k ≡ true → IsLonger tags cmp a b k) (r : R) (place : ℕ) (flag : Bool) where
  -- a record that fits is longer than the one of its number
  pub fits_longer : (rs : List R) → flag ≡ true → fits number is_longer (r, place, flag) rs ≡ true → (held : R) × ((record_of number (number r) rs ≡ Some held) × IsLonger tags cmp r held place)
  fits_longer rs longer fit = by (record_of number (number r) rs) refl (subst (λ b. fits number is_longer (r, place, b) rs ≡ true) longer fit)
    where
      by : (o : Option R) → record_of number (number r) rs ≡ o → differs_from is_longer (r, place, true) o ≡ true → (held : R) × ((record_of number (number r) rs ≡ Some held) × IsLonger tags cmp r held place)
      by None e f = absurd (false≢true f)
      by (Some held) e f = (held, (e, law r held place f))

  -- or shorter
  pub fits_shorter : (rs : List R) → flag ≡ false → fits number is_longer (r, place, flag) rs ≡ true → (held : R) × ((record_of number (number r) rs ≡ Some held) × IsLonger tags cmp held r place)
  fits_shorter rs shorter fit = by (record_of number (number r) rs) refl (subst (λ b. fits number is_longer (r, place, b) rs ≡ true) shorter fit)
    where
      by : (o : Option R) → record_of number (number r) rs ≡ o → differs_from is_longer (r, place, false) o ≡ true → (held : R) × ((record_of number (number r) rs ≡ Some held) × IsLonger tags cmp held r place)
      by None e f = absurd (false≢true f)
      by (Some held) e f = (held, (e, law held r place f))

  module _ (es : List (ObjId × R)) (numbered : es ≡ keyed number (unkeyed es)) (x : R) (n : ObjId) (same : n ≡ number r) (at : Some x ≡ value_at number_cmp n es) where
    found_there : record_of number (number r) (unkeyed es) ≡ Some x
    found_there = ap (λ m. record_of number m (unkeyed es)) (sym same) ∙ sym (value_numbered number es numbered n) ∙ sym at

    -- the record that is there
    pub longer_than : flag ≡ true → fits number is_longer (r, place, flag) (unkeyed es) ≡ true → (record_of number (number r) (unkeyed es) ≡ Some x) × IsLonger tags cmp r x place
    longer_than longer fit =
        let it = fits_longer (unkeyed es) longer fit in
        let is : it.0 ≡ x = let both : Some it.0 ≡ Some x = sym it.1.0 ∙ found_there in cc in
        (found_there, subst (λ y. IsLonger tags cmp r y place) is it.1.1)

    pub shorter_than : flag ≡ false → fits number is_longer (r, place, flag) (unkeyed es) ≡ true → (record_of number (number r) (unkeyed es) ≡ Some x) × IsLonger tags cmp x r place
    shorter_than shorter fit =
        let it = fits_shorter (unkeyed es) shorter fit in
        let is : it.0 ≡ x = let both : Some it.0 ≡ Some x = sym it.1.0 ∙ found_there in cc in
        (found_there, subst (λ y. IsLonger tags cmp y r place) is it.1.1)

-- ---- the counts

module _ {R : Type 0} (number : R → ObjId) (weight : R → ℕ × ℕ) (r held : R) (rs : List R) (count : ℕ) (sums : ℕ × ℕ) (rise : NumbersRise number rs) (c : IsCounted number weight rs count sums) (there : record_of number (number r) rs ≡ Some held) where
  pub enough_there : ((weight held).0 ≤ sums.0) × ((weight held).1 ≤ sums.1)
  enough_there = let it = enough number weight (number r) held rs count sums rise c there in (it.1, it.2)

  pub swapped_counted : Fits number weight r → IsCounted number weight (with_exchanged number r rs) count (sums.0 - (weight held).0 + (weight r).0, sums.1 - (weight held).1 + (weight r).1)
  swapped_counted fits =
      let some = (enough number weight (number r) held rs count sums rise c there).0 in
      let all = put_counted number weight r (without_number number (number r) rs) (count - 1) _ (taken_counted number weight (number r) held rs count sums rise c there) fits in
      let back : count - 1 + 1 ≡ count = omega (arith, some) in
      subst (λ k. IsCounted number weight (with_exchanged number r rs) k (sums.0 - (weight held).0 + (weight r).0, sums.1 - (weight held).1 + (weight r).1)) back all

-- ---- a mark alone

module _ {T : Type 0} {cmp : T → T → Ordering} (total : IsTotalOrder cmp) (exact : CmpEqualImpliesEq (mark_cmp cmp)) (tag : T) (n : ObjId) where
  pub alone_rises : KeysRise (mark_cmp cmp) (with_entry (mark_cmp cmp) ((tag, n), tt {0}) [])
  alone_rises = rise_with_entry (mark_total total) ((tag, n), tt {0}) [] (rise_none (Unit {0}) (mark_cmp cmp))

  -- it is the only one
  pub alone_marked : (o : Option T) → o ≡ Some tag → HasMarks cmp (λ mark. true && is_eq (ordering_then (order_at cmp o mark.0) (number_cmp n mark.1))) (with_entry (mark_cmp cmp) ((tag, n), tt {0}) [])
  alone_marked o e mark = has_with total exact mark (tag, n) [] ∙ same (is_eq (mark_cmp cmp (tag, n) mark)) ∙ sym (ap (λ t. is_eq (ordering_then (order_at cmp t mark.0) (number_cmp n mark.1))) e)
    where
      same : (b : Bool) → (b || false) ≡ b
      same true = refl
      same false = refl
