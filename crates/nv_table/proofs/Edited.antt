-- A table's index and its counts after each edit.
use Rattle.std.proofs.Common.{◌≡◌, ℕ, ◌+◌, ◌-◌, ◌*◌, ◌^◌, ◌<◌, ◌≤◌, ◌==◌, Bool, true, false, cond, not, ◌&&◌, ◌||◌, List, [], ◌∷◌, length, arith, refl, sym, ap, ◌∙◌, subst, None, Some, Option, sum_by}
use borrow.Author.Tests.{eqb-true}
use Rattle.std.proofs.lemmas.Bool.{and_parts}
use Rattle.std.proofs.lemmas.List.Sums.{sum_by-cons}
use Rattle.std.specs.List.{AllByRecursion}
use Rattle.std.specs.Option.{option_map}
use Rattle.std.specs.declared.cmp.Ordering.{Ordering}
use Rattle.nv_base.specs.declared.object.ObjId.{ObjId}
use Rattle.nv_map.specs.Map.{KeysRise, value_at, entry_at, with_entry, without_key}
use Rattle.nv_table.specs.Table.{has_number, has_tag, NumbersRise, record_of, with_record, without_number, unkeyed}
use Rattle.nv_table.specs.inner.Index.{Mark, mark_cmp, number_cmp, has_mark, is_mark_of, is_mark, IsLeft, IsMoved, AreApart, keyed, IsLoose, IsIndexed, IsCounted, Fits}
use Rattle.nv_table.proofs.Keyed.{pair, value_keyed, entry_keyed, put_keyed, taken_keyed, numbered_as}
use Rattle.nv_table.proofs.Undone.{rise_with, rise_without, taken_back, found_number, any_with, length_with, sum_with, length_without, sum_without, all_with, all_left, stays_by}

module _ {R T : Type 0} (number : R → ObjId) (tags : R → List T) (cmp : T → T → Ordering) where
  pub not_marked : (n : ObjId) (rs : List R) (mark : Mark T) → (mark.1.0 == n.0) ≡ true → is_mark number tags cmp (without_number number n rs) mark ≡ false
  not_marked n [] mark e = refl
  not_marked n (x ∷ rs) mark e = by (has_number number n x) refl (not_marked n rs mark e)
    where
      by : (b : Bool) → has_number number n x ≡ b → is_mark number tags cmp (without_number number n rs) mark ≡ false → is_mark number tags cmp (cond (not b) (x ∷ without_number number n rs) (without_number number n rs)) mark ≡ false
      by true h rest = rest
      by false h rest =
          let same : mark.1.0 ≡ n.0 = eqb-true _ _ e in
          ap (λ b. (b && has_tag tags (cmp mark.0) x) || is_mark number tags cmp (without_number number n rs) mark) (ap (λ k. k == (number x).0) same ∙ h) ∙ rest

  -- no mark of a record is there where none has its number
  none_marked : (n : ObjId) (rs : List R) (mark : Mark T) → record_of number n rs ≡ None → (mark.1.0 == n.0) ≡ true → is_mark number tags cmp rs mark ≡ false
  none_marked n [] mark none e = refl
  none_marked n (x ∷ rs) mark none e = by (has_number number n x) refl none (λ f. none_marked n rs mark f e)
    where
      by : (b : Bool) → has_number number n x ≡ b → cond b (Some x) (record_of number n rs) ≡ None → (record_of number n rs ≡ None → is_mark number tags cmp rs mark ≡ false) → is_mark number tags cmp (x ∷ rs) mark ≡ false
      by true h f rest = absurd (cc)
      by false h f rest =
          let same : mark.1.0 ≡ n.0 = eqb-true _ _ e in
          ap (λ b. (b && has_tag tags (cmp mark.0) x) || is_mark number tags cmp rs mark) (ap (λ k. k == (number x).0) same ∙ h) ∙ rest f

  own_number : (r : R) (mark : Mark T) → is_mark_of number tags cmp r mark ≡ true → (mark.1.0 == (number r).0) ≡ true
  own_number r mark e = (and_parts _ _ e).0

  -- the marks of a record to be put are not in the index
  pub put_apart : (e : ObjId × R) (marks : List (Mark T × Unit {0})) (es : List (ObjId × R)) (index : List (Mark T × Unit {0})) → IsLoose number tags cmp e marks → IsIndexed number tags cmp es index → record_of number (number e.1) (unkeyed es) ≡ None → AreApart cmp marks index
  put_apart e marks es index loose whole none mark has =
      whole.marked mark ∙ none_marked (number e.1) (unkeyed es) mark none (own_number e.1 mark (sym (loose.marked mark) ∙ has))

  -- nor is its entry among those by number
  pub put_new : (e : ObjId × R) (marks : List (Mark T × Unit {0})) (es : List (ObjId × R)) (index : List (Mark T × Unit {0})) → IsLoose number tags cmp e marks → IsIndexed number tags cmp es index → record_of number (number e.1) (unkeyed es) ≡ None → value_at number_cmp e.0 es ≡ None
  put_new e marks es index loose whole none =
      ap (value_at number_cmp e.0) whole.numbered ∙ value_keyed number e.0 (unkeyed es) ∙ ap (λ n. record_of number n (unkeyed es)) loose.numbered ∙ none

  put_entries : (e : ObjId × R) (marks : List (Mark T × Unit {0})) (es : List (ObjId × R)) (index : List (Mark T × Unit {0})) → IsLoose number tags cmp e marks → IsIndexed number tags cmp es index → record_of number (number e.1) (unkeyed es) ≡ None → with_entry number_cmp e es ≡ keyed number (with_record number e.1 (unkeyed es))
  put_entries e marks es index loose whole none =
      ap (with_entry number_cmp e) whole.numbered
      ∙ ap (λ n. with_entry number_cmp (n, e.1) (keyed number (unkeyed es))) loose.numbered
      ∙ put_keyed number e.1 (unkeyed es) none

  pub put_records : (e : ObjId × R) (marks : List (Mark T × Unit {0})) (es : List (ObjId × R)) (index : List (Mark T × Unit {0})) → IsLoose number tags cmp e marks → IsIndexed number tags cmp es index → record_of number (number e.1) (unkeyed es) ≡ None → unkeyed (with_entry number_cmp e es) ≡ with_record number e.1 (unkeyed es)
  put_records e marks es index loose whole none = (numbered_as number _ _ (put_entries e marks es index loose whole none)).1

  -- a table with a record more
  pub put_indexed : (e : ObjId × R) (marks : List (Mark T × Unit {0})) (es : List (ObjId × R)) (index more : List (Mark T × Unit {0})) → IsLoose number tags cmp e marks → IsIndexed number tags cmp es index → record_of number (number e.1) (unkeyed es) ≡ None
      → KeysRise (mark_cmp cmp) more → IsMoved cmp (is_mark_of number tags cmp e.1) marks index more → IsIndexed number tags cmp (with_entry number_cmp e es) more
  put_indexed e marks es index more loose whole none more_rise moved =
      let whole_list = numbered_as number _ _ (put_entries e marks es index loose whole none) in
      record {
        numbered = whole_list.0;
        rise = rw whole_list.1 (rise_with number e.1 (unkeyed es) whole.rise none);
        marks_rise = more_rise;
        marked = λ mark.
            moved mark
            ∙ ap (λ b. b || (has_mark cmp mark marks && is_mark_of number tags cmp e.1 mark)) (whole.marked mark)
            ∙ ap (λ b. is_mark number tags cmp (unkeyed es) mark || (b && is_mark_of number tags cmp e.1 mark)) (loose.marked mark)
            ∙ turn (is_mark number tags cmp (unkeyed es) mark) (is_mark_of number tags cmp e.1 mark)
            ∙ sym (any_with number (λ r. is_mark_of number tags cmp r mark) e.1 (unkeyed es))
            ∙ ap (λ l. is_mark number tags cmp l mark) (sym whole_list.1);
      }
    where
      turn : (b o : Bool) → (b || (o && o)) ≡ (o || b)
      turn true true = refl
      turn true false = refl
      turn false true = refl
      turn false false = refl

  found_entry : (n : ObjId) (e : ObjId × R) (rs : List R) (o : Option R) → record_of number n rs ≡ o → option_map (pair number) o ≡ Some e → (record_of number n rs ≡ Some e.1) × (e.0 ≡ number e.1)
  found_entry n e rs None f g = absurd (cc)
  found_entry n e rs (Some r) f g = let same : pair number r ≡ e = cc in (f ∙ ap (λ (x : ObjId × R). Some x.1) same, subst (λ (x : ObjId × R). x.0 ≡ number x.1) same refl)

  module _ (n : ObjId) (e : ObjId × R) (es : List (ObjId × R)) (index : List (Mark T × Unit {0})) (whole : IsIndexed number tags cmp es index) (there : entry_at number_cmp n es ≡ Some e) where
    is_there : (record_of number n (unkeyed es) ≡ Some e.1) × (e.0 ≡ number e.1)
    is_there = found_entry n e (unkeyed es) (record_of number n (unkeyed es)) refl (sym (entry_keyed number n (unkeyed es)) ∙ ap (entry_at number_cmp n) (sym whole.numbered) ∙ there)

    -- the entry taken is that of the record
    pub taken_record : record_of number n (unkeyed es) ≡ Some e.1
    taken_record = is_there.0

    taken_entries : without_key number_cmp n es ≡ keyed number (without_number number n (unkeyed es))
    taken_entries = ap (without_key number_cmp n) whole.numbered ∙ taken_keyed number n (unkeyed es) whole.rise

    split_marks : (mark : Mark T) → is_mark number tags cmp (unkeyed es) mark ≡ (is_mark_of number tags cmp e.1 mark || is_mark number tags cmp (without_number number n (unkeyed es)) mark)
    split_marks mark =
        ap (λ l. is_mark number tags cmp l mark) (sym (taken_back number n e.1 (unkeyed es) whole.rise taken_record))
        ∙ any_with number (λ r. is_mark_of number tags cmp r mark) e.1 (without_number number n (unkeyed es))

    -- a table without a record
    pub taken_indexed : (left : List (Mark T × Unit {0})) → KeysRise (mark_cmp cmp) left → IsLeft cmp (is_mark_of number tags cmp e.1) index left → IsIndexed number tags cmp (without_key number_cmp n es) left
    taken_indexed left left_rise is_left =
        let whole_list = numbered_as number _ _ taken_entries in
        record {
          numbered = whole_list.0;
          rise = rw whole_list.1 (rise_without number n (unkeyed es) whole.rise);
          marks_rise = left_rise;
          marked = λ mark.
              is_left mark
              ∙ ap (λ b. b && not (is_mark_of number tags cmp e.1 mark)) (whole.marked mark ∙ split_marks mark)
              ∙ turn (is_mark_of number tags cmp e.1 mark) (is_mark number tags cmp (without_number number n (unkeyed es)) mark) (λ own. not_marked n (unkeyed es) mark (ap (λ (m : ObjId). mark.1.0 == m.0) (found_number number n e.1 (unkeyed es) taken_record) ∙ own_number e.1 mark own))
              ∙ ap (λ l. is_mark number tags cmp l mark) (sym whole_list.1);
        }
      where
        turn : (o b : Bool) → (o ≡ true → b ≡ false) → ((o || b) && not o) ≡ b
        turn true b none = sym (none refl)
        turn false true none = refl
        turn false false none = refl

    -- and the record, with its room
    pub taken_loose : (marks : List (Mark T × Unit {0})) → (number e.1).0 < 2 ^ 32 → KeysRise (mark_cmp cmp) marks → IsMoved cmp (is_mark_of number tags cmp e.1) index [] marks → IsLoose number tags cmp e marks
    taken_loose marks fits marks_rise moved = record {
      numbered = is_there.1;
      bounded = fits;
      marks_rise = marks_rise;
      marked = λ mark.
          moved mark
          ∙ ap (λ b. b && is_mark_of number tags cmp e.1 mark) (whole.marked mark ∙ split_marks mark)
          ∙ turn (is_mark_of number tags cmp e.1 mark) (is_mark number tags cmp (without_number number n (unkeyed es)) mark);
    }
      where
        turn : (o b : Bool) → ((o || b) && o) ≡ o
        turn true b = refl
        turn false true = refl
        turn false false = refl

  pub taken_records : (n : ObjId) (es : List (ObjId × R)) (index : List (Mark T × Unit {0})) → IsIndexed number tags cmp es index → unkeyed (without_key number_cmp n es) ≡ without_number number n (unkeyed es)
  taken_records n es index whole = (numbered_as number _ _ (ap (without_key number_cmp n) whole.numbered ∙ taken_keyed number n (unkeyed es) whole.rise)).1

  -- where no entry is there, nothing changes
  pub not_there : (n : ObjId) (es : List (ObjId × R)) (index : List (Mark T × Unit {0})) → IsIndexed number tags cmp es index → entry_at number_cmp n es ≡ None → (record_of number n (unkeyed es) ≡ None) × (without_key number_cmp n es ≡ es) × (unkeyed es ≡ without_number number n (unkeyed es))
  not_there n es index whole none =
      let nothing : record_of number n (unkeyed es) ≡ None = by (record_of number n (unkeyed es)) (sym (entry_keyed number n (unkeyed es)) ∙ ap (entry_at number_cmp n) (sym whole.numbered) ∙ none) in
      let stay : without_number number n (unkeyed es) ≡ unkeyed es = stays_by number n (unkeyed es) nothing in
      (nothing, ap (without_key number_cmp n) whole.numbered ∙ taken_keyed number n (unkeyed es) whole.rise ∙ ap (keyed number) stay ∙ sym whole.numbered, sym stay)
    where
      by : (o : Option R) → option_map (pair number) o ≡ None → o ≡ None
      by None e = refl
      by (Some r) e = absurd (cc)

module _ {R : Type 0} (number : R → ObjId) (weight : R → ℕ × ℕ) where
  -- no more records than numbers
  few_above : (low : ℕ) (rs : List R) → AllByRecursion (λ x. low ≤ (number x).0) rs → NumbersRise number rs → AllByRecursion (Fits number weight) rs → low ≤ 2 ^ 32 → low + length rs ≤ 2 ^ 32
  few_above low [] a rise fit h = omega (arith, h)
  few_above low (x ∷ rs) a rise fit h =
      let more = few_above ((number x).0 + 1) rs (next rs rise.0) rise.1 fit.1 (omega (arith, fit.0.0)) in omega (arith, more, a.0)
    where
      next : (l : List R) → AllByRecursion (λ y. (number x).0 < (number y).0) l → AllByRecursion (λ y. (number x).0 + 1 ≤ (number y).0) l
      next [] b = tt
      next (y ∷ l) b = (omega (arith, b.0), next l b.1)

  pub few : (rs : List R) → NumbersRise number rs → AllByRecursion (Fits number weight) rs → length rs ≤ 2 ^ 32
  few rs rise fit = let all = few_above 0 rs (least rs) rise fit (omega arith) in omega (arith, all)
    where
      least : (l : List R) → AllByRecursion (λ y. 0 ≤ (number y).0) l
      least [] = tt
      least (y ∷ l) = (omega arith, least l)

  sum_below : (f : R → ℕ) (rs : List R) → AllByRecursion (λ r. f r < 2 ^ 64) rs → sum_by f rs ≤ length rs * 2 ^ 64
  sum_below f [] a = omega arith
  sum_below f (x ∷ rs) a =
      let more = sum_below f rs a.1 in
      let first = sum_by-cons f x rs in
      omega (arith, more, first, a.0)

  weights_fit : (rs : List R) → AllByRecursion (Fits number weight) rs → AllByRecursion (λ r. (weight r).0 < 2 ^ 64) rs × AllByRecursion (λ r. (weight r).1 < 2 ^ 64) rs
  weights_fit [] a = (tt, tt)
  weights_fit (x ∷ rs) a = let more = weights_fit rs a.1 in ((a.0.1, more.0), (a.0.2, more.1))

  -- there is room for one more
  pub room : (rs : List R) (count : ℕ) (sums : ℕ × ℕ) → NumbersRise number rs → IsCounted number weight rs count sums → (count ≤ 2 ^ 32) × (sums.0 ≤ 2 ^ 96) × (sums.1 ≤ 2 ^ 96)
  room rs count sums rise c =
      let few_there = few rs rise c.fit in
      let fit = weights_fit rs c.fit in
      let first = sum_below (λ r. (weight r).0) rs fit.0 in
      let second = sum_below (λ r. (weight r).1) rs fit.1 in
      (omega (arith, few_there, c.counted), omega (arith, few_there, first, c.first), omega (arith, few_there, second, c.second))

  -- with a record more
  pub put_counted : (r : R) (rs : List R) (count : ℕ) (sums : ℕ × ℕ) → IsCounted number weight rs count sums → Fits number weight r → IsCounted number weight (with_record number r rs) (count + 1) (sums.0 + (weight r).0, sums.1 + (weight r).1)
  put_counted r rs count sums c fits = record {
    fit = all_with number (Fits number weight) r rs fits c.fit;
    counted = ap (λ n. n + 1) c.counted ∙ sym (length_with number r rs);
    first = ap (λ n. n + (weight r).0) c.first ∙ sym (sum_with number (λ x. (weight x).0) r rs);
    second = ap (λ n. n + (weight r).1) c.second ∙ sym (sum_with number (λ x. (weight x).1) r rs);
  }

  -- and with one less
  module _ (n : ObjId) (r : R) (rs : List R) (count : ℕ) (sums : ℕ × ℕ) (rise : NumbersRise number rs) (c : IsCounted number weight rs count sums) (there : record_of number n rs ≡ Some r) where
    pub enough : (1 ≤ count) × ((weight r).0 ≤ sums.0) × ((weight r).1 ≤ sums.1)
    enough =
        let all = length_without number n r rs rise there in
        let first = sum_without number (λ x. (weight x).0) n r rs rise there in
        let second = sum_without number (λ x. (weight x).1) n r rs rise there in
        (omega (arith, all, c.counted), omega (arith, first, c.first), omega (arith, second, c.second))

    pub taken_counted : IsCounted number weight (without_number number n rs) (count - 1) (sums.0 - (weight r).0, sums.1 - (weight r).1)
    taken_counted =
        let all = length_without number n r rs rise there in
        let first = sum_without number (λ x. (weight x).0) n r rs rise there in
        let second = sum_without number (λ x. (weight x).1) n r rs rise there in
        record {
          fit = all_left number (Fits number weight) n rs c.fit;
          counted = omega (arith, all, c.counted);
          first = omega (arith, first, c.first);
          second = omega (arith, second, c.second);
        }
