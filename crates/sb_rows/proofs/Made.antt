-- Tables made of rows in order.
use Rattle.std.proofs.Common.{◌≡◌, ℕ, zero, suc, ◌+◌, ◌<◌, ◌≤◌, ◌-◌, ◌*◌, Bool, true, false, cond, List, [], ◌∷◌, ◌++◌, length, get_or, drop, sym, ap, subst, refl, ◌∙◌, arith, add-one, eqb, length-append, append_assoc, Bor}
use Rattle.std.specs.Prelude.{map, slice_get}
use Rattle.std.specs.BTreeMap.Range.{range_contains}
use Rattle.std.specs.declared.ops.Bound.TheVariants.{Included, Excluded}
use Rattle.std.specs.Map.Iter.{deref_pair}
use Rattle.sb_model.specs.Stage.{stage_place}
use Rattle.sb_model.proofs.Stages.{place_below}
use Rattle.std.specs.List.{All, AllByRecursion, flat_map, remove}
use Rattle.std.specs.List.Sorted.{IsStrictlySortedBy}
use Rattle.std.specs.Map.{keys_of, values_of}
use Rattle.std.specs.declared.cmp.Ordering.TheVariants.{Less}
use Rattle.std.specs.Ordering.{is_gt, is_lt, nat_cmp}
use Rattle.std.proofs.Math.Seq.{take-append_seam}
use Rattle.std.proofs.lemmas.List.{length-map}
use Rattle.std.proofs.lemmas.Bool.Decides.{nat_tests}
use Rattle.std.proofs.lemmas.List.Elements.{All-head, All-tail, All-cons, All-append, All-nil}
use Rattle.sb_model.specs.declared.row.Row.{Row}
use Rattle.sb_rows.specs.Row.{AreRows, IsInRowOrder, IsWithout, put_row, row_cmp}
use Rattle.sb_rows.specs.inner.Store.{AreTables, NumbersRise, flat}
use Rattle.sb_rows.specs.inner.Tables.{key_of}
use Rattle.sb_rows.proofs.Flat.{IsKeyed, is_less}
use Rattle.sb_rows.proofs.Place.{ordered_tail}
use Rattle.sb_rows.proofs.Tables.{keys_rise}
use Rattle.sb_rows.proofs.Taken.{removed_are_rows}

-- ---- parts of rows in order are in order

pub ordered_rest : (xs ys : List Row) → IsInRowOrder (xs ++ ys) → IsInRowOrder ys
ordered_rest [] ys up = up
ordered_rest (x ∷ xs) ys up = ordered_rest xs ys (ordered_tail x (xs ++ ys) up)

pub ordered_front : (xs ys : List Row) → IsInRowOrder (xs ++ ys) → IsInRowOrder xs
ordered_front [] ys up k d le lt = absurd (omega (arith, lt))
ordered_front (x ∷ xs) ys up zero d le lt = first xs (up zero d) lt
  where
    first : (xs : List Row) → (0 ≤ 0 → 1 < length (x ∷ xs ++ ys) → is_lt (row_cmp (get_or (xs ++ ys) 0 d) x) ≡ false) → 1 < length (x ∷ xs) → is_lt (row_cmp (get_or xs 0 d) x) ≡ false
    first [] up lt = absurd (omega (arith, lt))
    first (y ∷ zs) up lt = up (omega arith) (omega arith)
ordered_front (x ∷ xs) ys up (suc k) d le lt = rw add-one (rw add-one at (ordered_front xs ys (ordered_tail x (xs ++ ys) up) k d (omega arith) (omega arith)))

-- the rows after one are of no lower table
pub no_lower_after : (row : Row) (rest : List Row) → IsInRowOrder (row ∷ rest) → All (λ (r : Row). key_of row ≤ key_of r) rest
no_lower_after row rest up k d lt = keys_rise (row ∷ rest) up 0 (suc k) d (omega arith) (omega arith)

-- ---- a table more, after the others

rise_last : (t : ℕ) (rows : List Row) (es : List (ℕ × List Row)) → NumbersRise es → All (λ (e : ℕ × List Row). e.0 < t) es → NumbersRise (es ++ (t, rows) ∷ [])
unfolding IsStrictlySortedBy
rise_last t rows [] rise below = (tt, tt)
rise_last t rows (e ∷ es) rise below =
    (below_last es rise.0, rise_last t rows es rise.1 (All-tail (λ (e : ℕ × List Row). e.0 < t) e es below))
  where
    below_last : (fs : List (ℕ × List Row)) → AllByRecursion (λ n. nat_cmp e.0 n ≡ Less) (keys_of fs) → AllByRecursion (λ n. nat_cmp e.0 n ≡ Less) (keys_of (fs ++ (t, rows) ∷ []))
    below_last [] all = (is_less e.0 t (All-head (λ (e : ℕ × List Row). e.0 < t) e es below), tt)
    below_last (f ∷ fs) all = (all.0, below_last fs all.1)

pub tables_last : (t : ℕ) (rows : List Row) (es : List (ℕ × List Row)) → AreTables es → All (λ (e : ℕ × List Row). e.0 < t) es → All (λ (r : Row). key_of r ≡ t) rows → AreTables (es ++ (t, rows) ∷ [])
tables_last t rows es are below own = record {
  rise = rise_last t rows es are.rise below;
  keyed = All-append IsKeyed es ((t, rows) ∷ []) are.keyed (All-cons IsKeyed (t, rows) [] own (All-nil IsKeyed));
}

pub flat_last : (t : ℕ) (rows : List Row) (es : List (ℕ × List Row)) → flat (es ++ (t, rows) ∷ []) ≡ flat es ++ rows
flat_last t rows [] = append_nothing rows
  where
    append_nothing : (xs : List Row) → xs ++ [] ≡ xs
    append_nothing [] = refl
    append_nothing (x ∷ xs) = ap (λ ys. x ∷ ys) (append_nothing xs)
flat_last t rows (e ∷ es) = ap (λ ys. e.1 ++ ys) (flat_last t rows es) ∙ sym (append_assoc e.1 (flat es) rows)

pub below_last : (t next : ℕ) (rows : List Row) (es : List (ℕ × List Row)) → t < next → All (λ (e : ℕ × List Row). e.0 < t) es → All (λ (e : ℕ × List Row). e.0 < next) (es ++ (t, rows) ∷ [])
below_last t next rows es lt below =
    All-append (λ (e : ℕ × List Row). e.0 < next) es ((t, rows) ∷ []) (below_more t next es (omega (arith, lt)) below) (All-cons (λ (e : ℕ × List Row). e.0 < next) (t, rows) [] lt (All-nil (λ (e : ℕ × List Row). e.0 < next)))
  where
    below_more : (t next : ℕ) (es : List (ℕ × List Row)) → t ≤ next → All (λ (e : ℕ × List Row). e.0 < t) es → All (λ (e : ℕ × List Row). e.0 < next) es
    below_more t next es le below k d lt = omega (arith, below k d lt, le)

pub below_still : (t next : ℕ) (es : List (ℕ × List Row)) → t ≤ next → All (λ (e : ℕ × List Row). e.0 < t) es → All (λ (e : ℕ × List Row). e.0 < next) es
below_still t next es le below k d lt = omega (arith, below k d lt, le)

-- ---- one row less

drop_past : (before after : List Row) (row : Row) → drop (suc (length before)) (before ++ row ∷ after) ≡ after
drop_past [] after row = refl
drop_past (x ∷ xs) after row = drop_past xs after row

pub without_are_rows : (row : Row) (old new : List Row) → IsWithout row old new → AreRows old → AreRows new
without_are_rows row old new is are =
    removed_are_rows old new (length is.before)
    (is.are ∙ sym (ap (λ xs. remove xs (length is.before)) is.were ∙ ap (λ xs. xs ++ drop (suc (length is.before)) (is.before ++ row ∷ is.after)) (take-append_seam is.before (row ∷ is.after)) ∙ ap (λ xs. is.before ++ xs) (drop_past is.before is.after row)))
    (rw is.were (omega (arith, length-append is.before (row ∷ is.after)))) are

pub without_is_shorter : (row : Row) (old new : List Row) → IsWithout row old new → length old ≡ length new + 1
without_is_shorter row old new is = rw (is.were, is.are) (omega (arith, length-append is.before (row ∷ is.after), length-append is.before is.after))

-- ---- one row more

pub put_is_longer : (row : Row) (xs : List Row) → length (put_row row xs) ≡ length xs + 1
put_is_longer row [] = refl
put_is_longer row (x ∷ xs) = by (is_gt (row_cmp x row)) (put_is_longer row xs)
  where
    by : (b : Bool) → length (put_row row xs) ≡ length xs + 1 → length (cond b (row ∷ x ∷ xs) (x ∷ put_row row xs)) ≡ length (x ∷ xs) + 1
    by true rest = omega arith
    by false rest = omega (arith, rest)

-- ---- the row after so many

abbrev pub all_of : List (List Row) → List Row
all_of parts = flat_map (λ rows. rows) parts

pub flat_values : (es : List (ℕ × List Row)) → all_of (values_of es) ≡ flat es
flat_values [] = refl
flat_values (e ∷ es) = ap (λ ys. e.1 ++ ys) (flat_values es)

pub get_first : (xs ys : List Row) (i : ℕ) → i < length xs → slice_get (xs ++ ys) i ≡ slice_get xs i
get_first [] ys i lt = absurd (omega (arith, lt))
get_first (x ∷ xs) ys zero lt = refl
get_first (x ∷ xs) ys (suc i) lt = get_first xs ys i (omega arith)

pub get_later : (xs ys : List Row) (i : ℕ) → length xs ≤ i → slice_get (xs ++ ys) i ≡ slice_get ys (i - length xs)
get_later [] ys i le = let all : i - 0 ≡ i = omega arith in rw all refl
get_later (x ∷ xs) ys zero le = absurd (omega (arith, le))
get_later (x ∷ xs) ys (suc i) le = let less : suc i - suc (length xs) ≡ i - length xs = omega arith in rw less (get_later xs ys i (omega arith))

-- ---- the tables so far of rows in order

pub record SoFar (tables : List (ℕ × List Row)) (rows : List Row) (key : ℕ) (rest sorted : List Row) : Type 0 where
  pub made : AreTables tables
  pub above : All (λ (e : ℕ × List Row). e.0 < key) tables
  pub keyed : All (λ (r : Row). key_of r ≡ key) rows
  pub no_lower : All (λ (r : Row). key ≤ key_of r) rest
  pub whole : (flat tables ++ rows) ++ rest ≡ sorted

pub nothing_yet : (tables : List (ℕ × List Row)) (rows rest sorted : List Row) → tables ≡ [] → rows ≡ [] → rest ≡ sorted → SoFar tables rows 0 rest sorted
unfolding IsStrictlySortedBy
nothing_yet tables rows rest sorted no_tables no_rows all = record {
  made = rw no_tables (record { rise = tt; keyed = All-nil IsKeyed });
  above = rw no_tables (All-nil (λ (e : ℕ × List Row). e.0 < 0));
  keyed = rw no_rows (All-nil (λ (r : Row). key_of r ≡ 0));
  no_lower = λ k d lt. omega arith;
  whole = rw (no_tables, no_rows) all;
}

module _ (tables : List (ℕ × List Row)) (rows : List Row) (key : ℕ) (rest sorted : List Row) (so : SoFar tables rows key rest sorted) (up : IsInRowOrder sorted) where
  -- the rows of the table at hand are in order
  pub own_ordered : IsInRowOrder rows
  own_ordered = ordered_rest (flat tables) rows (ordered_front (flat tables ++ rows) rest (subst IsInRowOrder (sym so.whole) up))

  -- so are the others
  pub rest_ordered : IsInRowOrder rest
  rest_ordered = ordered_rest (flat tables ++ rows) rest (subst IsInRowOrder (sym so.whole) up)

  -- one more row, of the table that was begun for it, or of the one at hand
  pub one_further : (row : Row) (left : List Row) (next : ℕ) (begun : List (ℕ × List Row)) (own after : List Row) → rest ≡ row ∷ left → next ≡ key_of row
      → AreTables begun → All (λ (e : ℕ × List Row). e.0 < next) begun → All (λ (r : Row). key_of r ≡ next) own → flat begun ++ own ≡ flat tables ++ rows → after ≡ own ++ row ∷ []
      → SoFar begun after next left sorted
  one_further row left next begun own after is key_is made above keyed same put = record {
    made = made;
    above = above;
    keyed = rw put (All-append (λ (r : Row). key_of r ≡ next) own (row ∷ []) keyed (All-cons (λ (r : Row). key_of r ≡ next) row [] (sym key_is) (All-nil (λ (r : Row). key_of r ≡ next))));
    no_lower = rw key_is (no_lower_after row left (rw is at rest_ordered));
    whole =
        rw put (ap (λ xs. xs ++ left) (sym (append_assoc (flat begun) own (row ∷ []))) ∙ append_assoc (flat begun ++ own) (row ∷ []) left
        ∙ ap (λ xs. xs ++ row ∷ left) same ∙ ap (λ xs. (flat tables ++ rows) ++ xs) (sym is) ∙ so.whole);
  }

-- ---- where there is nothing

append_nothing : (xs : List Row) → xs ++ [] ≡ xs
append_nothing [] = refl
append_nothing (x ∷ xs) = ap (λ ys. x ∷ ys) (append_nothing xs)

pub nothing_after : (xs ys : List Row) → ys ≡ [] → xs ++ ys ≡ xs
nothing_after xs ys none = rw none (append_nothing xs)

pub nothing_left : (xs ys : List Row) → ys ≡ [] → xs ≡ xs ++ ys
nothing_left xs ys none = sym (nothing_after xs ys none)

pub nothing_by_length : (xs : List Row) → length xs ≡ 0 → xs ≡ []
nothing_by_length [] none = refl
nothing_by_length (x ∷ xs) none = absurd (omega (arith, none))

pub none_of_nothing : (P : Row → Type 0) (xs : List Row) → xs ≡ [] → All P xs
none_of_nothing P xs none = rw none (All-nil P)

pub above_other : (t next : ℕ) → t ≤ next → (t ≡ next → ⊥) → t < next
above_other t next le other = grind (arith, nat_tests)

-- ---- rows that are shown

pub shown_count : (refs : List (Bor Row)) (i : ℕ) → i < length refs → i < length (map (λ r. r.now) refs)
shown_count refs i lt = rw (length-map refs (λ r. r.now)) lt

pub shown_at : (refs : List (Bor Row)) (i : ℕ) (ref : Bor Row) → i < length refs → ref ≡ get_or refs i ref → ref.now ≡ get_or (map (λ r. r.now) refs) i ref.now
shown_at [] i ref lt is = absurd (omega (arith, lt))
shown_at (x ∷ refs) zero ref lt is = ap (λ r. r.now) is
shown_at (x ∷ refs) (suc i) ref lt is = shown_at refs i ref (omega arith) is

pub no_refs : (refs : List (Bor Row)) → refs ≡ [] → map (λ r. r.now) refs ≡ []
no_refs refs none = rw none refl

pub flat_more : (seen : List (Bor ℕ × Bor (List Row))) (one : Bor ℕ × Bor (List Row)) → flat (map deref_pair seen) ++ one.1.now ≡ flat (map deref_pair (seen ++ one ∷ []))
flat_more [] one = nothing_left one.1.now [] refl
flat_more (x ∷ seen) one = append_assoc x.1.now (flat (map deref_pair seen)) one.1.now ∙ ap (λ rows. x.1.now ++ rows) (flat_more seen one)

-- the place of a table is between those of its datapath where the datapath is its own
pub is_within : (dp : ℕ) (row : Row) → range_contains nat_cmp (Included (dp * 32)) (Excluded (dp * 32 + 32)) (key_of row) ≡ eqb row.dp.0 dp
is_within dp row = within dp row.dp.0 (stage_place row.stage) (place_below row.stage)
  where
    within : (dp own stage : ℕ) → stage < 32 → range_contains nat_cmp (Included (dp * 32)) (Excluded (dp * 32 + 32)) (own * 32 + stage) ≡ eqb own dp
    within dp own stage lt = grind (arith, nat_tests)
