-- What is among rows that were put, and which row a packet meets in a table.
use Rattle.std.proofs.Common.{◌≡◌, ◌≢◌, zero, suc, Bool, true, false, cond, List, [], ◌∷◌, get_or, sym, ap, refl, ◌∙◌, subst, ◌⊎◌, inl, inr, arith}
use Rattle.std.specs.Prelude.{◌&&◌, ◌↔◌, Some, None}
use Rattle.std.specs.declared.cmp.Ordering.{Ordering}
use Rattle.std.specs.declared.cmp.Ordering.TheVariants.{Less, Equal, Greater}
use Rattle.std.specs.Ordering.{is_lt, is_gt}
use Rattle.std.specs.List.{Contains}
use Rattle.std.proofs.lemmas.Bool.{false≢true, and_parts}
use Rattle.std.proofs.lemmas.List.Sorted.{sorted_far, ranks_by}
use Rattle.nv_base.specs.declared.object.ObjId.{ObjId}
use Rattle.pkt_core.specs.Packet.{Values}
use Rattle.sb_model.specs.declared.stage.Stage.{Stage}
use Rattle.sb_model.specs.declared.row.Row.{Row}
use Rattle.sb_rows.specs.Row.{row_cmp, IsInRowOrder, put_row, put_rows}
use Rattle.expr_core.specs.Lookup.{Lookup}
use Rattle.expr_eval.specs.MatchMeaning.{holds}
use Rattle.sb_rows.specs.Match.{is_in_table, select}
use Rattle.sb_rows.proofs.Order.{row_cmp_total, lt_turned}
use Rattle.sb_rows.proofs.Place.{ordered_tail}
use Rattle.sb_model.proofs.Same.{same_or_other}

-- ---- what is among rows

-- the first row is among the rows, and so is each of the others
first_among : (r : Row) (xs : List Row) → Contains (r ∷ xs) r
first_among r xs = (0, omega arith, refl)

later_among : (x r : Row) (xs : List Row) → Contains xs r → Contains (x ∷ xs) r
later_among x r xs (k, within, is) = (suc k, omega arith, is)

-- a row among rows is the first or one of the others
pub among_cases : (x r : Row) (xs : List Row) → Contains (x ∷ xs) r → (x ≡ r) ⊎ Contains xs r
among_cases x r xs (zero, within, is) = inl is
among_cases x r xs (suc k, within, is) = inr (k, omega arith, is)

none_among : (r : Row) → Contains [] r → ⊥
none_among r (k, within, is) = absurd (omega arith)

-- what is among rows that got one more
pub among_put : (new : Row) (xs : List Row) (r : Row) → Contains (put_row new xs) r → (new ≡ r) ⊎ Contains xs r
among_put new [] r there = among_cases new r [] there
among_put new (x ∷ xs) r there = by (is_gt (row_cmp x new)) there (among_put new xs r)
  where
    moved : (x ≡ r) ⊎ Contains (put_row new xs) r → (Contains (put_row new xs) r → (new ≡ r) ⊎ Contains xs r) → (new ≡ r) ⊎ Contains (x ∷ xs) r
    moved (inl is) rest = inr (0, omega arith, is)
    moved (inr at) rest = from (rest at)
      where
        from : (new ≡ r) ⊎ Contains xs r → (new ≡ r) ⊎ Contains (x ∷ xs) r
        from (inl is) = inl is
        from (inr at') = inr (later_among x r xs at')

    by : (b : Bool) → Contains (cond b (new ∷ x ∷ xs) (x ∷ put_row new xs)) r → (Contains (put_row new xs) r → (new ≡ r) ⊎ Contains xs r) → (new ≡ r) ⊎ Contains (x ∷ xs) r
    by true at rest = among_cases new r (x ∷ xs) at
    by false at rest = moved (among_cases x r (put_row new xs) at) rest

pub put_among_new : (r : Row) (xs : List Row) → Contains (put_row r xs) r
put_among_new r [] = first_among r []
put_among_new r (x ∷ xs) = by (is_gt (row_cmp x r)) (put_among_new r xs)
  where
    by : (b : Bool) → Contains (put_row r xs) r → Contains (cond b (r ∷ x ∷ xs) (x ∷ put_row r xs)) r
    by true rest = first_among r (x ∷ xs)
    by false rest = later_among x r (put_row r xs) rest

pub put_among_old : (new : Row) (xs : List Row) (r : Row) → Contains xs r → Contains (put_row new xs) r
put_among_old new [] r at = absurd (none_among r at)
put_among_old new (x ∷ xs) r at = by (is_gt (row_cmp x new)) (put_among_old new xs r)
  where
    moved : (x ≡ r) ⊎ Contains xs r → (Contains xs r → Contains (put_row new xs) r) → Contains (x ∷ put_row new xs) r
    moved (inl is) rest = (0, omega arith, is)
    moved (inr at') rest = later_among x r (put_row new xs) (rest at')

    by : (b : Bool) → (Contains xs r → Contains (put_row new xs) r) → Contains (cond b (new ∷ x ∷ xs) (x ∷ put_row new xs)) r
    by true rest = later_among new r (x ∷ xs) at
    by false rest = moved (among_cases x r xs at) rest

-- what is among rows that got more was there or is one of the new
pub Contains-from_put_rows : (more rows : List Row) (r : Row) → Contains (put_rows rows more) r → Contains rows r ⊎ Contains more r
Contains-from_put_rows [] rows r at = inl at
Contains-from_put_rows (new ∷ more) rows r at = by (Contains-from_put_rows more (put_row new rows) r at)
  where
    first : (new ≡ r) ⊎ Contains rows r → Contains rows r ⊎ Contains (new ∷ more) r
    first (inl is) = inr (0, omega arith, is)
    first (inr there) = inl there

    by : Contains (put_row new rows) r ⊎ Contains more r → Contains rows r ⊎ Contains (new ∷ more) r
    by (inl there) = first (among_put new rows r there)
    by (inr later) = inr (later_among new r more later)

-- each row that was there is still
pub Contains-put_rows_old : (more rows : List Row) (r : Row) → Contains rows r → Contains (put_rows rows more) r
Contains-put_rows_old [] rows r at = at
Contains-put_rows_old (new ∷ more) rows r at = Contains-put_rows_old more (put_row new rows) r (put_among_old new rows r at)

-- and each new one is there
pub Contains-put_rows_new : (more rows : List Row) (r : Row) → Contains more r → Contains (put_rows rows more) r
Contains-put_rows_new [] rows r at = absurd (none_among r at)
Contains-put_rows_new (new ∷ more) rows r at = by (among_cases new r more at) (Contains-put_rows_new more (put_row new rows) r)
  where
    new_there : Contains (put_rows (put_row new rows) more) new
    new_there = Contains-put_rows_old more (put_row new rows) new (put_among_new new rows)

    by : (new ≡ r) ⊎ Contains more r → (Contains more r → Contains (put_rows (put_row new rows) more) r) → Contains (put_rows (put_row new rows) more) r
    by (inl is) rest = let P = λ (y : Row). Contains (put_rows (put_row new rows) more) y in subst P is new_there
    by (inr later) rest = rest later

-- rows that got more hold those that were there and the new ones, and no others
pub Contains-put_rows : (rows more : List Row) (r : Row) → Contains (put_rows rows more) r ↔ (Contains rows r ⊎ Contains more r)
Contains-put_rows rows more r = (Contains-from_put_rows more rows r, back)
  where
    back : Contains rows r ⊎ Contains more r → Contains (put_rows rows more) r
    back (inl there) = Contains-put_rows_old more rows r there
    back (inr later) = Contains-put_rows_new more rows r later

-- ---- which row a packet meets

module _ (dp : ObjId) (stage : Stage) (net : Lookup) (packet : Values) where
  -- whether a row is of the table and takes the packet
  abbrev pub acts : Row → Bool
  acts x = is_in_table dp stage x && holds net packet x.matching

  acts_not : (x : Row) → (is_in_table dp stage x ≡ true → holds net packet x.matching ≡ false) → acts x ≡ false
  acts_not x h = by (is_in_table dp stage x) (holds net packet x.matching) h
    where
      by : (a b : Bool) → (a ≡ true → b ≡ false) → (a && b) ≡ false
      by true b f = f refl
      by false b f = refl

  -- where no row of the table takes the packet, it meets none
  pub none_holds : (rows : List Row) → ((x : Row) → Contains rows x → is_in_table dp stage x ≡ true → holds net packet x.matching ≡ false) → select dp stage net packet rows ≡ None
  none_holds [] none = refl
  none_holds (x ∷ xs) none =
      rw (acts_not x (none x (first_among x xs))) (none_holds xs (λ y at. none y (later_among x y xs at)))

  -- in rows in order, a later row is not below the first
  first_not_above : (x r : Row) (xs : List Row) → IsInRowOrder (x ∷ xs) → Contains xs r → is_gt (row_cmp x r) ≡ false
  first_not_above x r xs up (k, within, is) =
      let far : is_lt (row_cmp (get_or (x ∷ xs) (suc k) r) x) ≡ false = sorted_far _ (ranks_by row_cmp_total (λ (y : Row). y)) (x ∷ xs) up 0 (suc k) r (omega arith) (omega arith) in
      sym (lt_turned x r) ∙ rw is at far

  module _ (r : Row) (in_table : is_in_table dp stage r ≡ true) (takes : holds net packet r.matching ≡ true) where
    r_acts : acts r ≡ true
    r_acts = rw in_table takes

    -- a row that acts, and is neither before r nor level with it unless it is r, is r
    only_r : (x : Row) → acts x ≡ true → is_gt (row_cmp x r) ≡ false
        → (is_in_table dp stage x ≡ true → is_lt (row_cmp x r) ≡ true → holds net packet x.matching ≡ false)
        → (is_in_table dp stage x ≡ true → x ≢ r → row_cmp x r ≡ Equal → holds net packet x.matching ≡ false) → x ≡ r
    only_r x does not_above before level = by (same_or_other x r) (row_cmp x r) refl
      where
        parts : (is_in_table dp stage x ≡ true) × (holds net packet x.matching ≡ true)
        parts = and_parts _ _ does

        by : (x ≡ r) ⊎ (x ≢ r) → (o : Ordering) → row_cmp x r ≡ o → x ≡ r
        by (inl is) o e = is
        by (inr other) Less e = absurd (false≢true (sym (before parts.0 (ap is_lt e)) ∙ parts.1))
        by (inr other) Equal e = absurd (false≢true (sym (level parts.0 other e) ∙ parts.1))
        by (inr other) Greater e = absurd (false≢true (sym not_above ∙ ap is_gt e))

    -- a packet meets the row that takes it, where none before it does, nor any other that is level with it
    pub first_from_before : (rows : List Row) → IsInRowOrder rows → Contains rows r
        → ((x : Row) → Contains rows x → is_in_table dp stage x ≡ true → is_lt (row_cmp x r) ≡ true → holds net packet x.matching ≡ false)
        → ((x : Row) → Contains rows x → is_in_table dp stage x ≡ true → x ≢ r → row_cmp x r ≡ Equal → holds net packet x.matching ≡ false)
        → select dp stage net packet rows ≡ Some r
    first_from_before [] up there before level = absurd (none_among r there)
    first_from_before (x ∷ xs) up there before level =
        by (acts x) refl (among_cases x r xs there) (λ at. first_from_before xs (ordered_tail x xs up) at (λ y a. before y (later_among x y xs a)) (λ y a. level y (later_among x y xs a)))
      where
        here : (x ≡ r) ⊎ Contains xs r → acts x ≡ true → x ≡ r
        here (inl is) does = is
        here (inr at) does = only_r x does (first_not_above x r xs up at) (before x (first_among x xs)) (level x (first_among x xs))

        by : (b : Bool) → acts x ≡ b → (x ≡ r) ⊎ Contains xs r → (Contains xs r → select dp stage net packet xs ≡ Some r) → cond b (Some x) (select dp stage net packet xs) ≡ Some r
        by true e at rest = ap Some (here at e)
        by false e (inl is) rest = absurd (false≢true (sym e ∙ ap acts is ∙ r_acts))
        by false e (inr at) rest = rest at
