-- The first of the rows that take a packet, by their places.
use Rattle.std.proofs.Common.{◌≡◌, ℕ, zero, suc, ◌+◌, ◌<◌, ◌≤◌, Bool, true, false, get_or, ltb, List, [], ◌∷◌, Contains, length, ap, sym, subst, refl, ◌∙◌, ◌⊎◌, inl, inr, arith}
use Rattle.std.specs.Borrow.{Bor}
use Rattle.std.specs.Prelude.{Option, None, Some}
use Rattle.std.specs.BTreeMap.{BTreeMap, get}
use Rattle.std.specs.List.{find}
use Rattle.std.specs.Map.{keys_of}
use Rattle.std.specs.Ordering.{nat_cmp}
use Rattle.std.specs.declared.cmp.Ordering.TheVariants.{Less}
use Rattle.std.proofs.lemmas.Bool.{ltb-true, ltb-false}
use Rattle.std.proofs.lemmas.Cmp.{nat_cmp_total, ranked}
use Rattle.std.proofs.lemmas.List.{get_or_default}
use Rattle.std.proofs.lemmas.List.Elements.{All-contains}
use Rattle.std.proofs.lemmas.Map.Keys.{sorted_tail}
use Rattle.std.proofs.lemmas.Map.Lookups.{exact_unsigned}
use Rattle.std.proofs.lemmas.Map.Views.{All-after_first, btree_map_get_iff}
use Rattle.expr_core.specs.Lookup.{Lookup}
use Rattle.expr_eval.specs.MatchMeaning.{holds}
use Rattle.pkt_core.specs.Packet.{Values}
use Rattle.sb_model.specs.declared.row.Row.{Row}
use Rattle.sb_rows.specs.declared.asks.Asks.{Asks}
use Rattle.sb_rows.specs.declared.index.Index.{Index}
use Rattle.sb_rows.specs.declared.index.Shaped.{Shaped}
use Rattle.sb_rows.specs.inner.Asks.{HasAsked, shape_of}
use Rattle.sb_rows.specs.inner.Index.{Covers, IsHeld, IsNoBetter, IsTaker, IsTried}
use Rattle.sb_rows.specs.inner.Store.{NumbersRise, rows_of_places}

-- what a look-up finds is the row at its place
pub row_found : (rows : BTreeMap ℕ Row) (place : ℕ) (row : Row) → NumbersRise rows.entries → get nat_cmp rows place ≡ Some row → Contains rows.entries (place, row)
row_found rows place row rise found = (btree_map_get_iff nat_cmp_total exact_unsigned rows rise place row).0 found

-- a look-up finds the row at a place
pub row_looked_up : (rows : BTreeMap ℕ Row) (place : ℕ) (row : Row) → NumbersRise rows.entries → Contains rows.entries (place, row) → get nat_cmp rows place ≡ Some row
row_looked_up rows place row rise there = (btree_map_get_iff nat_cmp_total exact_unsigned rows rise place row).1 there

-- a place is tried whose row does not take the packet
pub tried_in_vain : (rows : BTreeMap ℕ Row) (net : Lookup) (packet : Values) (best : Option (ℕ × Bor Row)) (place : ℕ) (row : Row) → NumbersRise rows.entries → get nat_cmp rows place ≡ Some row
    → holds net packet row.matching ≡ false → IsTried net packet rows.entries best place
tried_in_vain rows net packet best place row rise found fails other there takes =
    let same : Some row ≡ Some other = sym found ∙ row_looked_up rows place other rise there in
    let is : row ≡ other = cc in
    let wrong : true ≡ false = sym takes ∙ ap (λ (r : Row). holds net packet r.matching) (sym is) ∙ fails in absurd (cc)

-- a place that has no row is tried
pub tried_in_none : (rows : BTreeMap ℕ Row) (net : Lookup) (packet : Values) (best : Option (ℕ × Bor Row)) (place : ℕ) → NumbersRise rows.entries → get nat_cmp rows place ≡ None
    → IsTried net packet rows.entries best place
tried_in_none rows net packet best place rise none other there takes =
    let wrong : None ≡ Some other = sym none ∙ row_looked_up rows place other rise there in absurd (cc)

-- an element of a list is the first or one of the others
pub first_or_later : {X : Type 0} (e x : X) (es : List X) → Contains (e ∷ es) x → (e ≡ x) ⊎ Contains es x
first_or_later e x es (zero, within, is) = inl is
first_or_later e x es (suc k, within, is) = inr (k, omega arith, is)

pub later : {X : Type 0} (e x : X) (es : List X) → Contains es x → Contains (e ∷ es) x
later e x es (k, within, is) = (suc k, omega arith, is)

-- the number of an entry that comes later is above that of the first
above_first : (e : ℕ × Row) (es : List (ℕ × Row)) (place : ℕ) (row : Row) → NumbersRise (e ∷ es) → Contains es (place, row) → e.0 < place
above_first e es place row rise there =
    let keyed : Contains (keys_of es) place = among es there in
    let less : nat_cmp e.0 place ≡ Less = All-contains (λ q. nat_cmp e.0 q ≡ Less) (keys_of es) place (All-after_first nat_cmp e.0 (keys_of es) rise) keyed in
    ranked e.0 place Less (sym less)
  where
    among : (es : List (ℕ × Row)) → Contains es (place, row) → Contains (keys_of es) place
    among [] (k, within, is) = absurd (omega arith)
    among (f ∷ fs) (zero, within, is) = (zero, omega arith, ap (λ (x : ℕ × Row). x.0) is)
    among (f ∷ fs) (suc k, within, is) = later f.0 place (keys_of fs) (among fs (k, omega arith, is))

module _ (net : Lookup) (packet : Values) where
  -- where no row takes a packet, none is found
  pub none_found : (rows : List (ℕ × Row)) → ((place : ℕ) (row : Row) → Contains rows (place, row) → holds net packet row.matching ≡ true → ⊥)
      → find (λ r. holds net packet r.matching) (rows_of_places rows) ≡ None
  none_found [] none = refl
  none_found (e ∷ es) none = by (holds net packet e.1.matching) refl (none_found es (λ place row there. none place row (later e (place, row) es there)))
    where
      by : (b : Bool) → holds net packet e.1.matching ≡ b → find (λ r. holds net packet r.matching) (rows_of_places es) ≡ None
          → find (λ r. holds net packet r.matching) (rows_of_places (e ∷ es)) ≡ None
      by true takes rest = absurd (none e.0 e.1 (zero, omega arith, refl) takes)
      by false fails rest = rw fails rest

  -- of rows at rising places the first that takes a packet is found
  pub first_found : (rows : List (ℕ × Row)) (best : ℕ) (row : Row) → NumbersRise rows → Contains rows (best, row) → holds net packet row.matching ≡ true
      → ((place : ℕ) (other : Row) → Contains rows (place, other) → holds net packet other.matching ≡ true → best ≤ place)
      → find (λ r. holds net packet r.matching) (rows_of_places rows) ≡ Some row
  first_found [] best row rise (k, within, is) takes first = absurd (omega arith)
  first_found (e ∷ es) best row rise there takes first =
      by (holds net packet e.1.matching) refl
      (λ more. first_found es best row (sorted_tail nat_cmp e.0 (keys_of es) rise) more takes (λ place other among. first place other (later e (place, other) es among)))
    where
      is_first : holds net packet e.1.matching ≡ true → (e ≡ (best, row)) ⊎ Contains es (best, row) → Some e.1 ≡ Some row
      is_first here (inl is) = ap (λ (x : ℕ × Row). Some x.1) is
      is_first here (inr more) =
          let above = above_first e es best row rise more in
          let below = first e.0 e.1 (zero, omega arith, refl) here in absurd (omega (arith, above, below))

      is_later : holds net packet e.1.matching ≡ false → (Contains es (best, row) → find (λ r. holds net packet r.matching) (rows_of_places es) ≡ Some row)
          → (e ≡ (best, row)) ⊎ Contains es (best, row) → find (λ r. holds net packet r.matching) (rows_of_places es) ≡ Some row
      is_later fails rest (inl is) = let wrong : true ≡ false = sym takes ∙ ap (λ (x : ℕ × Row). holds net packet x.1.matching) (sym is) ∙ fails in absurd (cc)
      is_later fails rest (inr more) = rest more

      by : (b : Bool) → holds net packet e.1.matching ≡ b → (Contains es (best, row) → find (λ r. holds net packet r.matching) (rows_of_places es) ≡ Some row)
          → find (λ r. holds net packet r.matching) (rows_of_places (e ∷ es)) ≡ Some row
      by true here rest = rw here (is_first here (first_or_later e (best, row) es there))
      by false fails rest = rw fails (is_later fails rest (first_or_later e (best, row) es there))

-- ---- the buckets of the shapes, so far

-- the places are tried in the buckets that the packet is in of the shapes so far
abbrev pub AreTried : Lookup → Values → List (ℕ × Row) → Index → Option (ℕ × Bor Row) → ℕ → Type 0
AreTried net packet rows index best at =
    (k from : ℕ) (e : Shaped) (asks : Asks) (place : ℕ) → k < at → record { shape = shape_of asks; from = from } ≡ get_or index.shapes.items k e → from ≤ place → HasAsked asks net packet
    → IsHeld index asks place → IsTried net packet rows best place

-- so they are with one more shape
pub shape_next : (net : Lookup) (packet : Values) (rows : List (ℕ × Row)) (index : Index) (at : ℕ) (best new : Option (ℕ × Bor Row)) (items : List Shaped) (s : Shaped) → items ≡ index.shapes.items → at < length items
    → ((place : ℕ) → IsNoBetter best place → IsNoBetter new place)
    → ((asks : Asks) (place : ℕ) → shape_of asks ≡ (get_or items at s).shape → (get_or items at s).from ≤ place → HasAsked asks net packet → IsHeld index asks place → IsTried net packet rows new place)
    → AreTried net packet rows index best at → AreTried net packet rows index new (at + 1)
shape_next net packet rows index at best new items s is within kept here so_far k from e asks place lt shaped low has there row among takes = by (ltb k at) refl
  where
    by : (b : Bool) → ltb k at ≡ b → IsNoBetter new place
    by true earlier = kept place (so_far k from e asks place (ltb-true k at earlier) shaped low has there row among takes)
    by false not =
        let at_k : k ≡ at = omega (arith, ltb-false k at not, lt) in
        let same : record { shape = shape_of asks; from = from } ≡ get_or items at s = shaped ∙ ap (λ l. get_or l k e) (sym is) ∙ ap (λ n. get_or items n e) at_k ∙ get_or_default items at e s within in
        here asks place (ap (λ (x : Shaped). x.shape) same) (subst (λ (n : ℕ). n ≤ place) (ap (λ (x : Shaped). x.from) same) low) has there row among takes

-- places from one on that is no better are no better
pub no_better_from : (best : Option (ℕ × Bor Row)) (from place : ℕ) → from ≤ place → IsNoBetter best from → IsNoBetter best place
no_better_from None from place le none = none
no_better_from (Some b) from place le after = omega arith

-- with all shapes each place is, of rows that are covered
pub each_tried : (net : Lookup) (packet : Values) (rows : List (ℕ × Row)) (index : Index) (best : Option (ℕ × Bor Row)) (at : ℕ) → Covers index rows → length index.shapes.items ≤ at → AreTried net packet rows index best at
    → (place : ℕ) → IsTried net packet rows best place
each_tried net packet rows index best at covers all so_far place row there takes =
    let it = covers place row there in
    let has = it.1.1.shaped in
    let among = has.1.0 in
    so_far among.0 has.0 (record { shape = shape_of it.0; from = has.0 }) it.0 place (omega (arith, among.1, all)) (sym among.2) has.1.1 (it.1.0.asked net packet takes) it.1.1.there row there takes

-- ---- what the best place is at the end

-- it is the first that takes the packet
pub first_is : (net : Lookup) (packet : Values) (rows : List (ℕ × Row)) (best : Option (ℕ × Bor Row)) (found : ℕ × Bor Row) → NumbersRise rows → best ≡ Some found
    → IsTaker net packet rows best → ((place : ℕ) → IsTried net packet rows best place) → Some found.1.now ≡ find (λ r. holds net packet r.matching) (rows_of_places rows)
first_is net packet rows best found rise is taker tried =
    let takes = subst (λ (b : Option (ℕ × Bor Row)). IsTaker net packet rows b) is taker in
    sym (first_found net packet rows found.0 found.1.now rise takes.0 takes.1 (subst (λ (b : Option (ℕ × Bor Row)). (place : ℕ) → IsTried net packet rows b place) is tried))

-- where there is none, no row takes the packet
pub none_is : (net : Lookup) (packet : Values) (rows : List (ℕ × Row)) (best : Option (ℕ × Bor Row)) → best ≡ None → ((place : ℕ) → IsTried net packet rows best place)
    → None ≡ find (λ r. holds net packet r.matching) (rows_of_places rows)
none_is net packet rows best is tried = sym (none_found net packet rows (subst (λ (b : Option (ℕ × Bor Row)). (place : ℕ) → IsTried net packet rows b place) is tried))
