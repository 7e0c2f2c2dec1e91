-- The tables of one datapath, put at the places of their stages.
use Rattle.std.proofs.Common.{◌≡◌, ℕ, zero, suc, ◌+◌, ◌*◌, ◌-◌, ◌<◌, ◌≤◌, Bool, true, false, eqb, List, [], ◌∷◌, ◌++◌, filter, get_or, length, map, set, Contains, ap, sym, subst, refl, ◌∙◌, ◌⊎◌, inl, inr, arith}
use Rattle.std.specs.Prelude.{Option, None, Some}
use Rattle.std.specs.BTreeMap.{BTreeMap, get}
use Rattle.std.specs.BTreeMap.Range.{range_contains}
use Rattle.std.specs.Borrow.{Bor}
use Rattle.std.specs.Map.Iter.{deref_pair}
use Rattle.std.specs.Option.{option_copied}
use Rattle.std.specs.Ordering.{nat_cmp}
use Rattle.std.specs.declared.ops.Bound.TheVariants.{Included, Excluded}
use Rattle.std.proofs.lemmas.Bool.{eqb-true, eqb-false}
use Rattle.std.proofs.lemmas.Bool.Decides.{nat_tests}
use Rattle.std.proofs.lemmas.Cmp.{nat_cmp_total}
use Rattle.std.proofs.lemmas.Grind.{get_or-set_at}
use Rattle.std.proofs.lemmas.List.{get_or-set_other, length-set, map-append}
use Rattle.std.proofs.lemmas.List.Elements.{All-contains, Contains-append_left, Contains-append_right, Contains-push_cases, filter_passes}
use Rattle.std.proofs.lemmas.Map.Lookups.{exact_unsigned}
use Rattle.std.proofs.lemmas.Map.Views.{btree_map_get_iff}
use Rattle.expr_core.specs.Lookup.{Lookup}
use Rattle.nv_base.specs.declared.object.ObjId.{ObjId}
use Rattle.pkt_core.specs.Packet.{Values}
use Rattle.sb_model.specs.Stage.{stage_place}
use Rattle.sb_model.specs.declared.row.Row.{Row}
use Rattle.sb_model.specs.declared.stage.Stage.{Stage}
use Rattle.sb_model.proofs.Stages.{place_below}
use Rattle.sb_rows.specs.Match.{select}
use Rattle.sb_rows.specs.inner.OfDatapath.{found_in}
use Rattle.sb_rows.specs.inner.Store.{AreTables, flat}
use Rattle.sb_rows.specs.inner.Tables.{table_key}
use Rattle.sb_rows.proofs.Flat.{select_flat, select_nothing}
use Rattle.sb_rows.proofs.IndexFirst.{first_or_later, later}
use Rattle.sb_rows.proofs.IndexOthers.{among_kept}

-- those that were gone through are at their places, and no others
pub record ArePutIn (first : ℕ) (seen : List (ℕ × List Row)) (tables : List (Option (Bor (List Row)))) : Type 0 where
  pub long : length tables ≡ 32
  pub sound : (n : ℕ) (t : List Row) → n < 32 → option_copied (get_or tables n None) ≡ Some t → Contains seen (first + n, t)
  pub complete : (n : ℕ) (t : List Row) → n < 32 → Contains seen (first + n, t) → (other : List Row) × (option_copied (get_or tables n None) ≡ Some other)

-- ---- none

-- places of no table
abbrev pub nones : ℕ → List (Option (Bor (List Row)))
nones zero = []
nones (suc n) = None ∷ nones n

none_at : (m n : ℕ) → get_or (nones m) n None ≡ None
none_at zero n = refl
none_at (suc m) zero = refl
none_at (suc m) (suc n) = none_at m n

pub none_put : (first : ℕ) → ArePutIn first [] (nones 32)
none_put first = record {
  long = refl;
  sound = λ n t lt some. let wrong : None ≡ Some t = sym (ap option_copied (none_at 32 n)) ∙ some in absurd (cc);
  complete = λ n t lt there. absurd (omega (arith, there.1));
}

-- ---- one more

pub put_more : (first : ℕ) (seen : List (Bor ℕ × Bor (List Row))) (tables : List (Option (Bor (List Row)))) (key : Bor ℕ) (table : Bor (List Row)) → first ≤ key.now → key.now < first + 32
    → ArePutIn first (map deref_pair seen) tables → ArePutIn first (map deref_pair (seen ++ (key, table) ∷ [])) (set tables (key.now - first) (Some table))
put_more first seen tables key table low high put =
    rw (map-append deref_pair seen ((key, table) ∷ []))
    (record {
      long = length-set tables place (Some table) ∙ put.long;
      sound = λ n t lt some. sound n t lt some (eqb n place) refl;
      complete = λ n t lt there. complete n t lt (Contains-push_cases (map deref_pair seen) (key.now, table.now) (first + n, t) there) (eqb n place) refl;
    })
  where
    place : ℕ
    place = key.now - first

    here : (n : ℕ) → eqb n place ≡ true → get_or (set tables place (Some table)) n None ≡ Some table
    here n same = get_or-set_at tables place n (Some table) None (eqb-true n place same) (omega (arith, low, high, put.long))

    there : (n : ℕ) → eqb n place ≡ false → get_or (set tables place (Some table)) n None ≡ get_or tables n None
    there n other = get_or-set_other tables place n (Some table) None (eqb-false n place other)

    now : List (ℕ × List Row)
    now = map deref_pair seen ++ (key.now, table.now) ∷ []

    sound : (n : ℕ) (t : List Row) → n < 32 → option_copied (get_or (set tables place (Some table)) n None) ≡ Some t → (b : Bool) → eqb n place ≡ b → Contains now (first + n, t)
    sound n t lt some true same =
        let is : Some table.now ≡ Some t = sym (ap option_copied (here n same)) ∙ some in
        let row : table.now ≡ t = cc in
        let number : key.now ≡ first + n = omega (arith, eqb-true n place same, low) in
        subst (λ (e : ℕ × List Row). Contains now e) (ap (λ (k : ℕ). (k, table.now)) number ∙ ap (λ (u : List Row). (first + n, u)) row)
        (Contains-append_right (map deref_pair seen) ((key.now, table.now) ∷ []) (key.now, table.now) (zero, omega arith, refl))
    sound n t lt some false other =
        Contains-append_left (map deref_pair seen) ((key.now, table.now) ∷ []) (first + n, t) (put.sound n t lt (sym (ap option_copied (there n other)) ∙ some))

    complete : (n : ℕ) (t : List Row) → n < 32 → Contains (map deref_pair seen) (first + n, t) ⊎ (◌≡◌ {A = ℕ × List Row} (key.now, table.now) (first + n, t)) → (b : Bool) → eqb n place ≡ b
        → (other : List Row) × (option_copied (get_or (set tables place (Some table)) n None) ≡ Some other)
    complete n t lt at true same = (table.now, ap option_copied (here n same))
    complete n t lt (inl old) false other = let it = put.complete n t lt old in (it.0, ap option_copied (there n other) ∙ it.1)
    complete n t lt (inr is) false other =
        let number : key.now ≡ first + n = ap (λ (e : ℕ × List Row). e.0) is in
        absurd (eqb-false n place other (omega (arith, number)))

-- ---- the tables of a datapath

-- whether a table is of the datapath whose first table has this place
abbrev pub is_of : ℕ → ℕ × List Row → Bool
is_of first e = range_contains nat_cmp (Included first) (Excluded (first + 32)) e.0

-- its place is among those of the datapath
pub of_from : (first key : ℕ) → range_contains nat_cmp (Included first) (Excluded (first + 32)) key ≡ true → (first ≤ key) × (key < first + 32)
of_from first key is = (grind (arith, nat_tests, is), grind (arith, nat_tests, is))

pub from_of : (first n : ℕ) → n < 32 → range_contains nat_cmp (Included first) (Excluded (first + 32)) (first + n) ≡ true
from_of first n lt = grind (arith, nat_tests, lt)

-- a table that is gone through is of the datapath
pub gone_is_of : (first : ℕ) (entries all seen rest : List (ℕ × List Row)) (e : ℕ × List Row) → all ≡ filter (is_of first) entries → all ≡ seen ++ (e ∷ rest) → (first ≤ e.0) × (e.0 < first + 32)
gone_is_of first entries all seen rest e from split =
    of_from first e.0
    (All-contains (λ x. is_of first x ≡ true) (filter (is_of first) entries) e (filter_passes (is_of first) entries)
    (subst (λ l. Contains l e) (sym split ∙ from) (Contains-append_right seen (e ∷ rest) e (zero, omega arith, refl))))

-- what a filter keeps was there
was_there : {X : Type 0} (test : X → Bool) (xs : List X) (x : X) → Contains (filter test xs) x → Contains xs x
was_there test [] x there = there
was_there {X} test (e ∷ es) x there = by (test e) refl there (was_there test es x)
  where
    here : (e ≡ x) ⊎ Contains (filter test es) x → (Contains (filter test es) x → Contains es x) → Contains (e ∷ es) x
    here (inl is) rest = (zero, omega arith, is)
    here (inr more) rest = later e x es (rest more)

    by : (b : Bool) → test e ≡ b → Contains (filter test (e ∷ es)) x → (Contains (filter test es) x → Contains es x) → Contains (e ∷ es) x
    by true passes at rest = here (first_or_later e x (filter test es) (rw passes at at)) rest
    by false fails at rest = later e x es (rest (rw fails at at))

module _ (dp : ObjId) (m : BTreeMap ℕ (List Row)) (are : AreTables m.entries) (first : ℕ) (is_first : first ≡ dp.0 * 32) (tables : List (Option (Bor (List Row))))
    (put : ArePutIn first (filter (is_of first) m.entries) tables) (stage : Stage) (net : Lookup) (packet : Values) where
  abbrev pub n : ℕ
  n = stage_place stage

  lt : n < 32
  lt = place_below stage

  key_is : first + n ≡ table_key dp stage
  key_is = ap (λ (k : ℕ). k + n) is_first

  -- what is found in the table at the place of a stage is what is selected
  pub found_is_selected : found_in net packet (option_copied (get_or tables n None)) ≡ select dp stage net packet (flat m.entries)
  found_is_selected = by (option_copied (get_or tables n None)) refl
    where
      has : (t : List Row) → option_copied (get_or tables n None) ≡ Some t → get nat_cmp m (table_key dp stage) ≡ Some t
      has t some =
          (btree_map_get_iff nat_cmp_total exact_unsigned m are.rise (table_key dp stage) t).1
          (subst (λ (k : ℕ). Contains m.entries (k, t)) key_is (was_there (is_of first) m.entries (first + n, t) (put.sound n t lt some)))

      none : option_copied (get_or tables n None) ≡ None → (found : Option (List Row)) → get nat_cmp m (table_key dp stage) ≡ found → get nat_cmp m (table_key dp stage) ≡ None
      none empty None is = is
      none empty (Some t) is =
          let there = (btree_map_get_iff nat_cmp_total exact_unsigned m are.rise (table_key dp stage) t).0 is in
          let it = put.complete n t lt (among_kept (is_of first) m.entries (first + n, t) (from_of first n lt) (subst (λ (k : ℕ). Contains m.entries (k, t)) (sym key_is) there)) in
          let wrong : None ≡ Some it.0 = sym empty ∙ it.1 in absurd (cc)

      by : (table : Option (List Row)) → option_copied (get_or tables n None) ≡ table → found_in net packet table ≡ select dp stage net packet (flat m.entries)
      by None is = sym (select_nothing dp stage net packet m.entries are (none is (get nat_cmp m (table_key dp stage)) refl))
      by (Some t) is = sym (select_flat dp stage net packet m.entries t are (has t is))
