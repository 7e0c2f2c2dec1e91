-- Rows in row order rise by their tables, and a table's rows are those of one key.
use Rattle.std.proofs.Common.{◌≡◌, ℕ, ◌+◌, ◌*◌, ◌-◌, ◌<◌, ◌≤◌, Bool, true, false, List, [], ◌∷◌, eqb, ap, refl, ◌∙◌, arith}
use Rattle.std.specs.Prelude.{◌&&◌}
use Rattle.std.specs.Ordering.{is_lt, nat_cmp, ordering_then}
use Rattle.std.specs.List.{find}
use Rattle.std.specs.List.Sorted.{IsNonDecreasingBy}
use Rattle.std.proofs.lemmas.Bool.{eqb-true, eq-eqb, and_parts}
use Rattle.std.proofs.lemmas.Bool.Decides.{nat_tests}
use Rattle.std.proofs.lemmas.List.Sorted.{IsNonDecreasingBy-from_all_adjacent}
use Rattle.sb_model.specs.declared.stage.Stage.{Stage}
use Rattle.sb_model.specs.declared.row.Row.{Row}
use Rattle.sb_rows.specs.Row.{key_cmp, IsInRowOrder}
use Rattle.sb_rows.specs.Match.{is_in_table}
use Rattle.sb_rows.specs.inner.Beside.{FitsItsKey, key_of_row, order_of_keys}
use Rattle.sb_rows.specs.inner.Tables.{table_key, rank_key, key_of}
use Rattle.sb_rows.proofs.Order.{keys_in_order}
use Rattle.sb_model.specs.Stage.{stage_place}
use Rattle.sb_model.proofs.Stages.{place_below, stage_from_place}
use Rattle.nv_base.specs.declared.object.ObjId.{ObjId}

-- a row that is not before another has no lower table
pub key_from_order : (x y : Row) → is_lt (key_cmp y x) ≡ false → key_of x ≤ key_of y
unfolding key_cmp
key_from_order x y h =
    let a = place_below x.stage in
    let b = place_below y.stage in
    grind (arith, nat_tests)

-- rows in order are in the order of their tables
pub keys_rise : (xs : List Row) → IsInRowOrder xs → IsNonDecreasingBy key_of xs
keys_rise xs up = IsNonDecreasingBy-from_all_adjacent key_of xs (λ k d lt. key_from_order _ _ (keys_in_order xs up k d (omega arith) lt))

-- the order of two tables is that of their places
by_table : (dp p t q : ℕ) → p < 32 → q < 32 → nat_cmp (dp * 32 + p) (t * 32 + q) ≡ ordering_then (nat_cmp dp t) (nat_cmp p q)
by_table dp p t q a b = grind (arith, nat_tests)

-- and that of two rows of a table is that of theirs
by_rank : (a h b k : ℕ) → a < 65536 → b < 65536 → h < 4294967296 → k < 4294967296
    → nat_cmp ((65535 - a) * 4294967296 + h) ((65535 - b) * 4294967296 + k) ≡ ordering_then (nat_cmp b a) (nat_cmp h k)
by_rank a h b k fa fb fh fk = grind (arith, nat_tests)

-- so the order of keys is that of rows but for their matches
pub keys_order : (x y : Row) → FitsItsKey x → FitsItsKey y → order_of_keys (key_of_row x) (key_of_row y) ≡ key_cmp x y
unfolding key_cmp
keys_order x y first second =
    ap (λ table. ordering_then table (nat_cmp (rank_key x.priority x.hint) (rank_key y.priority y.hint))) (by_table x.dp.0 (stage_place x.stage) y.dp.0 (stage_place y.stage) (place_below x.stage) (place_below y.stage))
    ∙ ap (ordering_then (ordering_then (nat_cmp x.dp.0 y.dp.0) (nat_cmp (stage_place x.stage) (stage_place y.stage)))) (by_rank x.priority x.hint.0 y.priority y.hint.0 first.0 second.0 first.1 second.1)

-- a row is of a table where it has its key
key_tells : (dp p t q : ℕ) → p < 32 → q < 32 → eqb (dp * 32 + p) (t * 32 + q) ≡ (eqb dp t && eqb p q)
key_tells dp p t q a b = grind (arith, nat_tests)

pub in_table-key : (dp : ObjId) (stage : Stage) (r : Row) → eqb (key_of r) (table_key dp stage) ≡ is_in_table dp stage r
in_table-key dp stage r = key_tells r.dp.0 (stage_place r.stage) dp.0 (stage_place stage) (place_below r.stage) (place_below stage)

module _ {X : Type 0} (p : X → Bool) where
  -- two searches whose tests agree find the same
  pub find_alike : (q : X → Bool) → ((x : X) → p x ≡ q x) → (xs : List X) → find p xs ≡ find q xs
  find_alike q same [] = refl
  find_alike q same (x ∷ xs) = rw (same x, find_alike q same xs) refl

-- a row is in the table of its own datapath and stage
pub in_table-from : (dp : ObjId) (stage : Stage) (r : Row) → r.dp ≡ dp → r.stage ≡ stage → is_in_table dp stage r ≡ true
in_table-from dp stage r d s =
    rw (eq-eqb _ _ (ap (λ (o : ObjId). o.0) d), eq-eqb _ _ (ap stage_place s)) refl

-- and in no other
pub in_table-gives : (dp : ObjId) (stage : Stage) (r : Row) → is_in_table dp stage r ≡ true → (r.dp ≡ dp) × (r.stage ≡ stage)
in_table-gives dp stage r e =
    let parts = and_parts _ _ e in
    let number : r.dp.0 ≡ dp.0 = eqb-true _ _ parts.0 in
    (ap (λ (n : ℕ). record { 0 = n }) number, stage_from_place _ _ (eqb-true _ _ parts.1))
