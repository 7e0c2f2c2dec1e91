-- Numbers that no record has, and the edits of the numbers before them.
use Rattle.std.proofs.Common.{◌≡◌, ℕ, zero, suc, ◌+◌, ◌-◌, ◌<◌, ◌≤◌, Bool, true, false, cond, eqb, List, [], ◌∷◌, ◌++◌, Some, None, map, refl, sym, ap, ◌∙◌, subst, arith}
use Rattle.std.specs.Prelude.{nat_lt}
use Rattle.std.specs.List.{AllByRecursion, flat_map, range_with_len}
use Rattle.std.proofs.lemmas.Bool.{eqb-true, ltb-true, ltb-false}
use Rattle.std.proofs.lemmas.Grind.{flat_map-append}
use Rattle.std.proofs.lemmas.List.{append-nil}
use Rattle.std.proofs.lemmas.List.FromFn.{map-range_with_len_more}
use Rattle.nv_base.specs.declared.object.ObjId.{ObjId}
use Rattle.nv_table.specs.Table.{NumbersRise, record_of, record_after}
use Rattle.nb_records.specs.declared.edit.Edit.{Edit}
use Rattle.nb_dump.specs.inner.Parts.{object, first_edits, AreNone}

-- no record has a number below all of them
none_below : {R : Type 0} (number : R → ObjId) (n m : ℕ) (xs : List R) → AllByRecursion (λ x. m < (number x).0) xs → n ≤ m → record_of number (object n) xs ≡ None
none_below number n m [] all low = refl
none_below number n m (x ∷ xs) all low = by (eqb n (number x).0) refl all.0 (none_below number n m xs all.1 low)
  where
    by : (b : Bool) → eqb n (number x).0 ≡ b → m < (number x).0 → record_of number (object n) xs ≡ None → cond b (Some x) (record_of number (object n) xs) ≡ None
    by true is up rest = let at : n ≡ (number x).0 = eqb-true n (number x).0 is in absurd (omega arith)
    by false is up rest = rest

-- where no record has a number above a low one, none has this one
pub free_above : {R : Type 0} (number : R → ObjId) (low n : ℕ) (xs : List R) → record_after number (Some (object low)) xs ≡ None → low < n
    → record_of number (object n) xs ≡ None
free_above number low n [] none up = refl
free_above number low n (x ∷ xs) none up = by (nat_lt low (number x).0) (eqb n (number x).0) refl refl none (λ e. free_above number low n xs e up)
  where
    by : (after b : Bool) → nat_lt low (number x).0 ≡ after → eqb n (number x).0 ≡ b
        → cond after (Some x) (record_after number (Some (object low)) xs) ≡ None
        → (record_after number (Some (object low)) xs ≡ None → record_of number (object n) xs ≡ None)
        → cond b (Some x) (record_of number (object n) xs) ≡ None
    by true b is same e rest = absurd cc
    by false true is same e rest = let at : n ≡ (number x).0 = eqb-true n (number x).0 same in let under : (number x).0 ≤ low = ltb-false low (number x).0 is in absurd (omega arith)
    by false false is same e rest = rest e

-- between a low number and that of the next record no record has one
pub free_before : {R : Type 0} (number : R → ObjId) (low n : ℕ) (r : R) (xs : List R) → NumbersRise number xs
    → record_after number (Some (object low)) xs ≡ Some r → low < n → n < (number r).0 → record_of number (object n) xs ≡ None
free_before number low n r [] rise found up under = refl
free_before number low n r (x ∷ xs) rise found up under =
    by (nat_lt low (number x).0) (eqb n (number x).0) refl refl found (λ e. free_before number low n r xs rise.1 e up under) (λ at. none_below number n (number x).0 xs rise.0 at)
  where
    by : (after b : Bool) → nat_lt low (number x).0 ≡ after → eqb n (number x).0 ≡ b
        → cond after (Some x) (record_after number (Some (object low)) xs) ≡ Some r
        → (record_after number (Some (object low)) xs ≡ Some r → record_of number (object n) xs ≡ None)
        → (n ≤ (number x).0 → record_of number (object n) xs ≡ None)
        → cond b (Some x) (record_of number (object n) xs) ≡ None
    by true true is same e rest below = let at : n ≡ (number x).0 = eqb-true n (number x).0 same in let first : x ≡ r = cc in
        let one : (number x).0 ≡ (number r).0 = ap (λ y. (number y).0) first in absurd (omega arith)
    by true false is same e rest below = let first : x ≡ r = cc in let one : (number x).0 ≡ (number r).0 = ap (λ y. (number y).0) first in below (omega arith)
    by false true is same e rest below =
        let at : n ≡ (number x).0 = eqb-true n (number x).0 same in let under' : (number x).0 ≤ low = ltb-false low (number x).0 is in absurd (omega arith)
    by false false is same e rest below = rest e

-- the next record has a greater number
pub found_above : {R : Type 0} (number : R → ObjId) (low : ℕ) (r : R) (xs : List R) → record_after number (Some (object low)) xs ≡ Some r → low < (number r).0
found_above number low r [] found = absurd cc
found_above number low r (x ∷ xs) found = by (nat_lt low (number x).0) refl found (λ e. found_above number low r xs e)
  where
    by : (after : Bool) → nat_lt low (number x).0 ≡ after → cond after (Some x) (record_after number (Some (object low)) xs) ≡ Some r
        → (record_after number (Some (object low)) xs ≡ Some r → low < (number r).0) → low < (number r).0
    by true is e rest = let first : x ≡ r = cc in let up : low < (number x).0 = ltb-true low (number x).0 is in subst (λ y. low < (number y).0) first up
    by false is e rest = rest e

-- the edits of one number more
one_more : (edits : ObjId → List Edit) (count n : ℕ) → 1 + count ≡ n → first_edits edits (count + 1) ≡ first_edits edits count ++ edits (object n)
one_more edits count n at =
    ap (flat_map edits) (map-range_with_len_more object 1 count n at) ∙ flat_map-append edits (map object (range_with_len 1 count)) (object n ∷ [])
    ∙ ap (λ l. first_edits edits count ++ l) (append-nil (edits (object n)))

-- where there are no edits between two numbers, those of the numbers before are all of them
grown : (edits : ObjId → List Edit) (low more : ℕ) → ((n : ℕ) → low < n → n ≤ low + more → edits (object n) ≡ []) → first_edits edits (low + more) ≡ first_edits edits low
grown edits low zero none = let e : low + 0 ≡ low = omega arith in ap (first_edits edits) e
grown edits low (suc more) none =
    let e : low + suc more ≡ (low + more) + 1 = omega arith in
    let last : edits (object (1 + (low + more))) ≡ [] = none (1 + (low + more)) (omega arith) (omega arith) in
    ap (first_edits edits) e ∙ one_more edits (low + more) (1 + (low + more)) refl ∙ ap (λ l. first_edits edits (low + more) ++ l) last
    ∙ append-nil (first_edits edits (low + more)) ∙ grown edits low more (λ n up under. none n up (omega arith))

-- the edits up to a number, where those between are none
pub up_to : (edits : ObjId → List Edit) (low high : ℕ) → low ≤ high - 1 → AreNone edits low high → first_edits edits (high - 1) ≡ first_edits edits low
up_to edits low high at none =
    let e : low + (high - 1 - low) ≡ high - 1 = omega arith in
    sym (ap (first_edits edits) e) ∙ grown edits low (high - 1 - low) (λ n up under. none n up (omega arith))

pub with_next : (edits : ObjId → List Edit) (low n : ℕ) → low < n → AreNone edits low n → first_edits edits n ≡ first_edits edits low ++ edits (object n)
with_next edits low n up none =
    let e : n - 1 + 1 ≡ n = omega arith in
    sym (ap (first_edits edits) e) ∙ one_more edits (n - 1) n (omega arith) ∙ ap (λ l. l ++ edits (object n)) (up_to edits low n (omega arith) none)
