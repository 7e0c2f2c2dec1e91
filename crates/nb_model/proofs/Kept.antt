-- The numbers of one kind before and after an edit: some gone, or the next one more.
use Rattle.std.proofs.Common.{◌≡◌, ℕ, ◌+◌, ◌<◌, ◌≤◌, Bool, not, ◌&&◌, cond, eqb, List, [], ◌∷◌, ◌++◌, map, refl, sym, ap, ◌∙◌, subst, arith}
use Rattle.std.specs.Prelude.{IsTrue, nat_lt, filter}
use Rattle.std.specs.List.{list_all}
use Rattle.std.proofs.lemmas.List.{map-append}
use Rattle.std.proofs.lemmas.List.Folds.{list_all-map}
use Rattle.std.proofs.lemmas.Bool.{and_parts, and_from, cond_both, ltb-true, lt-ltb}
use Rattle.nv_base.specs.declared.object.ObjId.{ObjId}
use Rattle.nb_model.specs.Effect.{without}
use Rattle.nb_model.specs.Sound.{is_rising}
use Rattle.nb_model.proofs.Copies.{copies, copies_append, copies_kept}
use Rattle.nb_model.proofs.RecordLists.{all_as, all_filter, all_push}

-- a number from 1 on and below the next one
abbrev pub is_used : ℕ → ObjId → Bool
is_used next number = nat_lt 0 number.0 && nat_lt number.0 next

-- numbers after an edit, whose next number is `after`: `more` is how many are new
pub record Kept (next after more : ℕ) (ids ids' : List ObjId) : Type 0 where
  pub rising : IsTrue (is_rising ids) → IsTrue (list_all (is_used next) ids) → IsTrue (is_rising ids')
  pub below : IsTrue (list_all (is_used next) ids) → IsTrue (list_all (is_used after) ids')
  pub once : (n : ℕ) → copies n ids' ≤ copies n ids + cond (eqb n next) more 0

-- a number below the next one is below a later one
used_later : (next after : ℕ) → next ≤ after → (x : ObjId) → IsTrue (is_used next x) → IsTrue (is_used after x)
used_later next after later x used =
    let parts = and_parts (nat_lt 0 x.0) (nat_lt x.0 next) used in
    let low : x.0 < next = ltb-true x.0 next parts.1 in
    and_from (nat_lt 0 x.0) (nat_lt x.0 after) parts.0 (lt-ltb x.0 after (omega arith))

-- numbers that no edit touches
pub untouched : (next after : ℕ) (ids : List ObjId) → next ≤ after → Kept next after 0 ids ids
untouched next after ids later = record {
  rising = λ rising below. rising;
  below = λ below. all_as (is_used next) (is_used after) ids (used_later next after later) below;
  once = λ n. omega arith;
}

-- of the numbers of those that are kept
pub all_map_kept : {X : Type 0} (p : ObjId → Bool) (id : X → ObjId) (keep : X → Bool) (xs : List X) → IsTrue (list_all p (map id xs)) → IsTrue (list_all p (map id (filter keep xs)))
all_map_kept p id keep xs all =
    list_all-map p id (filter keep xs) ∙ all_filter (λ x. p (id x)) keep xs (sym (list_all-map p id xs) ∙ all)

-- numbers that rise still do with some gone
pub rising_kept : {X : Type 0} (id : X → ObjId) (keep : X → Bool) (xs : List X) → IsTrue (is_rising (map id xs)) → IsTrue (is_rising (map id (filter keep xs)))
rising_kept id keep [] rising = refl
rising_kept id keep (x ∷ xs) rising =
    let above = λ (later : ObjId). nat_lt (id x).0 later.0 in
    let parts = and_parts (list_all above (map id xs)) (is_rising (map id xs)) rising in
    let more = rising_kept id keep xs parts.1 in
    cond_both (keep x) (x ∷ filter keep xs) (filter keep xs) (λ ys. IsTrue (is_rising (map id ys)))
    (λ is. and_from (list_all above (map id (filter keep xs))) (is_rising (map id (filter keep xs))) (all_map_kept above id keep xs parts.0) more) (λ is. more)

-- some of them are gone
pub some_gone : {X : Type 0} (id : X → ObjId) (gone : X → Bool) (xs : List X) (next : ℕ) → Kept next next 0 (map id xs) (map id (without gone xs))
some_gone {X} id gone xs next =
    let keep : X → Bool = λ x. not (gone x) in
    record {
      rising = λ rising below. rising_kept id keep xs rising;
      below = λ below. all_map_kept (is_used next) id keep xs below;
      once = λ n. let fewer : copies n (map id (filter keep xs)) ≤ copies n (map id xs) = copies_kept id keep n xs in omega arith;
    }

-- numbers that are the same
pub same_numbers : (next : ℕ) (ids ids' : List ObjId) → ids' ≡ ids → Kept next next 0 ids ids'
same_numbers next ids ids' is = subst (λ (given : List ObjId). Kept next next 0 ids given) (sym is) (untouched next next ids (omega arith))

-- a number above all others joins rising numbers
rising_more : (next : ℕ) (ids : List ObjId) → IsTrue (is_rising ids) → IsTrue (list_all (is_used next) ids) → IsTrue (is_rising (ids ++ record { 0 = next } ∷ []))
rising_more next [] rising below = refl
rising_more next (x ∷ xs) rising below =
    let above = λ (later : ObjId). nat_lt x.0 later.0 in
    let parts = and_parts (list_all above xs) (is_rising xs) rising in
    let used = and_parts (is_used next x) (list_all (is_used next) xs) below in
    let low = and_parts (nat_lt 0 x.0) (nat_lt x.0 next) used.0 in
    let new : List ObjId = record { 0 = next } ∷ [] in
    and_from (list_all above (xs ++ new)) (is_rising (xs ++ new))
    (all_push above xs (record { 0 = next }) parts.0 low.1) (rising_more next xs parts.1 used.1)

-- the next number more
one_more : (next : ℕ) (ids : List ObjId) → 0 < next → Kept next (next + 1) 1 ids (ids ++ record { 0 = next } ∷ [])
one_more next ids from_one = record {
  rising = rising_more next ids;
  below = λ below.
      all_push (is_used (next + 1)) ids (record { 0 = next }) (all_as (is_used next) (is_used (next + 1)) ids (used_later next (next + 1) (omega arith)) below)
      (and_from (nat_lt 0 next) (nat_lt next (next + 1)) (lt-ltb 0 next from_one) (lt-ltb next (next + 1) (omega arith)));
  once = λ n. let split = copies_append n ids (record { 0 = next } ∷ []) in omega (arith, split);
}

pub one_new : {X : Type 0} (id : X → ObjId) (xs : List X) (x : X) (next : ℕ) → 0 < next → id x ≡ record { 0 = next }
    → Kept next (next + 1) 1 (map id xs) (map id (xs ++ x ∷ []))
one_new id xs x next from_one is =
    subst (λ (given : List ObjId). Kept next (next + 1) 1 (map id xs) given)
    (sym (map-append id xs (x ∷ []) ∙ ap (λ (number : ObjId). map id xs ++ number ∷ []) is)) (one_more next (map id xs) from_one)
