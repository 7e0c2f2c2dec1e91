-- Numbers that records hold: which are still those of objects after a change.
use Rattle.std.proofs.Common.{◌≡◌, ⊎_elim, Bool, true, not, ◌&&◌, Some, None, Option, List, [], ◌∷◌, ◌++◌, map, refl, sym, ◌∙◌, subst}
use Rattle.std.specs.Prelude.{IsTrue, IsFalse, filter, find, filter_map, option_map}
use Rattle.std.specs.List.{list_all, list_any, cons_option}
use Rattle.std.proofs.lemmas.Bool.{and_parts, and_from, or_cases, or_left, or_right, or_parts, and_cases, cond_both, false≢true, not_from_false, not-true}
use Rattle.nv_base.specs.declared.object.ObjId.{ObjId}
use Rattle.nb_model.specs.Network.{same}
use Rattle.nb_model.specs.Belongs.{is_among, once}
use Rattle.nb_model.specs.Effect.{without, with_number}
use Rattle.nb_model.proofs.Lists.{same_self, same_is, among_left, among_right, among_parts, among_found}
use Rattle.nb_model.proofs.RecordLists.{all_as, all_filter, all_push}

-- each number among these is among those
abbrev pub Covers : List ObjId → List ObjId → Type 0
Covers ids ids' = (n : ObjId) → IsTrue (is_among n ids) → IsTrue (is_among n ids')

-- the number that a record holds, and each of those that it holds, is among these
abbrev pub refers : {X : Type 0} → (X → ObjId) → List ObjId → X → Bool
refers held ids x = is_among (held x) ids

abbrev pub all_refer : {X : Type 0} → (X → List ObjId) → List ObjId → X → Bool
all_refer held ids x = list_all (λ n. is_among n ids) (held x)

pub refers_covered : {X : Type 0} (held : X → ObjId) (ids ids' : List ObjId) (xs : List X) → Covers ids ids' → IsTrue (list_all (refers held ids) xs) → IsTrue (list_all (refers held ids') xs)
refers_covered held ids ids' xs covers all = all_as (refers held ids) (refers held ids') xs (λ x there. covers (held x) there) all

pub all_refer_covered : {X : Type 0} (held : X → List ObjId) (ids ids' : List ObjId) (xs : List X) → Covers ids ids' → IsTrue (list_all (all_refer held ids) xs) → IsTrue (list_all (all_refer held ids') xs)
all_refer_covered held ids ids' xs covers all =
    all_as (all_refer held ids) (all_refer held ids') xs (λ x there. all_as (λ n. is_among n ids) (λ n. is_among n ids') (held x) covers there) all

-- the same numbers
pub covers_same : (ids ids' : List ObjId) → ids' ≡ ids → Covers ids ids'
covers_same ids ids' is n there = subst (λ (given : List ObjId). IsTrue (is_among n given)) (sym is) there

-- one more
pub covers_more : {X : Type 0} (id : X → ObjId) (xs : List X) (x : X) → Covers (map id xs) (map id (xs ++ x ∷ []))
covers_more id [] x n there = absurd (false≢true there)
covers_more id (y ∷ ys) x n there =
    ⊎_elim (λ at. or_left (same n (id y)) (is_among n (map id (ys ++ x ∷ []))) at)
    (λ later. or_right (same n (id y)) (is_among n (map id (ys ++ x ∷ []))) (covers_more id ys x n later)) (or_cases (same n (id y)) (is_among n (map id ys)) there)

-- those of two kinds
pub among_both : (n : ObjId) (xs xs' ys ys' : List ObjId) → (IsTrue (is_among n xs) → IsTrue (is_among n xs')) → (IsTrue (is_among n ys) → IsTrue (is_among n ys')) → IsTrue (is_among n (xs ++ ys))
    → IsTrue (is_among n (xs' ++ ys'))
among_both n xs xs' ys ys' first second there = ⊎_elim (λ a. among_left n xs' ys' (first a)) (λ b. among_right n xs' ys' (second b)) (among_parts n xs ys there)

-- a number is still there where what has it is kept
still_here : {X : Type 0} (id : X → ObjId) (keep : X → Bool) (x : X) (xs : List X) (n : ObjId) → IsTrue (same n (id x)) → IsTrue (keep x)
    → IsTrue (is_among n (map id (filter keep (x ∷ xs))))
still_here id keep x xs n at kept =
    cond_both (keep x) (x ∷ filter keep xs) (filter keep xs) (λ ys. IsTrue (is_among n (map id ys)))
    (λ is. or_left (same n (id x)) (is_among n (map id (filter keep xs))) at) (λ is. absurd (false≢true (sym is ∙ kept)))

still_later : {X : Type 0} (id : X → ObjId) (keep : X → Bool) (x : X) (xs : List X) (n : ObjId) → IsTrue (is_among n (map id (filter keep xs)))
    → IsTrue (is_among n (map id (filter keep (x ∷ xs))))
still_later id keep x xs n later =
    cond_both (keep x) (x ∷ filter keep xs) (filter keep xs) (λ ys. IsTrue (is_among n (map id ys)))
    (λ is. or_right (same n (id x)) (is_among n (map id (filter keep xs))) later) (λ is. later)

-- a number that is not gone is still there
pub among_others : {X : Type 0} (id : X → ObjId) (gone : ObjId → Bool) (xs : List X) (n : ObjId) → IsTrue (not (gone n)) → IsTrue (is_among n (map id xs))
    → IsTrue (is_among n (map id (without (λ x. gone (id x)) xs)))
among_others id gone [] n kept there = there
among_others {X} id gone (x ∷ xs) n kept there =
    let keep : X → Bool = λ y. not (gone (id y)) in
    ⊎_elim (λ at. still_here id keep x xs n at (subst (λ (m : ObjId). IsTrue (not (gone m))) (same_is n (id x) at) kept))
    (λ later. still_later id keep x xs n (among_others id gone xs n kept later)) (or_cases (same n (id x)) (is_among n (map id xs)) there)

-- a number of which no owner is gone is still there
pub among_kept : {X : Type 0} (id : X → ObjId) (gone : X → Bool) (xs : List X) (n : ObjId) → IsTrue (not (list_any (λ x. same (id x) n && gone x) xs))
    → IsTrue (is_among n (map id xs)) → IsTrue (is_among n (map id (without gone xs)))
among_kept id gone [] n kept there = there
among_kept {X} id gone (x ∷ xs) n kept there =
    let keep : X → Bool = λ y. not (gone y) in
    let parts = or_parts (same (id x) n && gone x) (list_any (λ y. same (id y) n && gone y) xs) (not-true (list_any (λ y. same (id y) n && gone y) (x ∷ xs)) kept) in
    ⊎_elim (λ at. still_here id keep x xs n at (stays (same_is n (id x) at) parts.0))
    (λ later. still_later id keep x xs n (among_kept id gone xs n (not_from_false (list_any (λ y. same (id y) n && gone y) xs) parts.1) later))
    (or_cases (same n (id x)) (is_among n (map id xs)) there)
  where
    stays : n ≡ id x → IsFalse (same (id x) n && gone x) → IsTrue (not (gone x))
    stays is none = ⊎_elim (λ differs. absurd (false≢true (sym differs ∙ subst (λ (m : ObjId). IsTrue (same (id x) m)) (sym is) (same_self (id x)))))
        (λ left. not_from_false (gone x) left) (and_cases (same (id x) n) (gone x) none)

-- the number of what is found is there
pub among_found_number : {X : Type 0} (id : X → ObjId) (p : X → Bool) (xs : List X) (n : ObjId) → option_map id (find p xs) ≡ Some n → IsTrue (is_among n (map id xs))
among_found_number {X} id p xs n found = by (find p xs) refl found
  where
    by : (one : Option X) → find p xs ≡ one → option_map id one ≡ Some n → IsTrue (is_among n (map id xs))
    by None is none = cc
    by (Some x) is some = let at : id x ≡ n = cc in subst (λ (m : ObjId). IsTrue (is_among m (map id xs))) at (among_found id p xs x is)

-- numbers of what is found, each once
pub all_once : (p : ObjId → Bool) (ns : List ObjId) → IsTrue (list_all p ns) → IsTrue (list_all p (once ns))
all_once p [] all = refl
all_once p (n ∷ ns) all =
    let parts = and_parts (p n) (list_all p ns) all in
    let others : ObjId → Bool = λ other. not (same n other) in
    and_from (p n) (list_all p (filter others (once ns))) parts.0 (all_filter p others (once ns) (all_once p ns parts.1))

pub all_found : {X Y : Type 0} (p : Y → Bool) (look : X → Option Y) (xs : List X) → ((x : X) (y : Y) → look x ≡ Some y → IsTrue (p y)) → IsTrue (list_all p (filter_map look xs))
all_found p look [] each = refl
all_found {X} {Y} p look (x ∷ xs) each = by (all_found p look xs each) (look x) refl
  where
    by : IsTrue (list_all p (filter_map look xs)) → (one : Option Y) → look x ≡ one → IsTrue (list_all p (cons_option one (filter_map look xs)))
    by more None is = more
    by more (Some y) is = and_from (p y) (list_all p (filter_map look xs)) (each x y is) more

-- a number more, where it is not there
pub all_with_number : (p : ObjId → Bool) (n : ObjId) (ns : List ObjId) → IsTrue (p n) → IsTrue (list_all p ns) → IsTrue (list_all p (with_number n ns))
all_with_number p n ns of all =
    cond_both (is_among n ns) ns (ns ++ n ∷ []) (λ given. IsTrue (list_all p given)) (λ there. all) (λ absent. all_push p ns n all of)
