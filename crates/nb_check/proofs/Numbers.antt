-- Lists of numbers: which are there after some records are gone, and which are noted.
use Rattle.std.proofs.Common.{◌≡◌, ℕ, ◌<◌, ⊎_elim, Bool, true, false, cond, not, ◌&&◌, ◌||◌, nat_lt, Option, Some, None, List, [], ◌∷◌, ◌++◌, map, append-nil, arith, refl, sym, ap, ◌∙◌, subst}
use Rattle.std.specs.Prelude.{filter}
use Rattle.std.specs.List.{flat_map, list_all}
use Rattle.std.proofs.lemmas.Bool.{and_parts, eqb-true, false≢true, lt-ltb, ltb-true, ne_eqb, or_cases, or_left, or_right}
use Rattle.nv_base.specs.declared.object.ObjId.{ObjId}
use Rattle.nb_model.specs.Belongs.{is_among, is_number}
use Rattle.nb_model.specs.Effect.{without}
use Rattle.nb_model.specs.Network.{same}
use Rattle.nb_model.specs.Sound.{is_rising}
use Rattle.nb_model.proofs.Lists.{among_left, among_parts, among_right, same_is}
use Rattle.nb_check.specs.inner.Going.{below}

-- where none of two holds, neither does
neither : (a b : Bool) → (a || b) ≡ false → (a ≡ false) × (b ≡ false)
neither false b none = (refl, none)
neither true b none = absurd (false≢true (sym none))

-- a number that is there is the number of one that stays or of one that goes
pub gone_with : {X : Type 0} (id : X → ObjId) (goes : X → Bool) (xs : List X) (n : ObjId) → is_among n (map id xs) ≡ true → is_among n (map id (without goes xs)) ≡ false
    → is_among n (map id (filter goes xs)) ≡ true
gone_with id goes [] n there left = there
gone_with {X} id goes (x ∷ xs) n there left = by (goes x) left (gone_with id goes xs n)
  where
    by : (b : Bool) → is_among n (map id (cond (not b) (x ∷ without goes xs) (without goes xs))) ≡ false
        → (is_among n (map id xs) ≡ true → is_among n (map id (without goes xs)) ≡ false → is_among n (map id (filter goes xs)) ≡ true)
        → is_among n (map id (cond b (x ∷ filter goes xs) (filter goes xs))) ≡ true
    by true none more =
        ⊎_elim (λ here. or_left (same n (id x)) (is_among n (map id (filter goes xs))) here)
        (λ later. or_right (same n (id x)) (is_among n (map id (filter goes xs))) (more later none)) (or_cases (same n (id x)) (is_among n (map id xs)) there)
    by false none more =
        let none_of = neither (same n (id x)) (is_among n (map id (without goes xs))) none in
        ⊎_elim (λ here. absurd (false≢true (sym none_of.0 ∙ here))) (λ later. more later none_of.1) (or_cases (same n (id x)) (is_among n (map id xs)) there)

-- a number of some is one of all
pub of_some : {X : Type 0} (id : X → ObjId) (kept : X → Bool) (xs : List X) (n : ObjId) → is_among n (map id (filter kept xs)) ≡ true → is_among n (map id xs) ≡ true
of_some id kept [] n there = there
of_some {X} id kept (x ∷ xs) n there = by (kept x) there (of_some id kept xs n)
  where
    by : (b : Bool) → is_among n (map id (cond b (x ∷ filter kept xs) (filter kept xs))) ≡ true → (is_among n (map id (filter kept xs)) ≡ true → is_among n (map id xs) ≡ true)
        → (same n (id x) || is_among n (map id xs)) ≡ true
    by true some more =
        ⊎_elim (λ here. or_left (same n (id x)) (is_among n (map id xs)) here) (λ later. or_right (same n (id x)) (is_among n (map id xs)) (more later))
        (or_cases (same n (id x)) (is_among n (map id (filter kept xs))) some)
    by false some more = or_right (same n (id x)) (is_among n (map id xs)) (more some)

-- what is not true is false
pub not_true : (b : Bool) → (b ≡ true → ⊥) → b ≡ false
not_true false fails = refl
not_true true fails = absurd (fails refl)

-- a number below all of these is none of them
not_among : (n : ObjId) (numbers : List ObjId) → list_all (λ later. nat_lt n.0 later.0) numbers ≡ true → is_among n numbers ≡ false
not_among n [] low = refl
not_among n (number ∷ numbers) low =
    let parts = and_parts (nat_lt n.0 number.0) (list_all (λ later. nat_lt n.0 later.0) numbers) low in
    let differs : same n number ≡ false = ne_eqb n.0 number.0 (λ is. absurd (omega (arith, is, ltb-true n.0 number.0 parts.0))) in
    ap (λ b. b || is_among n numbers) differs ∙ not_among n numbers parts.1

-- where numbers rise, the number of one that goes is none of those that stay
pub apart_gone : {X : Type 0} (id : X → ObjId) (goes : X → Bool) (xs : List X) (n : ObjId) → is_rising (map id xs) ≡ true → is_among n (map id (filter goes xs)) ≡ true
    → is_among n (map id (without goes xs)) ≡ false
apart_gone id goes [] n rise there = refl
apart_gone {X} id goes (x ∷ xs) n rise there = by (goes x) there (apart_gone id goes xs n parts.1)
  where
    parts : (list_all (λ later. nat_lt (id x).0 later.0) (map id xs) ≡ true) × (is_rising (map id xs) ≡ true)
    parts = and_parts (list_all (λ later. nat_lt (id x).0 later.0) (map id xs)) (is_rising (map id xs)) rise

    -- it is none of those after it
    none_later : same n (id x) ≡ true → is_among n (map id xs) ≡ true → ⊥
    none_later here later = absurd (false≢true (sym (not_among (id x) (map id xs) parts.0) ∙ subst (λ (m : ObjId). is_among m (map id xs) ≡ true) (same_is n (id x) here) later))

    by : (b : Bool) → is_among n (map id (cond b (x ∷ filter goes xs) (filter goes xs))) ≡ true → (is_among n (map id (filter goes xs)) ≡ true → is_among n (map id (without goes xs)) ≡ false)
        → is_among n (map id (cond (not b) (x ∷ without goes xs) (without goes xs))) ≡ false
    by true some more =
        ⊎_elim (λ here. not_true (is_among n (map id (without goes xs))) (λ later. none_later here (of_some id (λ y. not (goes y)) xs n later))) more
        (or_cases (same n (id x)) (is_among n (map id (filter goes xs))) some)
    by false some more =
        let differs : same n (id x) ≡ false = not_true (same n (id x)) (λ here. none_later here (of_some id goes xs n some)) in
        ap (λ b. b || is_among n (map id (without goes xs))) differs ∙ more some

-- no number of those without one number is that number
pub not_left : {X : Type 0} (id : X → ObjId) (number : ObjId) (xs : List X) → is_among number (map id (without (λ x. same number (id x)) xs)) ≡ false
not_left id number [] = refl
not_left {X} id number (x ∷ xs) = by (same number (id x)) refl (not_left id number xs)
  where
    by : (b : Bool) → same number (id x) ≡ b → is_among number (map id (without (λ y. same number (id y)) xs)) ≡ false
        → is_among number (map id (cond (not b) (x ∷ without (λ y. same number (id y)) xs) (without (λ y. same number (id y)) xs))) ≡ false
    by true is rest = rest
    by false differs rest = ap (λ b. b || is_among number (map id (without (λ y. same number (id y)) xs))) differs ∙ rest

-- the numbers below the first are noted
pub noted : (first : ℕ) (numbers : List ObjId) (n : ObjId) → n.0 < first → is_among n numbers ≡ true → is_among n (flat_map (below first) numbers) ≡ true
noted first [] n low there = there
noted first (number ∷ numbers) n low there =
    ⊎_elim (λ here. among_left n (below first number) (flat_map (below first) numbers) (own here))
    (λ later. among_right n (below first number) (flat_map (below first) numbers) (noted first numbers n low later)) (or_cases (same n number) (is_among n numbers) there)
  where
    own : same n number ≡ true → is_among n (below first number) ≡ true
    own here = rw (lt-ltb number.0 first (subst (λ m. m < first) (eqb-true n.0 number.0 here) low)) (or_left (same n number) false here)

-- and what is noted is one of the numbers, and below the first
pub is_noted : (first : ℕ) (numbers : List ObjId) (n : ObjId) → is_among n (flat_map (below first) numbers) ≡ true → (n.0 < first) × (is_among n numbers ≡ true)
is_noted first [] n there = absurd (false≢true there)
is_noted first (number ∷ numbers) n there =
    ⊎_elim (λ here. by (nat_lt number.0 first) refl here)
    (λ later. let rest = is_noted first numbers n later in (rest.0, or_right (same n number) (is_among n numbers) rest.1))
    (among_parts n (below first number) (flat_map (below first) numbers) there)
  where
    by : (b : Bool) → nat_lt number.0 first ≡ b → is_among n (cond b (number ∷ []) []) ≡ true → (n.0 < first) × ((same n number || is_among n numbers) ≡ true)
    by false high here = absurd (false≢true here)
    by true low here =
        let own : same n number ≡ true = ⊎_elim (λ is. is) (λ none. absurd (false≢true none)) (or_cases (same n number) false here) in
        (subst (λ m. m < first) (sym (eqb-true n.0 number.0 own)) (ltb-true number.0 first low), or_left (same n number) (is_among n numbers) own)

-- the one number of a list
pub only : (n number : ObjId) → is_among n (number ∷ []) ≡ true → n ≡ number
only n number there = same_is n number (⊎_elim (λ own. own) (λ none. absurd (false≢true none)) (or_cases (same n number) false there))

-- numbers of a sound network are below the next one
pub all_low : (next : ℕ) (numbers : List ObjId) (n : ObjId) → list_all (λ number. nat_lt 0 number.0 && nat_lt number.0 next) numbers ≡ true → is_among n numbers ≡ true → n.0 < next
all_low next [] n low there = absurd (false≢true there)
all_low next (number ∷ numbers) n low there =
    let parts = and_parts (nat_lt 0 number.0 && nat_lt number.0 next) (list_all (λ number. nat_lt 0 number.0 && nat_lt number.0 next) numbers) low in
    ⊎_elim (λ here. subst (λ (m : ObjId). m.0 < next) (sym (same_is n number here)) (ltb-true number.0 next (and_parts (nat_lt 0 number.0) (nat_lt number.0 next) parts.0).1))
    (λ later. all_low next numbers n parts.1 later) (or_cases (same n number) (is_among n numbers) there)

-- ---- numbers of what belongs to one

-- those of records
numbers_noted : {X : Type 0} (id : X → ObjId) (first : ℕ) (xs : List X) → flat_map (λ x. below first (id x)) xs ≡ flat_map (below first) (map id xs)
numbers_noted id first [] = refl
numbers_noted id first (x ∷ xs) = ap (λ rest. below first (id x) ++ rest) (numbers_noted id first xs)

none_owned : {X : Type 0} (owner : X → ObjId) (xs : List X) → filter (λ x. is_number None (owner x)) xs ≡ []
none_owned owner [] = refl
none_owned owner (x ∷ xs) = none_owned owner xs

module _ {X : Type 0} (id owner : X → ObjId) (first : ℕ) (xs : List X) where
  -- those of the records that belong to what is found
  abbrev owned : Option ObjId → List ObjId
  owned found = map id (filter (λ x. is_number found (owner x)) xs)

  pub owned_noted : (found : Option ObjId) (one : ObjId) → Some one ≡ found → flat_map (λ x. below first (id x)) (filter (λ x. same one (owner x)) xs) ≡ flat_map (below first) (owned found)
  owned_noted found one is = numbers_noted id first (filter (λ x. same one (owner x)) xs) ∙ ap (λ (o : Option ObjId). flat_map (below first) (owned o)) is

  pub none_noted : (found : Option ObjId) (numbers : List ObjId) → None ≡ found → numbers ≡ numbers ++ flat_map (below first) (owned found)
  none_noted found numbers is =
      sym (append-nil numbers) ∙ ap (λ (kept : List X). numbers ++ flat_map (below first) (map id kept)) (sym (none_owned owner xs))
      ∙ ap (λ (o : Option ObjId). numbers ++ flat_map (below first) (owned o)) is
