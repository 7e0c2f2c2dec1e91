-- Lists of cubes that are filled or joined one after the other.
use Rattle.std.proofs.Common.{◌≡◌, ℕ, ◌<◌, ◌≤◌, ◌+◌, Bool, true, false, cond, List, [], ◌∷◌, ◌++◌, length, map, drop, slice_index_or, Option, Some, None, Ok, Err, refl, sym, ap, ◌∙◌, arith, append_assoc, length-append, lit≤}
use Rattle.std.specs.List.{flat_map, filter}
use Rattle.std.proofs.lemmas.Bool.{le-leb, lt-leb}
use Rattle.std.proofs.lemmas.List.{at_drop_more, at_drop_all, append-nil, get_or_default}
use Rattle.expr_core.specs.Formula.{Formula, formulas}
use Rattle.expr_core.specs.declared.typed.TypedAtom.{TypedAtom}
use Rattle.cube_core.specs.Cubes.{Names, match_cubes, operand_cubes}
use Rattle.cube_core.specs.declared.cube.Cube.{Cube}
use Rattle.cube_core.specs.declared.fault.CubeFault.{CubeFault}
use Rattle.cube_core.specs.declared.fault.CubeFault.TheVariants.{Limit, Memory}
use Rattle.cube_core.specs.Cube.{share, meet}
use Rattle.cube_core.specs.Limit.{cube_limit, limited, meets, joined, joined_none, join_one, join_each, join_all}
use Rattle.cube_core.specs.inner.Answers.{IsAnswer, Adds}

-- ---- one list after the other is put last

-- what is added at the end of what a fault stopped is too long with more after it
longer : (old whole mid one : List Cube) (rest : List Cube) → mid ++ (one ++ rest) ≡ old ++ whole → cube_limit < length (mid ++ one) → cube_limit < length (old ++ whole)
longer old whole mid one rest same long =
    let lengths = ap length same in
    omega (arith, length-append mid (one ++ rest), length-append one rest, length-append mid one, lengths, long)

pub stopped : (old whole mid one rest new : List Cube) (fault : CubeFault) → mid ++ (one ++ rest) ≡ old ++ whole → Adds mid one new (Err fault) → Adds old whole new (Err fault)
stopped old whole mid one rest new Limit same long = longer old whole mid one rest same long
stopped old whole mid one rest new Memory same none = tt

module _ {X : Type 0} (h : X → List Cube) (xs : List X) (old : List Cube) where
  -- the lists of the first elements are there
  pub record Filled (now : List Cube) (i : ℕ) : Type 0 where
    pub whole : now ++ flat_map h (drop i xs) ≡ old ++ flat_map h xs
    pub short : length now ≤ cube_limit

  pub filled_none : length old ≤ cube_limit → Filled old 0
  filled_none short = record { whole = refl; short = short }

  here : (now : List Cube) (i : ℕ) (x : X) → i < length xs → x ≡ slice_index_or xs i x → Filled now i → now ++ (h x ++ flat_map h (drop (i + 1) xs)) ≡ old ++ flat_map h xs
  here now i x within is filled =
      ap (λ y. now ++ (h y ++ flat_map h (drop (i + 1) xs))) is
      ∙ ap (λ l. now ++ l) (sym (at_drop_more (flat_map h) xs i x within)) ∙ filled.whole

  pub filled_more : (now : List Cube) (i : ℕ) (x : X) → i < length xs → x ≡ slice_index_or xs i x → Filled now i → (new : List Cube) → Adds now (h x) new (Ok tt) → Filled new (i + 1)
  filled_more now i x within is filled new added = record {
    whole = ap (λ l. l ++ flat_map h (drop (i + 1) xs)) added.0 ∙ append_assoc now (h x) (flat_map h (drop (i + 1) xs)) ∙ here now i x within is filled;
    short = added.1;
  }

  pub filled_all : (now : List Cube) (i : ℕ) → length xs ≤ i → Filled now i → Adds old (flat_map h xs) now (Ok tt)
  filled_all now i over filled = (sym (append-nil now) ∙ ap (λ l. now ++ l) (sym (at_drop_all (flat_map h) xs i over)) ∙ filled.whole, filled.short)

  pub filled_stopped : (now : List Cube) (i : ℕ) (x : X) → i < length xs → x ≡ slice_index_or xs i x → Filled now i → (new : List Cube) (fault : CubeFault) → Adds now (h x) new (Err fault) → Adds old (flat_map h xs) new (Err fault)
  filled_stopped now i x within is filled new fault added = stopped old (flat_map h xs) now (h x) (flat_map h (drop (i + 1) xs)) new fault (here now i x within is filled) added

-- lists of this form
pub meets_each : (cube : Cube) (others : List Cube) → flat_map (λ other. meets (other ∷ []) cube) others ≡ meets others cube
meets_each cube [] = refl
meets_each cube (o ∷ os) = one (share cube o) (meets_each cube os)
  where
    one : (b : Bool) {rest : List Cube} → rest ≡ meets os cube → map (meet cube) (cond b (o ∷ []) []) ++ rest ≡ map (meet cube) (cond b (o ∷ filter (share cube) os) (filter (share cube) os))
    one true e = ap (λ l. meet cube o ∷ l) e
    one false e = e

pub singles : {X : Type 0} (g : X → Cube) (xs : List X) → flat_map (λ x. g x ∷ []) xs ≡ map g xs
singles g [] = refl
singles g (x ∷ xs) = ap (λ l. g x ∷ l) (singles g xs)

pub themselves : (cubes : List Cube) → flat_map (λ cube. cube ∷ []) cubes ≡ cubes
themselves [] = refl
themselves (c ∷ cs) = ap (λ l. c ∷ l) (themselves cs)

-- ---- a list that was filled from nothing is an answer

short_list : (xs : List Cube) → length xs ≤ cube_limit → limited xs ≡ Some xs
short_list xs short = rw (le-leb (length xs) cube_limit short) refl

long_list : (xs : List Cube) → cube_limit < length xs → limited xs ≡ None
long_list xs long = rw (lt-leb (length xs) cube_limit long) refl

pub answered : (xs now : List Cube) → Adds [] xs now (Ok tt) → IsAnswer (limited xs) (Ok now)
answered xs now added = (short_list xs (rw (sym added.0) added.1) ∙ ap Some (sym added.0), added.1)

pub answered_added : (old more now : List Cube) → Adds old more now (Ok tt) → IsAnswer (limited (old ++ more)) (Ok now)
answered_added old more now added = (short_list (old ++ more) (rw (sym added.0) added.1) ∙ ap Some (sym added.0), added.1)

pub answered_fault : (old more now : List Cube) (fault : CubeFault) → Adds old more now (Err fault) → IsAnswer (limited (old ++ more)) (Err fault)
answered_fault old more now Limit long = long_list (old ++ more) long
answered_fault old more now Memory none = tt

-- ---- one list after the other is joined

none_joined : (is_and : Bool) (lists : List (Option (List Cube))) → join_each is_and None lists ≡ None
none_joined is_and [] = refl
none_joined is_and (o ∷ lists) = none_joined is_and lists

pub short_start : (is_and : Bool) → length (joined_none is_and) ≤ cube_limit
short_start true = lit≤ tt
short_start false = lit≤ tt

module _ {X : Type 0} (is_and : Bool) (h : X → Option (List Cube)) (xs : List X) where
  -- the lists of the first elements are joined
  pub record Joining (now : List Cube) (i : ℕ) : Type 0 where
    pub whole : join_each is_and (Some now) (map h (drop i xs)) ≡ join_all is_and (map h xs)
    pub short : length now ≤ cube_limit

  pub joining_none : (start : List Cube) → start ≡ joined_none is_and → Joining start 0
  joining_none start is = record {
    whole = ap (λ l. join_each is_and (Some l) (map h xs)) is;
    short = rw is (short_start is_and);
  }

  joins : (now : List Cube) (i : ℕ) (x : X) → i < length xs → x ≡ slice_index_or xs i x → Joining now i → join_each is_and (join_one is_and (Some now) (h x)) (map h (drop (i + 1) xs)) ≡ join_all is_and (map h xs)
  joins now i x within is joining =
      ap (λ y. join_each is_and (join_one is_and (Some now) (h y)) (map h (drop (i + 1) xs))) is
      ∙ sym (at_drop_more (λ ys. join_each is_and (Some now) (map h ys)) xs i x within) ∙ joining.whole

  pub joining_more : (now : List Cube) (i : ℕ) (x : X) → i < length xs → x ≡ slice_index_or xs i x → Joining now i → (more new : List Cube) → h x ≡ Some more → IsAnswer (limited (joined is_and now more)) (Ok new) → Joining new (i + 1)
  joining_more now i x within is joining more new one answer = record {
    whole = ap (λ o. join_each is_and o (map h (drop (i + 1) xs))) (sym (ap (join_one is_and (Some now)) one ∙ answer.0)) ∙ joins now i x within is joining;
    short = answer.1;
  }

  pub joining_all : (now : List Cube) (i : ℕ) → length xs ≤ i → Joining now i → IsAnswer (join_all is_and (map h xs)) (Ok now)
  joining_all now i over joining = (sym joining.whole ∙ at_drop_all (λ ys. join_each is_and (Some now) (map h ys)) xs i over, joining.short)

  -- a list, or what it makes with those before, is too long
  pub joining_stopped : (now : List Cube) (i : ℕ) (x : X) → i < length xs → x ≡ slice_index_or xs i x → Joining now i → (fault : CubeFault) → IsAnswer (h x) (Err fault) → IsAnswer (join_all is_and (map h xs)) (Err fault)
  joining_stopped now i x within is joining Limit none =
      sym (joins now i x within is joining) ∙ ap (λ o. join_each is_and (join_one is_and (Some now) o) (map h (drop (i + 1) xs))) none ∙ none_joined is_and (map h (drop (i + 1) xs))
  joining_stopped now i x within is joining Memory none = tt

  pub joining_long : (now : List Cube) (i : ℕ) (x : X) → i < length xs → x ≡ slice_index_or xs i x → Joining now i → (more : List Cube) → h x ≡ Some more → (fault : CubeFault) → IsAnswer (limited (joined is_and now more)) (Err fault) → IsAnswer (join_all is_and (map h xs)) (Err fault)
  joining_long now i x within is joining more one Limit long =
      sym (joins now i x within is joining)
      ∙ ap (λ o. join_each is_and o (map h (drop (i + 1) xs))) (ap (join_one is_and (Some now)) one ∙ long)
      ∙ none_joined is_and (map h (drop (i + 1) xs))
  joining_long now i x within is joining more one Memory long = tt

  -- the same of an element as it is read
  pub joining_more_at : (now : List Cube) (i : ℕ) (d : X) → i < length xs → Joining now i → (more new : List Cube) → h (slice_index_or xs i d) ≡ Some more → IsAnswer (limited (joined is_and now more)) (Ok new) → Joining new (i + 1)
  joining_more_at now i d within joining more new one answer = joining_more now i (slice_index_or xs i d) within (get_or_default xs i d _ within) joining more new one answer

  pub joining_stopped_at : (now : List Cube) (i : ℕ) (d : X) → i < length xs → Joining now i → (fault : CubeFault) → IsAnswer (h (slice_index_or xs i d)) (Err fault) → IsAnswer (join_all is_and (map h xs)) (Err fault)
  joining_stopped_at now i d within joining fault answer = joining_stopped now i (slice_index_or xs i d) within (get_or_default xs i d _ within) joining fault answer

  pub joining_long_at : (now : List Cube) (i : ℕ) (d : X) → i < length xs → Joining now i → (more : List Cube) → h (slice_index_or xs i d) ≡ Some more → (fault : CubeFault) → IsAnswer (limited (joined is_and now more)) (Err fault) → IsAnswer (join_all is_and (map h xs)) (Err fault)
  joining_long_at now i d within joining more one fault answer = joining_long now i (slice_index_or xs i d) within (get_or_default xs i d _ within) joining more one fault answer

-- ---- lists of operands

pub operands_each : (names : Names) (negated : Bool) (fs : List (Formula TypedAtom)) → operand_cubes names negated (formulas fs) ≡ map (match_cubes names negated) fs
operands_each names negated [] = refl
operands_each names negated (f ∷ fs) = ap (λ l. match_cubes names negated f ∷ l) (operands_each names negated fs)
