-- What is so of each of a list, and what is found in a list that changes.
use Rattle.std.proofs.Common.{◌≡◌, ℕ, ◌<◌, ◌==◌, Bool, true, false, cond, List, [], ◌∷◌, map, Some, None, arith, refl, ap, ◌∙◌}
use Rattle.std.proofs.lemmas.Bool.{and_parts}
use Rattle.std.proofs.lemmas.Bool.Decides.{nat_tests}
use Rattle.std.specs.Prelude.{IsTrue, find, option_map}
use Rattle.std.specs.List.{list_all, AllByRecursion}
use Rattle.nv_base.specs.declared.object.ObjId.{ObjId}
use Rattle.nb_model.specs.Effect.{each_where}
use Rattle.nb_model.proofs.Lists.{same_self}
use Rattle.nv_table.specs.Table.{NumbersRise, record_of}

pub every_as : {X : Type 0} (P Q : X → Type 0) (xs : List X) → ((x : X) → P x → Q x) → AllByRecursion P xs → AllByRecursion Q xs
every_as P Q [] weaker all = tt
every_as P Q (x ∷ xs) weaker all = (weaker x all.0, every_as P Q xs weaker all.1)

pub every_holds : {X : Type 0} (p : X → Bool) (xs : List X) → IsTrue (list_all p xs) → AllByRecursion (λ x. IsTrue (p x)) xs
every_holds p [] all = tt
every_holds p (x ∷ xs) all = let parts = and_parts (p x) (list_all p xs) all in (parts.0, every_holds p xs parts.1)

-- where nothing is found, nothing passes
pub every_fails : {X : Type 0} (p : X → Bool) (xs : List X) → find p xs ≡ None → AllByRecursion (λ x. p x ≡ false) xs
every_fails p [] none = tt
every_fails {X} p (x ∷ xs) none = by (p x) refl none (every_fails p xs)
  where
    by : (here : Bool) → p x ≡ here → cond here (Some x) (find p xs) ≡ None → (find p xs ≡ None → AllByRecursion (λ y. p y ≡ false) xs) → (p x ≡ false) × AllByRecursion (λ y. p y ≡ false) xs
    by true is none more = absurd (cc)
    by false is none more = (is, more none)

-- what is found after a change that leaves who passes
pub found_changed : {X : Type 0} (p : X → Bool) (change : X → X) (xs : List X) → AllByRecursion (λ x. p (change x) ≡ p x) xs → find p (map change xs) ≡ option_map change (find p xs)
found_changed p change [] keeps = refl
found_changed {X} p change (x ∷ xs) keeps = ap (λ here. cond here (Some (change x)) (find p (map change xs))) keeps.0 ∙ by (p x) (found_changed p change xs keeps.1)
  where
    by : (here : Bool) → find p (map change xs) ≡ option_map change (find p xs) → cond here (Some (change x)) (find p (map change xs)) ≡ option_map change (cond here (Some x) (find p xs))
    by true more = refl
    by false more = more

-- a change that leaves those for which it is made
pub none_differs : {X : Type 0} (holds : X → Bool) (change : X → X) (xs : List X) → AllByRecursion (λ x. IsTrue (holds x) → change x ≡ x) xs → each_where holds change xs ≡ xs
none_differs holds change [] all = refl
none_differs {X} holds change (x ∷ xs) all = by (holds x) all.0 ∙ ap (λ (ys : List X). x ∷ ys) (none_differs holds change xs all.1)
  where
    by : (here : Bool) → (IsTrue here → change x ≡ x) → (cond here (change x) x ∷ each_where holds change xs) ≡ (x ∷ each_where holds change xs)
    by true is = ap (λ y. y ∷ each_where holds change xs) (is refl)
    by false is = refl

-- each record is the one of its number
pub each_is_record : {R : Type 0} (number : R → ObjId) (rs : List R) → NumbersRise number rs → AllByRecursion (λ r. record_of number (number r) rs ≡ Some r) rs
each_is_record number [] rise = tt
each_is_record {R} number (r ∷ rs) rise = (ap (λ b. cond b (Some r) (record_of number (number r) rs)) (same_self (number r)), later rs rise.0 (each_is_record number rs rise.1))
  where
    differ : (m n : ℕ) → m < n → (n == m) ≡ false
    differ m n less = grind (arith, nat_tests, less)

    later : (l : List R) → AllByRecursion (λ s. (number r).0 < (number s).0) l → AllByRecursion (λ s. record_of number (number s) rs ≡ Some s) l → AllByRecursion (λ s. record_of number (number s) (r ∷ rs) ≡ Some s) l
    later [] above all = tt
    later (s ∷ l) above all = (ap (λ b. cond b (Some r) (record_of number (number s) rs)) (differ (number r).0 (number s).0 above.0) ∙ all.0, later l above.1 all.1)
