-- Whether any of a list passes, and what is found in it, where the list changes.
use Rattle.std.proofs.Common.{◌≡◌, ⊎_elim, Bool, true, false, cond, ◌||◌, Some, None, Option, List, [], ◌∷◌, ◌++◌, map, refl, sym, ap, ◌∙◌}
use Rattle.std.specs.Prelude.{IsTrue, filter, find, option_map}
use Rattle.std.specs.List.{list_all, list_any}
use Rattle.std.proofs.lemmas.Bool.{and_parts, or_cases, or_left, or_right, false≢true}

-- where any of those that are kept passes, any passes
pub any_kept : {X : Type 0} (p q : X → Bool) (xs : List X) → IsTrue (list_any p (filter q xs)) → IsTrue (list_any p xs)
any_kept p q [] there = there
any_kept {X} p q (x ∷ xs) there = by (q x) (any_kept p q xs) there
  where
    by : (kept : Bool) → (IsTrue (list_any p (filter q xs)) → IsTrue (list_any p xs)) → IsTrue (list_any p (cond kept (x ∷ filter q xs) (filter q xs))) → IsTrue (p x || list_any p xs)
    by true more passes = ⊎_elim (λ here. or_left (p x) (list_any p xs) here) (λ later. or_right (p x) (list_any p xs) (more later)) (or_cases (p x) (list_any p (filter q xs)) passes)
    by false more passes = or_right (p x) (list_any p xs) (more passes)

-- where any passes after a change, any passed something weaker, of those of which something holds
pub any_changed : {X Y : Type 0} (a : X → Bool) (p : Y → Bool) (q : X → Bool) (change : X → Y) (xs : List X) → IsTrue (list_all a xs)
    → ((x : X) → IsTrue (a x) → IsTrue (p (change x)) → IsTrue (q x)) → IsTrue (list_any p (map change xs)) → IsTrue (list_any q xs)
any_changed a p q change [] all weaker there = there
any_changed a p q change (x ∷ xs) all weaker there =
    let parts = and_parts (a x) (list_all a xs) all in
    ⊎_elim (λ here. or_left (q x) (list_any q xs) (weaker x parts.0 here))
    (λ later. or_right (q x) (list_any q xs) (any_changed a p q change xs parts.1 weaker later))
    (or_cases (p (change x)) (list_any p (map change xs)) there)

pub any_as : {X : Type 0} (a p q : X → Bool) (xs : List X) → IsTrue (list_all a xs)
    → ((x : X) → IsTrue (a x) → IsTrue (p x) → IsTrue (q x)) → IsTrue (list_any p xs) → IsTrue (list_any q xs)
any_as a p q [] all weaker there = there
any_as a p q (x ∷ xs) all weaker there =
    let parts = and_parts (a x) (list_all a xs) all in
    ⊎_elim (λ here. or_left (q x) (list_any q xs) (weaker x parts.0 here))
    (λ later. or_right (q x) (list_any q xs) (any_as a p q xs parts.1 weaker later))
    (or_cases (p x) (list_any p xs) there)

-- each passes a test that all pass
pub all_true : {X : Type 0} (xs : List X) → IsTrue (list_all (λ x. true) xs)
all_true [] = refl
all_true (x ∷ xs) = all_true xs

-- one more that does not pass
pub any_push : {X : Type 0} (p : X → Bool) (xs : List X) (y : X) → p y ≡ false → IsTrue (list_any p (xs ++ y ∷ [])) → IsTrue (list_any p xs)
any_push p [] y fails there = absurd (false≢true (sym (ap (λ b. b || false) fails) ∙ there))
any_push p (x ∷ xs) y fails there =
    ⊎_elim (λ here. or_left (p x) (list_any p xs) here) (λ later. or_right (p x) (list_any p xs) (any_push p xs y fails later)) (or_cases (p x) (list_any p (xs ++ y ∷ [])) there)

-- none passes
pub none_passes : {X : Type 0} (a p : X → Bool) (xs : List X) → IsTrue (list_all a xs) → ((x : X) → IsTrue (a x) → p x ≡ false) → list_any p xs ≡ false
none_passes a p [] all fails = refl
none_passes a p (x ∷ xs) all fails =
    let parts = and_parts (a x) (list_all a xs) all in
    ap (λ here. here || list_any p xs) (fails x parts.0) ∙ none_passes a p xs parts.1 fails

-- what is found where one more does not pass
pub find_push : {X : Type 0} (p : X → Bool) (xs : List X) (y : X) → p y ≡ false → find p (xs ++ y ∷ []) ≡ find p xs
find_push p [] y fails = ap (λ here. cond here (Some y) None) fails
find_push {X} p (x ∷ xs) y fails = ap (λ (found : Option X). cond (p x) (Some x) found) (find_push p xs y fails)

-- what is found after a change that leaves who passes
pub find_changed : {X Y : Type 0} (p : Y → Bool) (q : X → Bool) (change : X → Y) (xs : List X) → ((x : X) → p (change x) ≡ q x) → find p (map change xs) ≡ option_map change (find q xs)
find_changed p q change [] keeps = refl
find_changed {X} {Y} p q change (x ∷ xs) keeps =
    ap (λ here. cond here (Some (change x)) (find p (map change xs))) (keeps x) ∙ by (q x) (find_changed p q change xs keeps)
  where
    by : (here : Bool) → find p (map change xs) ≡ option_map change (find q xs) → cond here (Some (change x)) (find p (map change xs)) ≡ option_map change (cond here (Some x) (find q xs))
    by true more = refl
    by false more = more
