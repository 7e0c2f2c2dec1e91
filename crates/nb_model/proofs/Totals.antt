-- Totals, greatest amounts and lengths of lists that change.
use Rattle.std.proofs.Common.{◌≡◌, ℕ, ◌+◌, ◌≤◌, Bool, true, false, cond, List, [], ◌∷◌, ◌++◌, map, refl, sym, ap, subst, arith}
use Rattle.std.specs.Prelude.{IsTrue, filter, length, max}
use Rattle.std.specs.List.{list_all}
use Rattle.std.proofs.lemmas.Bool.{and_parts, false≢true}
use Rattle.std.proofs.lemmas.List.Sums.{sum_by-cons}
use Rattle.nb_model.specs.Amounts.{total, greatest}

-- an amount is at most itself
pub le_self : (n : ℕ) → n ≤ n
le_self n = omega arith

pub le_trans : (a b c : ℕ) → a ≤ b → b ≤ c → a ≤ c
le_trans a b c low high = omega arith

pub le_equal : (a b : ℕ) → a ≡ b → a ≤ b
le_equal a b is = omega arith

-- two sums, and two greatest, each part of which is at most the other's
pub sums : (a b c d : ℕ) → a ≤ c → b ≤ d → a + b ≤ c + d
sums a b c d first second = omega arith

greatest_of : (a b c d : ℕ) → a ≤ c → b ≤ d → max a b ≤ max c d
greatest_of a b c d first second = omega arith

greatest_after : (a c d : ℕ) → a ≤ d → a ≤ max c d
greatest_after a c d later = omega arith

joined : (a b c d m n : ℕ) → m ≡ a + b → n ≡ c + d → a ≤ c → b ≤ d → m ≤ n
joined a b c d m n left right first second = omega arith

later : (b c d n : ℕ) → n ≡ c + d → b ≤ d → b ≤ n
later b c d n right second = omega arith

alone : (n : ℕ) → n ≡ 0 → 0 + n ≤ 0
alone n nothing = omega arith

-- Totals.

pub total_cons : {X : Type 0} (f : X → ℕ) (x : X) (xs : List X) → total f (x ∷ xs) ≡ f x + total f xs
total_cons f x xs = sum_by-cons (λ n. n) (f x) (map f xs)

-- one more, of at most so much
more_than : {X Y : Type 0} (f : X → ℕ) (g : Y → ℕ) (x : X) (y : Y) (xs : List X) (ys : List Y) → f x ≤ g y → total f xs ≤ total g ys → total f (x ∷ xs) ≤ total g (y ∷ ys)
more_than f g x y xs ys first rest = joined (f x) (total f xs) (g y) (total g ys) (total f (x ∷ xs)) (total g (y ∷ ys)) (total_cons f x xs) (total_cons g y ys) first rest

-- one more of the other only
other_more : {X Y : Type 0} (f : X → ℕ) (g : Y → ℕ) (y : Y) (xs : List X) (ys : List Y) → total f xs ≤ total g ys → total f xs ≤ total g (y ∷ ys)
other_more f g y xs ys rest = later (total f xs) (g y) (total g ys) (total g (y ∷ ys)) (total_cons g y ys) rest

-- a smaller amount of each that passes
pub total_le : {X : Type 0} (f g : X → ℕ) (p : X → Bool) (xs : List X) → IsTrue (list_all p xs) → ((x : X) → IsTrue (p x) → f x ≤ g x) → total f xs ≤ total g xs
total_le f g p [] all less = le_self 0
total_le f g p (x ∷ xs) all less =
    let parts = and_parts (p x) (list_all p xs) all in
    more_than f g x x xs xs (less x parts.0) (total_le f g p xs parts.1 less)

-- of each that is changed
pub total_changed : {X Y : Type 0} (f : Y → ℕ) (g : X → ℕ) (change : X → Y) (xs : List X) → ((x : X) → f (change x) ≤ g x) → total f (map change xs) ≤ total g xs
total_changed f g change [] less = le_self 0
total_changed f g change (x ∷ xs) less = more_than f g (change x) x (map change xs) xs (less x) (total_changed f g change xs less)

-- of those that are kept
pub total_kept : {X : Type 0} (f g : X → ℕ) (q : X → Bool) (xs : List X) → ((x : X) → f x ≤ g x) → total f (filter q xs) ≤ total g xs
total_kept f g q [] less = le_self 0
total_kept {X} f g q (x ∷ xs) less = by (q x) (less x) (total_kept f g q xs less)
  where
    by : (kept : Bool) → f x ≤ g x → total f (filter q xs) ≤ total g xs → total f (cond kept (x ∷ filter q xs) (filter q xs)) ≤ total g (x ∷ xs)
    by true first rest = more_than f g x x (filter q xs) xs first rest
    by false first rest = other_more f g x (filter q xs) xs rest

-- of fewer that are kept of those that are changed
pub total_fewer_changed : {X Y : Type 0} (f : Y → ℕ) (g : X → ℕ) (change : X → Y) (q : Y → Bool) (r : X → Bool) (xs : List X)
    → ((x : X) → IsTrue (q (change x)) → IsTrue (r x)) → ((x : X) → f (change x) ≤ g x) → total f (filter q (map change xs)) ≤ total g (filter r xs)
total_fewer_changed f g change q r [] there less = le_self 0
total_fewer_changed {X} {Y} f g change q r (x ∷ xs) there less = by (q (change x)) (r x) (there x) (less x) (total_fewer_changed f g change q r xs there less)
  where
    by : (kept was : Bool) → (IsTrue kept → IsTrue was) → f (change x) ≤ g x → total f (filter q (map change xs)) ≤ total g (filter r xs)
        → total f (cond kept (change x ∷ filter q (map change xs)) (filter q (map change xs))) ≤ total g (cond was (x ∷ filter r xs) (filter r xs))
    by true true also first rest = more_than f g (change x) x (filter q (map change xs)) (filter r xs) first rest
    by true false also first rest = absurd (false≢true (also refl))
    by false true also first rest = other_more f g x (filter q (map change xs)) (filter r xs) rest
    by false false also first rest = rest

-- a list of which each is left as it is
unchanged : {X : Type 0} (xs : List X) → map (λ x. x) xs ≡ xs
unchanged [] = refl
unchanged {X} (x ∷ xs) = ap (λ (ys : List X). x ∷ ys) (unchanged xs)

-- of fewer that are kept
pub total_fewer : {X : Type 0} (f g : X → ℕ) (q r : X → Bool) (xs : List X) → ((x : X) → IsTrue (q x) → IsTrue (r x)) → ((x : X) → f x ≤ g x) → total f (filter q xs) ≤ total g (filter r xs)
total_fewer f g q r xs there less = subst (λ ys. total f (filter q ys) ≤ total g (filter r xs)) (unchanged xs) (total_fewer_changed f g (λ x. x) q r xs there less)

-- of those that are kept of fewer
pub total_kept_twice : {X : Type 0} (f : X → ℕ) (q r : X → Bool) (xs : List X) → total f (filter r (filter q xs)) ≤ total f (filter r xs)
total_kept_twice f q r [] = le_self 0
total_kept_twice {X} f q r (x ∷ xs) = by (q x) (r x) refl (total_kept_twice f q r xs)
  where
    by : (first second : Bool) → r x ≡ second → total f (filter r (filter q xs)) ≤ total f (filter r xs)
        → total f (filter r (cond first (x ∷ filter q xs) (filter q xs))) ≤ total f (cond second (x ∷ filter r xs) (filter r xs))
    by true true is rest = subst (λ b. total f (cond b (x ∷ filter r (filter q xs)) (filter r (filter q xs))) ≤ total f (x ∷ filter r xs)) (sym is) (more_than f f x x (filter r (filter q xs)) (filter r xs) (le_self (f x)) rest)
    by true false is rest = subst (λ b. total f (cond b (x ∷ filter r (filter q xs)) (filter r (filter q xs))) ≤ total f (filter r xs)) (sym is) rest
    by false true is rest = other_more f f x (filter r (filter q xs)) (filter r xs) rest
    by false false is rest = rest

-- of one more, which has nothing
pub total_push : {X : Type 0} (f g : X → ℕ) (xs : List X) (y : X) → f y ≡ 0 → ((x : X) → f x ≤ g x) → total f (xs ++ y ∷ []) ≤ total g xs
total_push f g [] y nothing less = alone (f y) nothing
total_push f g (x ∷ xs) y nothing less = more_than f g x x (xs ++ y ∷ []) xs (less x) (total_push f g xs y nothing less)

-- of those that are kept with one more, which has nothing
pub total_kept_push : {X : Type 0} (f g : X → ℕ) (q : X → Bool) (xs : List X) (y : X) → f y ≡ 0 → ((x : X) → f x ≤ g x) → total f (filter q (xs ++ y ∷ [])) ≤ total g (filter q xs)
total_kept_push {X} f g q [] y nothing less = by (q y)
  where
    by : (kept : Bool) → total f (cond kept (y ∷ []) []) ≤ 0
    by true = alone (f y) nothing
    by false = le_self 0
total_kept_push {X} f g q (x ∷ xs) y nothing less = by (q x) (less x) (total_kept_push f g q xs y nothing less)
  where
    by : (kept : Bool) → f x ≤ g x → total f (filter q (xs ++ y ∷ [])) ≤ total g (filter q xs)
        → total f (cond kept (x ∷ filter q (xs ++ y ∷ [])) (filter q (xs ++ y ∷ []))) ≤ total g (cond kept (x ∷ filter q xs) (filter q xs))
    by true first rest = more_than f g x x (filter q (xs ++ y ∷ [])) (filter q xs) first rest
    by false first rest = rest

-- of none that is kept
pub total_none : {X : Type 0} (f : X → ℕ) (xs : List X) → total f (filter (λ x. false) xs) ≡ 0
total_none f [] = refl
total_none f (x ∷ xs) = total_none f xs

-- The greatest.

pub greatest_kept : {X : Type 0} (f : X → ℕ) (q : X → Bool) (xs : List X) → greatest f (filter q xs) ≤ greatest f xs
greatest_kept f q [] = le_self 0
greatest_kept {X} f q (x ∷ xs) = by (q x) (greatest_kept f q xs)
  where
    by : (kept : Bool) → greatest f (filter q xs) ≤ greatest f xs → greatest f (cond kept (x ∷ filter q xs) (filter q xs)) ≤ greatest f (x ∷ xs)
    by true rest = greatest_of (f x) (greatest f (filter q xs)) (f x) (greatest f xs) (le_self (f x)) rest
    by false rest = greatest_after (greatest f (filter q xs)) (f x) (greatest f xs) rest

pub greatest_changed : {X Y : Type 0} (f : Y → ℕ) (g : X → ℕ) (change : X → Y) (xs : List X) → ((x : X) → f (change x) ≤ g x) → greatest f (map change xs) ≤ greatest g xs
greatest_changed f g change [] less = le_self 0
greatest_changed f g change (x ∷ xs) less = greatest_of (f (change x)) (greatest f (map change xs)) (g x) (greatest g xs) (less x) (greatest_changed f g change xs less)

-- Lengths, as totals of one for each.

length_total : {X : Type 0} (xs : List X) → length xs ≡ total (λ x. 1) xs
length_total [] = refl
length_total (x ∷ xs) = let rest = length_total xs in let first = total_cons (λ y. 1) x xs in omega arith

-- from totals to lengths
as_lengths : {X Y : Type 0} (xs : List X) (ys : List Y) → total (λ x. 1) xs ≤ total (λ y. 1) ys → length xs ≤ length ys
as_lengths xs ys less = let a = length_total xs in let b = length_total ys in omega arith

pub length_kept : {X : Type 0} (q : X → Bool) (xs : List X) → length (filter q xs) ≤ length xs
length_kept q xs = as_lengths (filter q xs) xs (total_kept (λ x. 1) (λ x. 1) q xs (λ x. le_self 1))

pub length_changed : {X Y : Type 0} (change : X → Y) (xs : List X) → length (map change xs) ≤ length xs
length_changed change xs = as_lengths (map change xs) xs (total_changed (λ y. 1) (λ x. 1) change xs (λ x. le_self 1))

pub length_fewer : {X : Type 0} (q r : X → Bool) (xs : List X) → ((x : X) → IsTrue (q x) → IsTrue (r x)) → length (filter q xs) ≤ length (filter r xs)
length_fewer q r xs there = as_lengths (filter q xs) (filter r xs) (total_fewer (λ x. 1) (λ x. 1) q r xs there (λ x. le_self 1))

pub length_fewer_changed : {X Y : Type 0} (change : X → Y) (q : Y → Bool) (r : X → Bool) (xs : List X) → ((x : X) → IsTrue (q (change x)) → IsTrue (r x))
    → length (filter q (map change xs)) ≤ length (filter r xs)
length_fewer_changed change q r xs there = as_lengths (filter q (map change xs)) (filter r xs) (total_fewer_changed (λ y. 1) (λ x. 1) change q r xs there (λ x. le_self 1))

pub length_kept_twice : {X : Type 0} (q r : X → Bool) (xs : List X) → length (filter r (filter q xs)) ≤ length (filter r xs)
length_kept_twice q r xs = as_lengths (filter r (filter q xs)) (filter r xs) (total_kept_twice (λ x. 1) q r xs)

-- one more that is not kept
pub kept_push : {X : Type 0} (q : X → Bool) (xs : List X) (y : X) → q y ≡ false → filter q (xs ++ y ∷ []) ≡ filter q xs
kept_push {X} q [] y fails = ap (λ kept. cond kept (y ∷ []) []) fails
kept_push {X} q (x ∷ xs) y fails = ap (λ (ys : List X). cond (q x) (x ∷ ys) ys) (kept_push q xs y fails)
