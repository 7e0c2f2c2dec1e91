-- Which way a packet takes: of all ways the one of the longest prefix, and of equals the first. Each way comes from a rule, and ways stand
-- in the order of kinds and of numbers.
use Rattle.std.proofs.Common.{◌≡◌, ◌≢◌, ℕ, ◌+◌, ◌<◌, Bool, true, false, cond, nat_lt, List, [], ◌∷◌, ◌++◌, map, sym, ap, refl, ◌∙◌, subst, ◌⊎◌, inl, inr, arith}
use Rattle.std.specs.Prelude.{Option, Some, None, fold}
use Rattle.std.specs.List.{Contains, cons_option, filter_map, flat_map}
use Rattle.std.proofs.lemmas.Bool.{ltb-true}
use Rattle.std.proofs.lemmas.Bool.Decides.{nat_tests}
use Rattle.net_router.specs.Routing.{Way, longer}
use Rattle.net_rows.proofs.Elements.{one_first, one_later, one_of, one_of_none}
use Rattle.net_rows.proofs.Pairs.{OfPairs}

-- a way, with what its rule is of: the kind, which is the lower part of the rule's priority, and the number that it is made for
pub record Candidate : Type 0 where
  pub way : Way
  pub kind : ℕ
  pub hint : ℕ

-- the first of two stands before the other: its kind is higher, or the same, and its number is lower, or its prefix has another length
abbrev pub Before : Candidate → Candidate → Type 0
Before c d = (d.kind < c.kind) ⊎ ((d.kind ≡ c.kind) × ((c.hint < d.hint) ⊎ (c.way.len ≢ d.way.len)))

-- one is another, or has a shorter prefix, or one of the same length, and stands after it
abbrev pub IsAfter : Candidate → Candidate → Type 0
IsAfter d c = (d ≡ c) ⊎ ((d.way.len < c.way.len) ⊎ ((d.way.len ≡ c.way.len) × Before c d))

-- the one that is taken
pub record IsBest (first : Candidate) (others : List Candidate) (found : Option Way) : Type 0 where
  pub best : Candidate
  pub is : found ≡ Some best.way
  pub among : Contains (first ∷ others) best
  pub is_first : (first ≡ best) ⊎ (first.way.len < best.way.len)
  pub after : (d : Candidate) → Contains (first ∷ others) d → IsAfter d best

pub best_of : (f : Candidate) (cs : List Candidate) → OfPairs Before (f ∷ cs) → IsBest f cs (fold longer (Some f.way) (map (λ (c : Candidate). c.way) cs))
best_of f [] of = record { best = f; is = refl; among = one_first f [] f refl; is_first = inl refl; after = λ d there. by d (one_of f [] d there) }
  where
    by : (d : Candidate) → (f ≡ d) ⊎ Contains [] d → IsAfter d f
    by d (inl same) = inl (sym same)
    by d (inr none) = absurd (one_of_none d none)
best_of f (x ∷ cs) of = by (nat_lt f.way.len x.way.len) refl (best_of x cs of.1) (best_of f cs (of.0.1, of.1.1))
  where
    ways : List Way
    ways = map (λ (c : Candidate). c.way) cs

    by : (b : Bool) → nat_lt f.way.len x.way.len ≡ b → IsBest x cs (fold longer (Some x.way) ways) → IsBest f cs (fold longer (Some f.way) ways) → IsBest f (x ∷ cs) (fold longer (cond b (Some x.way) (Some f.way)) ways)
    by true is rest stay =
        record { best = rest.best; is = rest.is; among = one_later f (x ∷ cs) rest.best rest.among; is_first = inr shorter; after = λ d there. each d (one_of f (x ∷ cs) d there) }
      where
        less : f.way.len < x.way.len
        less = ltb-true f.way.len x.way.len is

        shorter_by : (x ≡ rest.best) ⊎ (x.way.len < rest.best.way.len) → f.way.len < rest.best.way.len
        shorter_by (inl same) = subst (λ (c : Candidate). f.way.len < c.way.len) same less
        shorter_by (inr longer_still) = omega (arith, less, longer_still)

        shorter : f.way.len < rest.best.way.len
        shorter = shorter_by rest.is_first

        each : (d : Candidate) → (f ≡ d) ⊎ Contains (x ∷ cs) d → IsAfter d rest.best
        each d (inl same) = inr (inl (subst (λ (c : Candidate). c.way.len < rest.best.way.len) same shorter))
        each d (inr later) = rest.after d later
    by false is rest stay =
        record { best = stay.best; is = stay.is; among = insert (one_of f cs stay.best stay.among); is_first = stay.is_first; after = λ d there. each d (one_of f (x ∷ cs) d there) }
      where
        not_longer : x.way.len < f.way.len + 1
        not_longer = grind (arith, nat_tests)

        insert : (f ≡ stay.best) ⊎ Contains cs stay.best → Contains (f ∷ x ∷ cs) stay.best
        insert (inl same) = one_first f (x ∷ cs) stay.best same
        insert (inr later) = one_later f (x ∷ cs) stay.best (one_later x cs stay.best later)

        of_f : IsAfter x f
        of_f = by_length (nat_lt x.way.len f.way.len) refl
          where
            by_length : (b : Bool) → nat_lt x.way.len f.way.len ≡ b → IsAfter x f
            by_length true shorter = inr (inl (ltb-true x.way.len f.way.len shorter))
            by_length false no_shorter =
                let level : x.way.len ≡ f.way.len = grind (arith, nat_tests) in
                inr (inr (level, of.0.0))

        of_x : (f ≡ stay.best) ⊎ (f.way.len < stay.best.way.len) → IsAfter x stay.best
        of_x (inl same) = subst (IsAfter x) same of_f
        of_x (inr less) = inr (inl (omega (arith, not_longer, less)))

        each_later : (d : Candidate) → (x ≡ d) ⊎ Contains cs d → IsAfter d stay.best
        each_later d (inl same) = subst (λ (c : Candidate). IsAfter c stay.best) same (of_x stay.is_first)
        each_later d (inr later) = stay.after d (one_later f cs d later)

        each : (d : Candidate) → (f ≡ d) ⊎ Contains (x ∷ cs) d → IsAfter d stay.best
        each d (inl same) = stay.after d (one_first f cs d same)
        each d (inr later) = each_later d (one_of x cs d later)

-- ---- what is there of an option

abbrev pub option_list : {X : Type 0} → Option X → List X
option_list None = []
option_list (Some x) = x ∷ []

pub option_gives : {X : Type 0} (o : Option X) (x : X) → Contains (option_list o) x → o ≡ Some x
option_gives None x there = absurd (one_of_none x there)
option_gives (Some y) x there = by (one_of y [] x there)
  where
    by : (y ≡ x) ⊎ Contains [] x → Some y ≡ Some x
    by (inl same) = ap Some same
    by (inr none) = absurd (one_of_none x none)

pub option_from : {X : Type 0} (o : Option X) (x : X) → o ≡ Some x → Contains (option_list o) x
option_from o x is = subst (λ p. Contains (option_list p) x) (sym is) (one_first x [] x refl)

pub option_pairs : {X : Type 0} (R : X → X → Type 0) (o : Option X) → OfPairs R (option_list o)
option_pairs R None = tt
option_pairs R (Some x) = (tt, tt)

-- ---- lists of images

pub map_append : {X Y : Type 0} (f : X → Y) (xs ys : List X) → map f (xs ++ ys) ≡ map f xs ++ map f ys
map_append f [] ys = refl
map_append f (x ∷ xs) ys = ap (λ zs. f x ∷ zs) (map_append f xs ys)

pub map_pieces : {X Y Z : Type 0} (f : Y → Z) (g : X → List Y) (h : X → List Z) (xs : List X) → ((x : X) → map f (g x) ≡ h x) → map f (flat_map g xs) ≡ flat_map h xs
map_pieces f g h [] same = refl
map_pieces f g h (x ∷ xs) same = map_append f (g x) (flat_map g xs) ∙ (λ i. same x i ++ map_pieces f g h xs same i)

-- what is kept of each is there of it
pub filter_map_pieces : {X Y : Type 0} (h : X → Option Y) (xs : List X) → flat_map (λ x. option_list (h x)) xs ≡ filter_map h xs
filter_map_pieces h [] = refl
filter_map_pieces {X} {Y} h (x ∷ xs) = by (h x) ∙ ap (cons_option (h x)) (filter_map_pieces h xs)
  where
    by : (o : Option Y) → option_list o ++ flat_map (λ y. option_list (h y)) xs ≡ cons_option o (flat_map (λ y. option_list (h y)) xs)
    by None = refl
    by (Some y) = refl
