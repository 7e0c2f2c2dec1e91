-- Where an amount does not rise, its limit holds after an edit as it held before, so only those that may rise need be tested.
use Rattle.std.proofs.Common.{◌≡◌, ℕ, ◌≤◌, ◌⊎◌, inl, inr, Bool, true, false, cond, ◌==◌, Some, None, Option, List, [], ◌∷◌, refl, sym, ap, ◌∙◌, subst, arith}
use Rattle.std.specs.Prelude.{filter, find, option_map, nat_lt}
use Rattle.std.specs.List.{list_any}
use Rattle.std.proofs.lemmas.Bool.{cases_Bool, le-ltb, ltb-false}
use Rattle.nb_records.specs.declared.refusal.Kind.{Kind}
use Rattle.nb_records.specs.declared.refusal.Kind.TheVariants as kind
use Rattle.nb_records.specs.declared.refusal.Refusal.TheVariants.{Limit}
use Rattle.nb_model.specs.Amounts.{amount, bound, kinds, first_over, over_limit}
use Rattle.nb_model.specs.Network.{Network}
use Rattle.nb_model.proofs.Totals.{le_trans}

-- the place of a kind among all
abbrev pub place : Kind → ℕ
place kind.Switch = 0
place kind.Router = 1
place kind.Port = 2
place kind.RouterPort = 3
place kind.Network = 4
place kind.Address = 5
place kind.Security = 6
place kind.Acl = 7
place kind.AclSwitch = 8
place kind.Route = 9
place kind.Nat = 10
place kind.Lb = 11
place kind.Vip = 12
place kind.Backend = 13
place kind.VipDatapath = 14
place kind.Neighbour = 15
place kind.Set = 16
place kind.Member = 17
place kind.MatchText = 18
place kind.Binding = 19

-- a kind is one of these
abbrev pub is_one_of : List Kind → Kind → Bool
is_one_of some own = list_any (λ other. place own == place other) some

-- there is no more afterwards of a kind that may not rise
abbrev pub Falls : (Kind → Bool) → Network → Network → Type 0
Falls may net after = (own : Kind) → may own ≡ false → amount after own ≤ amount net own

pub stays : (may : Kind → Bool) (net : Network) → Falls may net net
stays may net own free = omega arith

pub falls_twice : (may : Kind → Bool) (net between after : Network) → Falls may net between → Falls may between after → Falls may net after
falls_twice may net between after first second own free = le_trans (amount after own) (amount between own) (amount net own) (second own free) (first own free)

-- where nothing is found, nothing is found among the others, and the first fails
first_fails : {X : Type 0} (fails : Bool) (x : X) (rest : Option X) → cond fails (Some x) rest ≡ None → (fails ≡ false) × (rest ≡ None)
first_fails true x rest none = absurd (cc)
first_fails false x rest none = (refl, none)

-- the first that passes is one of those that may pass
find_among : {X : Type 0} (may p q : X → Bool) (xs : List X) → find p xs ≡ None → ((x : X) → may x ≡ false → p x ≡ false → q x ≡ false) → find q xs ≡ find q (filter may xs)
find_among may p q [] none still = refl
find_among {X} may p q (x ∷ xs) none still =
    let parts = first_fails (p x) x (find p xs) none in
    by (cases_Bool (may x)) (find_among may p q xs parts.1 still) parts.0
  where
    by : (may x ≡ true) ⊎ (may x ≡ false) → find q xs ≡ find q (filter may xs) → p x ≡ false
        → cond (q x) (Some x) (find q xs) ≡ find q (cond (may x) (x ∷ filter may xs) (filter may xs))
    by (inl is) more fails =
        subst (λ kept. cond (q x) (Some x) (find q xs) ≡ find q (cond kept (x ∷ filter may xs) (filter may xs))) (sym is)
        (ap (λ (found : Option X). cond (q x) (Some x) found) more)
    by (inr is) more fails =
        subst (λ kept. cond (q x) (Some x) (find q xs) ≡ find q (cond kept (x ∷ filter may xs) (filter may xs))) (sym is)
        (ap (λ passes. cond passes (Some x) (find q xs)) (still x is fails) ∙ more)

-- no limit is broken
none_over : (found : Option Kind) → option_map (λ own. Limit own (bound own)) found ≡ None → found ≡ None
none_over None none = refl
none_over (Some own) none = absurd (cc)

-- a limit that held holds where there is no more
still_within : (least most limit : ℕ) → least ≤ most → nat_lt limit most ≡ false → nat_lt limit least ≡ false
still_within least most limit less within = let high = ltb-false limit most within in le-ltb limit least (omega arith)

pub first_of_those_that_rise : (may : Kind → Bool) (net after : Network) → over_limit net ≡ None → Falls may net after → over_limit after ≡ first_over (filter may kinds) after
first_of_those_that_rise may net after within falls =
    ap (λ (found : Option Kind). option_map (λ own. Limit own (bound own)) found)
    (find_among may (λ own. nat_lt (bound own) (amount net own)) (λ own. nat_lt (bound own) (amount after own)) kinds
    (none_over (find (λ own. nat_lt (bound own) (amount net own)) kinds) within)
    (λ own free held. still_within (amount after own) (amount net own) (bound own) (falls own free) held))
