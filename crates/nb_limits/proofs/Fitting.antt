-- Where a VIP more leaves load balancers and VIPs within their bounds.
use Rattle.std.proofs.Common.{◌≡◌, ℕ, ◌+◌, Bool, true, false, not, max, nat_lt, List, [], ◌∷◌, ◌++◌, map, Option, Some, arith, refl, sym, ap, ◌∙◌, subst, length}
use Rattle.std.proofs.lemmas.Bool.{and_parts, and_from, not-true}
use Rattle.std.proofs.lemmas.Bool.Decides.{nat_tests}
use Rattle.std.specs.Prelude.{IsTrue, find, unwrap_or}
use Rattle.std.specs.List.{list_all, AllByRecursion}
use Rattle.std.specs.Str.{bytes_eq}
use Rattle.nb_records.specs.declared.balancer.Lb.{Lb}
use Rattle.nb_records.specs.declared.balancer.Proto.{Proto}
use Rattle.nb_records.specs.declared.balancer.Proto.TheVariants.{Tcp}
use Rattle.nb_records.specs.declared.balancer.Vip.{Vip}
use Rattle.nb_records.specs.declared.refusal.Kind.TheVariants as kind
use Rattle.nb_model.specs.Amounts.{amount, greatest}
use Rattle.nb_model.specs.Effect.{add_vip, each_where}
use Rattle.nb_model.specs.Network.{Network, next_number, lb_named}
use Rattle.nb_model.specs.Readable.{are_apart}
use Rattle.nb_model.specs.Sound.{AreNamed}
use Rattle.nb_model.proofs.Alike.{names_sym, same_names}
use Rattle.nb_model.proofs.RecordLists.{found_holds, all_only, all_where, all_push, apart_by, only, if_missing}
use Rattle.nb_limits.specs.inner.KnownAfter.{has_vip_room}

-- no amount is greater than the bound where the greatest is not
each_low : {X : Type 0} (f : X → ℕ) (most : ℕ) (xs : List X) → nat_lt most (greatest f xs) ≡ false → IsTrue (list_all (λ x. not (nat_lt most (f x))) xs)
each_low f most [] low = refl
each_low f most (x ∷ xs) low = and_from (not (nat_lt most (f x))) (list_all (λ y. not (nat_lt most (f y))) xs) (first most (f x) (greatest f xs) low) (each_low f most xs (later most (f x) (greatest f xs) low))
  where
    first : (m a b : ℕ) → nat_lt m (max a b) ≡ false → IsTrue (not (nat_lt m a))
    first m a b e = ap not (is_low m a b e)
      where
        is_low : (m a b : ℕ) → nat_lt m (max a b) ≡ false → nat_lt m a ≡ false
        is_low m a b e = grind (arith, nat_tests, e)

    later : (m a b : ℕ) → nat_lt m (max a b) ≡ false → nat_lt m b ≡ false
    later m a b e = grind (arith, nat_tests, e)

-- and the other way round
greatest_low : {X : Type 0} (f : X → ℕ) (most : ℕ) (xs : List X) → IsTrue (list_all (λ x. not (nat_lt most (f x))) xs) → nat_lt most (greatest f xs) ≡ false
greatest_low f most [] all = none most
  where
    none : (m : ℕ) → nat_lt m 0 ≡ false
    none m = grind (arith, nat_tests)
greatest_low f most (x ∷ xs) all =
    let parts = and_parts (not (nat_lt most (f x))) (list_all (λ y. not (nat_lt most (f y))) xs) all in
    both most (f x) (greatest f xs) (not-true (nat_lt most (f x)) parts.0) (greatest_low f most xs parts.1)
  where
    both : (m a b : ℕ) → nat_lt m a ≡ false → nat_lt m b ≡ false → nat_lt m (max a b) ≡ false
    both m a b e g = grind (arith, nat_tests, e, g)

-- what has a name is the only one of that name
pub only_named : {X : Type 0} (name_of : X → List ℕ) (xs : List X) (name : List ℕ) (x : X) → IsTrue (are_apart bytes_eq (map name_of xs)) → find (λ own. bytes_eq (name_of own) name) xs ≡ Some x
    → AllByRecursion (λ own. IsTrue (bytes_eq (name_of own) name) → own ≡ x) xs
only_named {X} name_of xs name x apart is =
    only (λ a b. bytes_eq (name_of a) (name_of b)) (λ own. bytes_eq (name_of own) name) (λ own. bytes_eq (name_of own) name) xs x (apart_by bytes_eq name_of xs apart) is
    (λ own holds. subst (λ it. IsTrue (bytes_eq (name_of x) it)) (sym (same_names (name_of own) name holds)) (found_holds (λ own. bytes_eq (name_of own) name) xs x is))
    (λ own holds. subst (λ it. IsTrue (bytes_eq it (name_of x))) (sym (same_names (name_of own) name holds)) (names_sym name (name_of x) ∙ found_holds (λ own. bytes_eq (name_of own) name) xs x is))

module _ (net : Network) (name : List ℕ) (vip : Vip) (proto : Option Proto) where
  abbrev new : Lb
  new = record { id = next_number net; name = name; proto = unwrap_or proto Tcp; vips = vip ∷ [] }

  abbrev longer : Lb → Lb
  longer lb = record lb { vips = lb.vips ++ vip ∷ [] }

  abbrev few_vips : Lb → Bool
  few_vips own = not (nat_lt 64 (length own.vips))

  abbrev of_vip : Vip → ℕ
  of_vip own = length own.backends

  abbrev most : Lb → ℕ
  most own = greatest of_vip own.vips

  abbrev few_backends : Lb → Bool
  few_backends own = not (nat_lt 64 (most own))

  -- a VIP more fits where there is room for it
  pub vip_fits : AreNamed net → nat_lt 64 (amount net kind.Vip) ≡ false → has_vip_room (lb_named net name) ≡ true → nat_lt 64 (amount (add_vip net name vip proto) kind.Vip) ≡ false
  vip_fits named low room =
      if_missing (λ after. nat_lt 64 (amount after kind.Vip) ≡ false) (lb_named net name) _ _
      (λ lb is. greatest_low (λ (own : Lb). length own.vips) 64 (each_where (λ own. bytes_eq own.name name) longer net.lbs)
      (all_only few_vips (λ own. bytes_eq own.name name) longer net.lbs lb (only_named (λ (own : Lb). own.name) net.lbs name lb named.lbs is) (one_more lb (ap has_vip_room (sym is) ∙ room)) (each_low (λ (own : Lb). length own.vips) 64 net.lbs low)))
      (λ missing. greatest_low (λ (own : Lb). length own.vips) 64 (net.lbs ++ new ∷ []) (all_push few_vips net.lbs new (each_low (λ (own : Lb). length own.vips) 64 net.lbs low) refl))
    where
      last : (vips : List Vip) → length (vips ++ vip ∷ []) ≡ length vips + 1
      last [] = refl
      last (v ∷ vips) = let rest = last vips in omega (arith, rest)

      below : (n m : ℕ) → nat_lt n 64 ≡ true → m ≡ n + 1 → nat_lt 64 m ≡ false
      below n m e is = grind (arith, nat_tests, e, is)

      one_more : (lb : Lb) → nat_lt (length lb.vips) 64 ≡ true → IsTrue (few_vips (longer lb))
      one_more lb less = ap not (below (length lb.vips) (length (lb.vips ++ vip ∷ [])) less (last lb.vips))

  -- its backends fit where they are few enough
  pub backends_fit : nat_lt 64 (amount net kind.Backend) ≡ false → nat_lt 64 (length vip.backends) ≡ false → nat_lt 64 (amount (add_vip net name vip proto) kind.Backend) ≡ false
  backends_fit low few =
      if_missing (λ after. nat_lt 64 (amount after kind.Backend) ≡ false) (lb_named net name) _ _
      (λ lb is. greatest_low most 64 (each_where (λ own. bytes_eq own.name name) longer net.lbs) (all_where few_backends (λ own. bytes_eq own.name name) longer net.lbs one_more (each_low most 64 net.lbs low)))
      (λ missing. greatest_low most 64 (net.lbs ++ new ∷ []) (all_push few_backends net.lbs new (each_low most 64 net.lbs low) (ap not (greatest_low of_vip 64 (vip ∷ []) (and_from (not (nat_lt 64 (of_vip vip))) true (ap not few) refl)))))
    where
      one_more : (own : Lb) → IsTrue (few_backends own) → IsTrue (few_backends (longer own))
      one_more own it = ap not (greatest_low of_vip 64 (own.vips ++ vip ∷ []) (all_push (λ v. not (nat_lt 64 (of_vip v))) own.vips vip (each_low of_vip 64 own.vips (not-true (nat_lt 64 (most own)) it)) (ap not few)))
