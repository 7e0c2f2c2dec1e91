-- The rules that change destinations, as they are kept and asked for.
use Rattle.std.proofs.Common.{◌≡◌, Bool, true, false, ◌&&◌, ◌||◌, not, List, [], ◌∷◌, refl, sym, ap, ◌∙◌}
use Rattle.std.specs.Prelude.{Option, None, Some, is_some}
use Rattle.std.proofs.lemmas.Bool.{eq-eqb, false≢true}
use Rattle.std.specs.Cmp.{unsigned_tied}
use Rattle.std.specs.List.{list_any}
use Rattle.std.specs.Option.{option_map}
use Rattle.std.specs.Ordering.{is_eq, ordering_then}
use Rattle.std.specs.declared.cmp.Ordering.{Ordering}
use Rattle.std.specs.declared.cmp.Ordering.TheVariants.{Less, Equal, Greater}
use Rattle.nv_base.specs.declared.object.ObjId.{ObjId}
use Rattle.nv_map.specs.Map.{value_at}
use Rattle.nv_table.specs.Table.{record_of}
use Rattle.nv_table.proofs.Undone.{found_number}
use Rattle.nb_records.specs.declared.router.Nat.{Nat}
use Rattle.nb_records.specs.declared.router.Router.{Router}
use Rattle.nb_model.specs.Applies.{is_empty}
use Rattle.nb_model.specs.Belongs.{is_among}
use Rattle.nb_model.specs.Network.{Network, same}
use Rattle.nb_model.specs.Sound.{IsSound}
use Rattle.nb_router.specs.Vocabulary.{nats_of}
use Rattle.nb_store.specs.Touched.{AreAlikeBut, router_label}
use Rattle.lr_units.specs.Units.{router_nat_input, router_nat_units}
use Rattle.inc_feed.specs.Feed.{has_key}
use Rattle.net_units.specs.Keys.{by_number, by_numbers}
use Rattle.nd_inputs.proofs.Any.{any_agree, any_kept}
use Rattle.nd_inputs.proofs.Attached.{dnats_is}
use Rattle.nd_inputs.proofs.Sound.{nats_rise}
use Rattle.nd_owners.specs.Owners.{HasFirstOfEach}
use Rattle.nd_owners.proofs.Kept.{first_there}
use Rattle.nd_touched.proofs.Stay.{value_given}
use Rattle.nd_nats.specs.Dnats.{dnat_rules, is_dnat}
use Rattle.nd_nats.specs.inner.Found.{input_where}

of_router : (n : ObjId) (nat : Nat) → (is_dnat nat && (is_eq (by_number n nat.router) || false)) ≡ (same n nat.router && is_dnat nat)
of_router n nat = by (is_eq (by_number n nat.router)) (same n nat.router) (is_dnat nat) (unsigned_tied n.0 nat.router.0)
  where
    by : (a b is : Bool) → a ≡ b → (is && (a || false)) ≡ (b && is)
    by true true true e = refl
    by true true false e = refl
    by false false true e = refl
    by false false false e = refl
    by true false is e = absurd (cc)
    by false true is e = absurd (cc)

-- a router has such a rule where the table has a first one of it
dnat_there : (net : Network) (rules table : List (ObjId × ObjId)) → IsSound net → HasFirstOfEach (dnat_rules net) rules table → (n : ObjId) → list_any is_dnat (nats_of net n) ≡ is_some (value_at by_number n table)
dnat_there net rules table sound known n =
    any_kept (λ nat. same n nat.router) is_dnat net.nats
    ∙ sym (any_agree (λ nat. is_dnat nat && (is_eq (by_number n nat.router) || false)) (λ nat. same n nat.router && is_dnat nat) (of_router n) net.nats)
    ∙ first_there (λ (nat : Nat). nat.id) (λ (nat : Nat). nat.router) is_dnat net.nats rules table (nats_rise net sound) known n

-- what the unit of a router has
pub nat_at : (net : Network) (rules table : List (ObjId × ObjId)) → IsSound net → HasFirstOfEach (dnat_rules net) rules table → (n : ObjId)
    → value_at by_number n (router_nat_units net) ≡ input_where (value_at by_number n table) (record_of (λ x. x.id) n net.routers)
nat_at net rules table sound known n = value_given (λ (x : Router). x.id) (router_nat_input net) n net.routers ∙ by (record_of (λ (x : Router). x.id) n net.routers) refl
  where
    by : (o : Option Router) → record_of (λ (x : Router). x.id) n net.routers ≡ o → option_map (router_nat_input net) o ≡ input_where (value_at by_number n table) o
    by None is = refl
    by (Some router) is =
        let own : n ≡ router.id = found_number (λ (x : Router). x.id) n router net.routers is in
        ap (λ (b : Bool). Some (record { dnats = b }))
        (sym (dnats_is net sound router (ap (λ (m : ObjId). record_of (λ (x : Router). x.id) m net.routers) (sym own) ∙ is))
        ∙ ap (λ b. b || not (is_empty router.lbs)) (dnat_there net rules table sound known router.id ∙ ap (λ (m : ObjId). is_some (value_at by_number m table)) (sym own)))

-- ---- records that list the same numbers

same_emptiness : (xs ys : List ObjId) → ((k : ObjId) → is_among k xs ≡ is_among k ys) → is_empty xs ≡ is_empty ys
same_emptiness [] [] among = refl
same_emptiness (x ∷ xs) (y ∷ ys) among = refl
same_emptiness [] (y ∷ ys) among = absurd (false≢true (among y ∙ ap (λ b. b || is_among y ys) (eq-eqb y.0 y.0 refl)))
same_emptiness (x ∷ xs) [] among = absurd (false≢true (sym (among x) ∙ ap (λ b. b || is_among x xs) (eq-eqb x.0 x.0 refl)))

pub input_alike : (moved : ObjId → Type 0) (first : Option ObjId) (a b : Option Router) → ((k : ObjId) → moved k → ⊥) → AreAlikeBut moved (λ (x : Router). x.lbs) router_label a b → input_where first a ≡ input_where first b
input_alike moved first None None none alike = refl
input_alike moved first (Some a) (Some b) none alike = ap (λ b. Some (record { dnats = is_some first || not b })) (same_emptiness a.lbs b.lbs (λ k. alike.1 k (none k)))
input_alike moved first None (Some b) none alike = absurd alike
input_alike moved first (Some a) None none alike = absurd alike

-- no pair has an owner that is none of the first of these
none_of_owner : (n k : ObjId) (pairs : List (ObjId × ObjId)) → list_any (λ (pair : ObjId × ObjId). is_eq (by_number n pair.0)) pairs ≡ false → has_key by_numbers (n, k) pairs ≡ false
none_of_owner n k [] none = refl
none_of_owner n k (x ∷ pairs) none = by (by_number n x.0) (by_number k x.1) none (none_of_owner n k pairs)
  where
    by : (a b : Ordering) → (is_eq a || list_any (λ (pair : ObjId × ObjId). is_eq (by_number n pair.0)) pairs) ≡ false
        → (list_any (λ (pair : ObjId × ObjId). is_eq (by_number n pair.0)) pairs ≡ false → has_key by_numbers (n, k) pairs ≡ false) → (is_eq (ordering_then a b) || has_key by_numbers (n, k) pairs) ≡ false
    by Less b none rest = rest none
    by Greater b none rest = rest none
    by Equal b none rest = absurd (cc)

pub never_of_owner : (n : ObjId) (pairs : List (ObjId × ObjId)) → list_any (λ (pair : ObjId × ObjId). is_eq (by_number n pair.0)) pairs ≡ false → (k : ObjId) → has_key by_numbers (n, k) pairs ≡ true → ⊥
never_of_owner n pairs none k is = false≢true (sym (none_of_owner n k pairs none) ∙ is)
