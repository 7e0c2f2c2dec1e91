-- Whether any record of a list is as it is asked for, by those that are found.
use Rattle.std.proofs.Common.{◌≡◌, ℕ, Bool, true, false, cond, not, ◌==◌, ◌&&◌, ◌||◌, if◌then◌else◌, List, [], ◌∷◌, Option, Some, None, refl, sym, ap, ◌∙◌}
use Rattle.std.proofs.lemmas.Bool.{and_parts, and_from, false≢true, true≢false, not-true}
use Rattle.std.specs.Prelude.{IsTrue, find, is_some}
use Rattle.std.specs.List.{list_any, AllByRecursion}
use Rattle.nv_base.specs.Block.{Block}
use Rattle.nv_base.specs.declared.object.ObjId.{ObjId}
use Rattle.nb_records.specs.declared.router.Nat.{Nat}
use Rattle.nb_records.specs.declared.router.NatKind.{NatKind}
use Rattle.nb_records.specs.declared.router.NatKind.TheVariants.{Snat, Dnat, DnatAndSnat}
use Rattle.nb_records.specs.declared.router.Route.{Route}
use Rattle.nb_records.specs.declared.router.RouteBy.{RouteBy}
use Rattle.nb_records.specs.declared.router.RouteBy.TheVariants.{Dst, Src}
use Rattle.nb_model.specs.Belongs.{same_block, same_policy, same_nat_kind, same_nat, is_number, is_snat}
use Rattle.nb_model.specs.Effect.{is_asked, is_nat, is_nat_at, is_route}
use Rattle.nb_model.specs.Network.{Network, same, router_id}
use Rattle.nb_model.specs.Readable.{are_apart}
use Rattle.nb_model.proofs.Alike.{number_key}
use Rattle.nb_model.proofs.AnyOf.{none_passes}
use Rattle.nb_model.proofs.RecordLists.{found_holds, none_found, only}

some_or : {X : Type 0} (here : Bool) (x : X) (rest : Option X) → is_some (cond here (Some x) rest) ≡ (here || is_some rest)
some_or true x rest = refl
some_or false x rest = refl

-- one is found where any passes
pub any_found : {X : Type 0} (p q : X → Bool) → ((x : X) → p x ≡ q x) → (xs : List X) → is_some (find p xs) ≡ list_any q xs
any_found p q each [] = refl
any_found p q each (x ∷ xs) = some_or (p x) x (find p xs) ∙ (λ i. each x i || any_found p q each xs i)

crossed : (a b c d : Bool) → ((a || b) || (c || d)) ≡ ((a || c) || (b || d))
crossed true b c d = refl
crossed false true true d = refl
crossed false true false d = refl
crossed false false c d = refl

-- any passes one of two tests
pub any_either : {X : Type 0} (p q r : X → Bool) → ((x : X) → (p x || q x) ≡ r x) → (xs : List X) → (list_any p xs || list_any q xs) ≡ list_any r xs
any_either p q r each [] = refl
any_either p q r each (x ∷ xs) = crossed (p x) (list_any p xs) (q x) (list_any q xs) ∙ (λ i. each x i || any_either p q r each xs i)

first_or : (first other : Bool) → first ≡ true → first ≡ (first || other)
first_or true other passes = refl
first_or false other passes = absurd (cc)

other_or : (first other : Bool) → first ≡ false → other ≡ (first || other)
other_or true other fails = absurd (cc)
other_or false other fails = refl

-- where one that is found passes another test, any passes it
any_at : {X : Type 0} (p q : X → Bool) (x : X) (xs : List X) → find p xs ≡ Some x → q x ≡ true → list_any q xs ≡ true
any_at p q x [] found passes = absurd (cc)
any_at {X} p q x (y ∷ xs) found passes = by (p y) found (λ later. any_at p q x xs later passes)
  where
    or_true : (a b : Bool) → b ≡ true → (a || b) ≡ true
    or_true true b is = refl
    or_true false b is = is

    by : (here : Bool) → cond here (Some y) (find p xs) ≡ Some x → (find p xs ≡ Some x → list_any q xs ≡ true) → (q y || list_any q xs) ≡ true
    by true is more = let it : y ≡ x = cc in ap (λ b. b || list_any q xs) (ap q it ∙ passes)
    by false is more = or_true (q y) (list_any q xs) (more is)

-- where only one could pass, and does not, none passes
none_other : {X : Type 0} (q : X → Bool) (x : X) (xs : List X) → AllByRecursion (λ y. IsTrue (q y) → y ≡ x) xs → q x ≡ false → list_any q xs ≡ false
none_other q x [] all fails = refl
none_other {X} q x (y ∷ xs) all fails = ap (λ b. b || list_any q xs) (by (q y) refl) ∙ none_other q x xs all.1 fails
  where
    by : (passes : Bool) → q y ≡ passes → q y ≡ false
    by true is = ap q (all.0 is) ∙ fails
    by false is = is

none_passes_false : {X : Type 0} (xs : List X) → list_any (λ x. false) xs ≡ false
none_passes_false [] = refl
none_passes_false (x ∷ xs) = none_passes_false xs

-- of a router that is not there
pub no_routes : (net : Network) (router : List ℕ) (prefix : Block) (by : Option RouteBy) → None ≡ router_id net router → false ≡ list_any (is_route net router (Some prefix) by) net.routes
no_routes net router prefix by none =
    sym (none_passes_false net.routes)
    ∙ ap (λ (number : Option ObjId). list_any (λ (route : Route). is_number number route.router && (same_block prefix route.prefix && is_asked same_policy by route.by)) net.routes) none

pub no_nats : (net : Network) (router : List ℕ) (kind : Option NatKind) (at : Block) → None ≡ router_id net router → false ≡ list_any (is_nat net router kind (Some at)) net.nats
no_nats net router kind at none =
    sym (none_passes_false net.nats)
    ∙ ap (λ (number : Option ObjId). list_any (λ (nat : Nat). is_number number nat.router && (is_asked same_nat_kind kind nat.kind && is_nat_at nat at)) net.nats) none

-- Routes of one router.
module _ (router : ObjId) (prefix : Block) (routes : List Route) where
  abbrev pub saying : RouteBy → Route → Bool
  saying by route = same router route.router && same_policy by route.by && same_block prefix route.prefix

  abbrev asked : RouteBy → Route → Bool
  asked by route = same router route.router && (same_block prefix route.prefix && same_policy by route.by)

  turned : (a b c : Bool) → (a && b && c) ≡ (a && (c && b))
  turned true true true = refl
  turned true true false = refl
  turned true false true = refl
  turned true false false = refl
  turned false b c = refl

  pub route_there : (by : RouteBy) → is_some (find (saying by) routes) ≡ list_any (asked by) routes
  route_there by = any_found (saying by) (asked by) (λ route. turned (same router route.router) (same_policy by route.by) (same_block prefix route.prefix)) routes

  either_policy : (a b : Bool) (by : RouteBy) → (a && (b && same_policy Dst by) || a && (b && same_policy Src by)) ≡ (a && (b && true))
  either_policy true true Dst = refl
  either_policy true true Src = refl
  either_policy true false by = refl
  either_policy false b by = refl

  any_policy : (list_any (asked Dst) routes || list_any (asked Src) routes) ≡ list_any (λ route. same router route.router && (same_block prefix route.prefix && true)) routes
  any_policy = any_either (asked Dst) (asked Src) (λ route. same router route.router && (same_block prefix route.prefix && true)) (λ route. either_policy (same router route.router) (same_block prefix route.prefix) route.by) routes

  pub first_policy : (first : Bool) → first ≡ list_any (asked Dst) routes → first ≡ true → first ≡ list_any (λ route. same router route.router && (same_block prefix route.prefix && true)) routes
  first_policy first is passes = first_or first (list_any (asked Src) routes) passes ∙ ap (λ b. b || list_any (asked Src) routes) is ∙ any_policy

  pub other_policy : (first other : Bool) → first ≡ list_any (asked Dst) routes → first ≡ false → other ≡ list_any (asked Src) routes → other ≡ list_any (λ route. same router route.router && (same_block prefix route.prefix && true)) routes
  other_policy first other is fails other_is = other_or first other fails ∙ (λ i. is i || other_is i) ∙ any_policy

-- NAT rules of one router.
block_key : (k a b : Block) → IsTrue (same_block k a) → IsTrue (same_block k b) → IsTrue (same_block a b)
block_key k a b e f =
    let x = and_parts (k.base.0 == a.base.0) (k.len == a.len) e in
    let y = and_parts (k.base.0 == b.base.0) (k.len == b.len) f in
    and_from (a.base.0 == b.base.0) (a.len == b.len) (number_key k.base.0 a.base.0 b.base.0 x.0 y.0) (number_key k.len a.len b.len x.1 y.1)

module _ (router : ObjId) (kind : NatKind) (at : Block) where
  abbrev pub like : Nat → Bool
  like nat = same router nat.router && (if is_snat kind then is_snat nat.kind && same_block at nat.logical else not (is_snat nat.kind) && (at.base.0 == nat.external.0))

  abbrev pub of_kind : Nat → Bool
  of_kind nat = same router nat.router && (same_nat_kind kind nat.kind && is_nat_at nat at)

  narrow : (asked own : NatKind) (s b e : Bool) → IsTrue (s && (same_nat_kind asked own && (if is_snat own then b else e))) → IsTrue (s && (if is_snat asked then is_snat own && b else not (is_snat own) && e))
  narrow Snat Snat s b e is = is
  narrow Dnat Dnat s b e is = is
  narrow DnatAndSnat DnatAndSnat s b e is = is
  narrow Snat Dnat true b e is = absurd (false≢true is)
  narrow Snat DnatAndSnat true b e is = absurd (false≢true is)
  narrow Dnat Snat true b e is = absurd (false≢true is)
  narrow Dnat DnatAndSnat true b e is = absurd (false≢true is)
  narrow DnatAndSnat Snat true b e is = absurd (false≢true is)
  narrow DnatAndSnat Dnat true b e is = absurd (false≢true is)
  narrow Snat Dnat false b e is = is
  narrow Snat DnatAndSnat false b e is = is
  narrow Dnat Snat false b e is = is
  narrow Dnat DnatAndSnat false b e is = is
  narrow DnatAndSnat Snat false b e is = is
  narrow DnatAndSnat Dnat false b e is = is

  -- one that is like it is at the address, where it is of the kind
  own_kind : (asked own : NatKind) (s b e : Bool) → IsTrue (s && (if is_snat asked then is_snat own && b else not (is_snat own) && e)) → (s && (same_nat_kind asked own && (if is_snat own then b else e))) ≡ same_nat_kind asked own
  own_kind Snat Snat s b e is = is
  own_kind Dnat Dnat s b e is = is
  own_kind DnatAndSnat DnatAndSnat s b e is = is
  own_kind Snat Dnat true b e is = refl
  own_kind Snat DnatAndSnat true b e is = refl
  own_kind Dnat Snat true b e is = refl
  own_kind Dnat DnatAndSnat true b e is = refl
  own_kind DnatAndSnat Snat true b e is = refl
  own_kind DnatAndSnat Dnat true b e is = refl
  own_kind Snat Dnat false b e is = refl
  own_kind Snat DnatAndSnat false b e is = refl
  own_kind Dnat Snat false b e is = refl
  own_kind Dnat DnatAndSnat false b e is = refl
  own_kind DnatAndSnat Snat false b e is = refl
  own_kind DnatAndSnat Dnat false b e is = refl

  says_same : (asked a b : Bool) (p q pq m n mn : Bool) → (IsTrue p → IsTrue q → IsTrue pq) → (IsTrue m → IsTrue n → IsTrue mn)
      → IsTrue (if asked then a && p else not a && m) → IsTrue (if asked then b && q else not b && n) → IsTrue (if a then b && pq else not b && mn)
  says_same true true true p q pq m n mn blocks numbers e f = blocks e f
  says_same true true false p q pq m n mn blocks numbers e f = absurd (false≢true f)
  says_same true false b p q pq m n mn blocks numbers e f = absurd (false≢true e)
  says_same false true b p q pq m n mn blocks numbers e f = absurd (false≢true e)
  says_same false false true p q pq m n mn blocks numbers e f = absurd (false≢true f)
  says_same false false false p q pq m n mn blocks numbers e f = numbers e f

  agree : (a b : Nat) → IsTrue (like a) → IsTrue (like b) → IsTrue (same_nat a b)
  agree a b e f =
      let x = and_parts (same router a.router) (if is_snat kind then is_snat a.kind && same_block at a.logical else not (is_snat a.kind) && (at.base.0 == a.external.0)) e in
      let y = and_parts (same router b.router) (if is_snat kind then is_snat b.kind && same_block at b.logical else not (is_snat b.kind) && (at.base.0 == b.external.0)) f in
      and_from (same a.router b.router) (if is_snat a.kind then is_snat b.kind && same_block a.logical b.logical else not (is_snat b.kind) && (a.external.0 == b.external.0))
      (number_key router.0 a.router.0 b.router.0 x.0 y.0)
      (says_same (is_snat kind) (is_snat a.kind) (is_snat b.kind) (same_block at a.logical) (same_block at b.logical) (same_block a.logical b.logical)
      (at.base.0 == a.external.0) (at.base.0 == b.external.0) (a.external.0 == b.external.0)
      (block_key at a.logical b.logical) (number_key at.base.0 a.external.0 b.external.0) x.1 y.1)

  is_like : (nat : Nat) → IsTrue (of_kind nat) → IsTrue (like nat)
  is_like nat is = narrow kind nat.kind (same router nat.router) (same_block at nat.logical) (at.base.0 == nat.external.0) is

  pub no_nat : (nats : List Nat) → None ≡ find like nats → false ≡ list_any of_kind nats
  no_nat nats none = sym (none_passes (λ nat. not (like nat)) of_kind nats (none_found like nats (sym none)) (λ nat is. by nat (of_kind nat) refl is))
    where
      by : (nat : Nat) (passes : Bool) → of_kind nat ≡ passes → IsTrue (not (like nat)) → of_kind nat ≡ false
      by nat true is fails = absurd (true≢false (sym (is_like nat is) ∙ not-true (like nat) fails))
      by nat false is fails = is

  pub nat_there : (nats : List Nat) → IsTrue (are_apart same_nat nats) → (nat : Nat) → Some nat ≡ find like nats → same_nat_kind kind nat.kind ≡ list_any of_kind nats
  nat_there nats apart nat found = by (same_nat_kind kind nat.kind) refl
    where
      is : IsTrue (like nat)
      is = found_holds like nats nat (sym found)

      own : of_kind nat ≡ same_nat_kind kind nat.kind
      own = own_kind kind nat.kind (same router nat.router) (same_block at nat.logical) (at.base.0 == nat.external.0) is

      by : (same_kind : Bool) → same_nat_kind kind nat.kind ≡ same_kind → same_kind ≡ list_any of_kind nats
      by true e = sym (any_at like of_kind nat nats (sym found) (own ∙ e))
      by false e = sym (none_other of_kind nat nats (only same_nat like of_kind nats nat apart (sym found) (λ y it. agree nat y is (is_like y it)) (λ y it. agree y nat (is_like y it) is)) (own ∙ e))

  pub like_there : (nats : List Nat) → is_some (find like nats) ≡ list_any like nats
  like_there nats = any_found like like (λ nat. refl) nats

module _ (router : ObjId) (at : Block) (nats : List Nat) where
  either_kind : (s : Bool) (own : NatKind) (b e : Bool) → (s && (is_snat own && b) || s && (not (is_snat own) && e)) ≡ (s && (true && (if is_snat own then b else e)))
  either_kind true Snat true e = refl
  either_kind true Snat false e = refl
  either_kind true Dnat b e = refl
  either_kind true DnatAndSnat b e = refl
  either_kind false own b e = refl

  abbrev at_it : Nat → Bool
  at_it nat = same router nat.router && (true && is_nat_at nat at)

  any_kind : (list_any (like router Snat at) nats || list_any (like router Dnat at) nats) ≡ list_any at_it nats
  any_kind = any_either (like router Snat at) (like router Dnat at) at_it (λ nat. either_kind (same router nat.router) nat.kind (same_block at nat.logical) (at.base.0 == nat.external.0)) nats

  pub first_kind : (first : Bool) → first ≡ list_any (like router Snat at) nats → first ≡ true → first ≡ list_any at_it nats
  first_kind first is passes = first_or first (list_any (like router Dnat at) nats) passes ∙ ap (λ b. b || list_any (like router Dnat at) nats) is ∙ any_kind

  pub other_kind : (first other : Bool) → first ≡ list_any (like router Snat at) nats → first ≡ false → other ≡ list_any (like router Dnat at) nats → other ≡ list_any at_it nats
  other_kind first other is fails other_is = other_or first other fails ∙ (λ i. is i || other_is i) ∙ any_kind
