-- The numbers of a network of which one kind of records changes.
use Rattle.std.proofs.Common.{◌≡◌, ℕ, ◌+◌, ◌<◌, ◌≤◌, Bool, true, false, zero, suc, cond, eqb, List, [], ◌∷◌, ◌++◌, map, get_or, refl, sym, subst, arith}
use Rattle.std.specs.Prelude.{IsTrue, nat_lt}
use Rattle.std.specs.List.{list_all, AllByRecursion}
use Rattle.std.proofs.lemmas.Bool.{and_parts, eqb-true, ltb-true}
use Rattle.nv_base.specs.Object.{number_limit}
use Rattle.nv_base.specs.declared.object.ObjId.{ObjId}
use Rattle.nb_model.specs.Effect.{each_where, without}
use Rattle.nb_model.specs.Network.{Network, next_number, same}
use Rattle.nb_model.specs.Readable.{are_apart}
use Rattle.nb_model.specs.Sound.{AreNumbered, is_rising, all_ids, switch_ids, port_ids, router_ids, router_port_ids, route_ids, nat_ids, lb_ids, acl_ids, set_ids, group_ids, binding_ids}
use Rattle.nb_model.proofs.Copies.{copies, copies_append, copies_apart, apart_copies}
use Rattle.nb_model.proofs.Kept.{Kept, is_used, untouched, some_gone, same_numbers, one_new}
use Rattle.nb_model.proofs.RecordKinds.{KindOf, kinds, joined, put_in}
use Rattle.nb_model.proofs.Lists.{all_parts, map_changed, map_changed_where}
use Rattle.nb_model.proofs.RecordLists.{all_append}

-- ---- lists of numbers, one of which is another

-- each list has what all of them have, one after the other; and all have what each has
pub each_part : (p : ObjId → Bool) (xss : List (List ObjId)) → IsTrue (list_all p (joined xss)) → AllByRecursion (λ xs. IsTrue (list_all p xs)) xss
each_part p [] all = tt
each_part p (xs ∷ []) all = (all, tt)
each_part p (xs ∷ ys ∷ more) all = let parts = all_parts p xs (joined (ys ∷ more)) all in (parts.0, each_part p (ys ∷ more) parts.1)

pub all_joined : (p : ObjId → Bool) (xss : List (List ObjId)) → AllByRecursion (λ xs. IsTrue (list_all p xs)) xss → IsTrue (list_all p (joined xss))
all_joined p [] each = refl
all_joined p (xs ∷ []) each = each.0
all_joined p (xs ∷ ys ∷ more) each = all_append p xs (joined (ys ∷ more)) each.0 (all_joined p (ys ∷ more) each.1)

copies_joined : (n : ℕ) (xs : List ObjId) (xss : List (List ObjId)) → copies n (joined (xs ∷ xss)) ≡ copies n xs + copies n (joined xss)
copies_joined n xs [] = omega arith
copies_joined n xs (ys ∷ more) = copies_append n xs (joined (ys ∷ more))

-- what each list has, as something weaker, and after the change
pub each_as : (P Q : List ObjId → Type 0) (xss : List (List ObjId)) → ((xs : List ObjId) → P xs → Q xs) → AllByRecursion P xss → AllByRecursion Q xss
each_as P Q [] weaker each = tt
each_as P Q (xs ∷ xss) weaker each = (weaker xs each.0, each_as P Q xss weaker each.1)

pub each_put : (P Q : List ObjId → Type 0) (k : ℕ) (ids : List ObjId) (xss : List (List ObjId)) → ((xs : List ObjId) → P xs → Q xs) → (P (get_or xss k []) → Q ids)
    → AllByRecursion P xss → AllByRecursion Q (put_in k ids xss)
each_put P Q k ids [] left changed each = tt
each_put P Q zero ids (xs ∷ xss) left changed each = (changed each.0, each_as P Q xss left each.1)
each_put P Q (suc k) ids (xs ∷ xss) left changed each = (left xs each.0, each_put P Q k ids xss left changed each.1)

-- how often a number stands in them then
copies_put : (n k : ℕ) (ids : List ObjId) (xss : List (List ObjId)) → copies n (joined (put_in k ids xss)) + copies n (get_or xss k []) ≤ copies n (joined xss) + copies n ids
copies_put n k ids [] = omega arith
copies_put n zero ids (xs ∷ xss) = omega (arith, copies_joined n xs xss, copies_joined n ids xss)
copies_put n (suc k) ids (xs ∷ xss) = omega (arith, copies_joined n xs xss, copies_joined n xs (put_in k ids xss), copies_put n k ids xss)

-- the next number is none of those below it
next_is_new : (next : ℕ) (ids : List ObjId) → IsTrue (list_all (is_used next) ids) → copies next ids ≡ 0
next_is_new next [] below = refl
next_is_new next (x ∷ xs) below =
    let parts = and_parts (is_used next x) (list_all (is_used next) xs) below in
    let low = and_parts (nat_lt 0 x.0) (nat_lt x.0 next) parts.0 in
    by (eqb next x.0) refl (ltb-true x.0 next low.1) (next_is_new next xs parts.1)
  where
    by : (b : Bool) → eqb next x.0 ≡ b → x.0 < next → copies next xs ≡ 0 → cond b 1 0 + copies next xs ≡ 0
    by true is low none = let at : next ≡ x.0 = eqb-true next x.0 is in absurd (omega arith)
    by false is low none = omega arith

-- numbers stay apart where at most the next one is new
apart_after : (next more : ℕ) (ids ids' : List ObjId) → more ≤ 1 → ((n : ℕ) → copies n ids' ≤ copies n ids + cond (eqb n next) more 0) → IsTrue (list_all (is_used next) ids)
    → IsTrue (are_apart same ids) → IsTrue (are_apart same ids')
apart_after next more ids ids' one once below apart =
    apart_copies ids' (λ n. by n (eqb n next) refl (copies_apart ids apart n) (once n))
  where
    by : (n : ℕ) (b : Bool) → eqb n next ≡ b → copies n ids ≤ 1 → copies n ids' ≤ copies n ids + cond b more 0 → copies n ids' ≤ 1
    by n true is once few =
        let at : n ≡ next = eqb-true n next is in
        let none : copies n ids ≡ 0 = subst (λ m. copies m ids ≡ 0) (sym at) (next_is_new next ids below) in
        omega arith
    by n false is once few = omega arith

-- the numbers of each kind are from 1 on and below the next one
pub record AreUsed (net : Network) : Type 0 where
  pub switches : IsTrue (list_all (is_used net.next) (switch_ids net))
  pub ports : IsTrue (list_all (is_used net.next) (port_ids net))
  pub routers : IsTrue (list_all (is_used net.next) (router_ids net))
  pub router_ports : IsTrue (list_all (is_used net.next) (router_port_ids net))
  pub routes : IsTrue (list_all (is_used net.next) (route_ids net))
  pub nats : IsTrue (list_all (is_used net.next) (nat_ids net))
  pub lbs : IsTrue (list_all (is_used net.next) (lb_ids net))
  pub acls : IsTrue (list_all (is_used net.next) (acl_ids net))
  pub sets : IsTrue (list_all (is_used net.next) (set_ids net))
  pub groups : IsTrue (list_all (is_used net.next) (group_ids net))
  pub bindings : IsTrue (list_all (is_used net.next) (binding_ids net))

pub are_used : (net : Network) → IsTrue (list_all (is_used net.next) (all_ids net)) → AreUsed net
are_used net all = let each = each_part (is_used net.next) (kinds net) all in assumption each

-- ---- one kind of a network changes

-- numbers that rise, from 1 on and below the next one
abbrev pub AreDrawn : ℕ → List ObjId → Type 0
AreDrawn next ids = IsTrue (is_rising ids) × IsTrue (list_all (is_used next) ids)

-- A network is numbered where each kind's numbers are drawn, and all are apart.
pub each_drawn : (net : Network) → AreNumbered net → AllByRecursion (AreDrawn net.next) (kinds net)
each_drawn net numbered = let used = are_used net numbered.below in assumption (numbered.order, used)

pub numbered_as : (net : Network) → AllByRecursion (AreDrawn net.next) (kinds net) → IsTrue (are_apart same (all_ids net)) → net.next < number_limit → 0 < net.next → AreNumbered net
numbered_as net each apart room from_one = record {
  order = assumption each;
  apart = apart;
  below = all_joined (is_used net.next) (kinds net) (each_as (AreDrawn net.next) (λ ids. IsTrue (list_all (is_used net.next) ids)) (kinds net) (λ ids drawn. drawn.1) each);
  room = room;
  from_one = from_one;
}

-- What a kind's numbers become keeps a network numbered, where at most the next number is new.
kind_kept : {X : Type 0} (kind : KindOf X) (net : Network) (more after : ℕ) (xs : List X) → more ≤ 1 → net.next ≤ after → after < number_limit
    → Kept net.next after more (map kind.number (kind.list net)) (map kind.number xs) → AreNumbered net → AreNumbered (kind.with_list xs after net)
kind_kept kind net more after xs one later room kept is =
    let ids : List ObjId = map kind.number xs in
    let old : List ObjId = get_or (kinds net) kind.place [] in
    let now : List (List ObjId) = put_in kind.place ids (kinds net) in
    let changed : Network = kind.with_list xs after net in
    let of : Kept net.next after more old ids = subst (λ given. Kept net.next after more given ids) (sym (kind.read net)) kept in
    let each : AllByRecursion (AreDrawn after) now = each_put (AreDrawn net.next) (AreDrawn after) kind.place ids (kinds net)
    (λ given drawn. (drawn.0, (untouched net.next after given later).below drawn.1)) (λ drawn. (of.rising drawn.0 drawn.1, of.below drawn.1)) (each_drawn net is) in
    let apart : IsTrue (are_apart same (joined now)) = apart_after net.next more (all_ids net) (joined now) one
    (λ n. omega (arith, copies_put n kind.place ids (kinds net), of.once n)) is.below is.apart in
    numbered_as changed (subst (λ n. AllByRecursion (AreDrawn n) (kinds changed)) (sym (kind.draws xs after net)) (subst (λ given. AllByRecursion (AreDrawn after) given) (sym (kind.put xs after net)) each))
    (subst (λ given. IsTrue (are_apart same (joined given))) (sym (kind.put xs after net)) apart)
    (subst (λ n. n < number_limit) (sym (kind.draws xs after net)) room) (subst (λ n. 0 < n) (sym (kind.draws xs after net)) (omega (arith, is.from_one)))

-- some of a kind are gone
pub fewer : {X : Type 0} {net : Network} (kind : KindOf X) (gone : X → Bool) → AreNumbered net → AreNumbered (kind.with_list (without gone (kind.list net)) net.next net)
fewer {net = net} kind gone is =
    kind_kept kind net 0 net.next (without gone (kind.list net)) (omega arith) (omega arith) is.room (some_gone kind.number gone (kind.list net) net.next) is

-- all are changed, or some, and keep their numbers
pub mapped : {X : Type 0} {net : Network} (kind : KindOf X) (change : X → X) → ((x : X) → kind.number (change x) ≡ kind.number x) → AreNumbered net
    → AreNumbered (kind.with_list (map change (kind.list net)) net.next net)
mapped {net = net} kind change keeps is =
    kind_kept kind net 0 net.next (map change (kind.list net)) (omega arith) (omega arith) is.room
    (same_numbers net.next (map kind.number (kind.list net)) _ (map_changed kind.number change (kind.list net) keeps)) is

pub changed : {X : Type 0} {net : Network} (kind : KindOf X) (holds : X → Bool) (change : X → X) → ((x : X) → kind.number (change x) ≡ kind.number x) → AreNumbered net
    → AreNumbered (kind.with_list (each_where holds change (kind.list net)) net.next net)
changed {net = net} kind holds change keeps is =
    kind_kept kind net 0 net.next (each_where holds change (kind.list net)) (omega arith) (omega arith) is.room
    (same_numbers net.next (map kind.number (kind.list net)) _ (map_changed_where kind.number holds change (kind.list net) keeps)) is

-- one of a kind is new
pub one_more : {X : Type 0} {net : Network} (kind : KindOf X) (x : X) → kind.number x ≡ next_number net → net.next + 1 < number_limit → AreNumbered net
    → AreNumbered (kind.with_list (kind.list net ++ x ∷ []) (net.next + 1) net)
one_more {net = net} kind x new room is =
    kind_kept kind net 1 (net.next + 1) (kind.list net ++ x ∷ []) (omega arith) (omega arith) room (one_new kind.number (kind.list net) x net.next is.from_one new) is
