-- The routes and the NAT rules of a router at one prefix: no two of them say the same.
use Rattle.std.proofs.Common.{◌≡◌, ◌&&◌, ◌||◌, ◌==◌, Bool, true, false, cond, not, if◌then◌else◌, List, [], ◌∷◌, Option, Some, None, refl, sym, ap, ◌∙◌}
use Rattle.std.proofs.lemmas.Bool.{and_parts, and_from}
use Rattle.std.specs.Prelude.{find}
use Rattle.std.specs.Bool.{IsTrue}
use Rattle.nv_base.specs.Block.{Block}
use Rattle.nv_base.specs.declared.object.ObjId.{ObjId}
use Rattle.nb_records.specs.declared.router.Nat.{Nat}
use Rattle.nb_records.specs.declared.router.NatKind.{NatKind}
use Rattle.nb_records.specs.declared.router.NatKind.TheVariants.{Snat, Dnat, DnatAndSnat}
use Rattle.nb_records.specs.declared.router.Route.{Route}
use Rattle.nb_records.specs.declared.router.RouteBy.{RouteBy}
use Rattle.nb_records.specs.declared.router.RouteBy.TheVariants.{Dst, Src}
use Rattle.nb_model.specs.Belongs.{is_snat, same_block, same_nat, same_nat_kind, same_policy, same_route}
use Rattle.nb_model.specs.Effect.{without, is_asked}
use Rattle.nb_model.specs.Network.{Network, same}
use Rattle.nb_model.specs.Readable.{are_apart}
use Rattle.nb_model.proofs.Alike.{number_key}
use Rattle.nb_model.proofs.RecordLists.{found_holds}
use Rattle.nv_table.specs.Table.{NumbersRise, without_number}
use Rattle.nb_store.specs.Undo.{removed}
use Rattle.nb_store.specs.declared.step.Place.TheVariants as place
use Rattle.nb_change.specs.inner.Routers.{is_route_for, is_nat_for, is_nat_like}
use Rattle.nb_change.proofs.Goes.{none_like, it_goes, it_goes_if, both_go}

block_key : (k a b : Block) → IsTrue (same_block k a) → IsTrue (same_block k b) → IsTrue (same_block a b)
block_key k a b e f =
    let x = and_parts (k.base.0 == a.base.0) (k.len == a.len) e in
    let y = and_parts (k.base.0 == b.base.0) (k.len == b.len) f in
    and_from (a.base.0 == b.base.0) (a.len == b.len) (number_key k.base.0 a.base.0 b.base.0 x.0 y.0) (number_key k.len a.len b.len x.1 y.1)

policy_key : (k a b : RouteBy) → IsTrue (same_policy k a) → IsTrue (same_policy k b) → IsTrue (same_policy a b)
policy_key Dst Dst Dst e f = refl
policy_key Src Src Src e f = refl
policy_key Dst Src b e f = absurd (cc)
policy_key Src Dst b e f = absurd (cc)
policy_key Dst Dst Src e f = absurd (cc)
policy_key Src Src Dst e f = absurd (cc)

turned : (o p b : Bool) → (o && (b && p)) ≡ (o && p && b)
turned true true true = refl
turned true true false = refl
turned true false true = refl
turned true false false = refl
turned false p b = refl

module _ (router : ObjId) (prefix : Block) where
  abbrev pub says : RouteBy → Route → Bool
  says by r = same router r.router && same_policy by r.by && same_block prefix r.prefix

  abbrev pub goes : Option RouteBy → Route → Bool
  goes by r = same router r.router && is_route_for (Some prefix) by r

  one : (by : RouteBy) (r : Route) → goes (Some by) r ≡ says by r
  one by r = turned (same router r.router) (same_policy by r.by) (same_block prefix r.prefix)

  narrow : (by : RouteBy) (r : Route) → IsTrue (goes (Some by) r) → IsTrue (says by r)
  narrow by r is = sym (one by r) ∙ is

  agree : (by : RouteBy) (a b : Route) → IsTrue (says by a) → IsTrue (says by b) → IsTrue (same_route a b)
  agree by a b e f =
      let e1 = and_parts (same router a.router && same_policy by a.by) (same_block prefix a.prefix) e in
      let f1 = and_parts (same router b.router && same_policy by b.by) (same_block prefix b.prefix) f in
      let e2 = and_parts (same router a.router) (same_policy by a.by) e1.0 in
      let f2 = and_parts (same router b.router) (same_policy by b.by) f1.0 in
      and_from (same a.router b.router && same_policy a.by b.by) (same_block a.prefix b.prefix)
      (and_from (same a.router b.router) (same_policy a.by b.by) (number_key router.0 a.router.0 b.router.0 e2.0 f2.0) (policy_key by a.by b.by e2.1 f2.1))
      (block_key prefix a.prefix b.prefix e1.1 f1.1)

  pub no_route : (by : RouteBy) (net : Network) → None ≡ find (says by) net.routes → net ≡ record net { routes = without (goes (Some by)) net.routes }
  no_route by net none = ap (λ (all : List Route). record net { routes = all }) (none_like (λ (r : Route). r.id) (says by) (goes (Some by)) same_route (narrow by) (agree by) net.routes none)

  pub the_route : (by : RouteBy) (net : Network) (x : Route) → Some x ≡ find (says by) net.routes → NumbersRise (λ (r : Route). r.id) net.routes → IsTrue (are_apart same_route net.routes)
      → removed (place.Route x.id) net ≡ record net { routes = without (goes (Some by)) net.routes }
  the_route by net x found rise apart =
      ap (λ (all : List Route). record net { routes = all }) (it_goes (λ (r : Route). r.id) (says by) (goes (Some by)) same_route (narrow by) (agree by) x net.routes found rise apart (one by x ∙ found_holds (says by) net.routes x (sym found)))

  policies : (o b : Bool) (own : RouteBy) → ((o && (b && same_policy Dst own)) || (o && (b && same_policy Src own))) ≡ (o && (b && true))
  policies true true Dst = refl
  policies true true Src = refl
  policies true false own = refl
  policies false b own = refl

  pub both_routes : (by : Option RouteBy) → None ≡ by → (net : Network) → without (goes (Some Src)) (without (goes (Some Dst)) net.routes) ≡ without (goes by) net.routes
  both_routes (Some by) none net = absurd (cc)
  both_routes None none net = both_go (goes (Some Dst)) (goes (Some Src)) (goes None) (λ r. policies (same router r.router) (same_block prefix r.prefix) r.by) net.routes

module _ (router : ObjId) (at : Block) where
  abbrev pub said : NatKind → Nat → Bool
  said like n = same router n.router && is_nat_like like at n

  abbrev pub leaves : NatKind → Option NatKind → Nat → Bool
  leaves like asked n = said like n && is_asked same_nat_kind asked n.kind

  narrow_nat : (like : NatKind) (asked : Option NatKind) (n : Nat) → IsTrue (leaves like asked n) → IsTrue (said like n)
  narrow_nat like asked n is = (and_parts (said like n) (is_asked same_nat_kind asked n.kind) is).0

  alike : (like a b : NatKind) (p q r s t u : Bool) → ((IsTrue p) → (IsTrue q) → IsTrue t) → ((IsTrue r) → (IsTrue s) → IsTrue u)
      → IsTrue (if is_snat like then is_snat a && p else not (is_snat a) && r) → IsTrue (if is_snat like then is_snat b && q else not (is_snat b) && s)
      → IsTrue (if is_snat a then is_snat b && t else not (is_snat b) && u)
  alike Snat Snat Snat p q r s t u blocks others e f = blocks e f
  alike Snat Dnat b p q r s t u blocks others e f = absurd (cc)
  alike Snat DnatAndSnat b p q r s t u blocks others e f = absurd (cc)
  alike Snat Snat Dnat p q r s t u blocks others e f = absurd (cc)
  alike Snat Snat DnatAndSnat p q r s t u blocks others e f = absurd (cc)
  alike Dnat Snat b p q r s t u blocks others e f = absurd (cc)
  alike Dnat Dnat Snat p q r s t u blocks others e f = absurd (cc)
  alike Dnat Dnat Dnat p q r s t u blocks others e f = others e f
  alike Dnat Dnat DnatAndSnat p q r s t u blocks others e f = others e f
  alike Dnat DnatAndSnat Snat p q r s t u blocks others e f = absurd (cc)
  alike Dnat DnatAndSnat Dnat p q r s t u blocks others e f = others e f
  alike Dnat DnatAndSnat DnatAndSnat p q r s t u blocks others e f = others e f
  alike DnatAndSnat Snat b p q r s t u blocks others e f = absurd (cc)
  alike DnatAndSnat Dnat Snat p q r s t u blocks others e f = absurd (cc)
  alike DnatAndSnat Dnat Dnat p q r s t u blocks others e f = others e f
  alike DnatAndSnat Dnat DnatAndSnat p q r s t u blocks others e f = others e f
  alike DnatAndSnat DnatAndSnat Snat p q r s t u blocks others e f = absurd (cc)
  alike DnatAndSnat DnatAndSnat Dnat p q r s t u blocks others e f = others e f
  alike DnatAndSnat DnatAndSnat DnatAndSnat p q r s t u blocks others e f = others e f

  agree_nats : (like : NatKind) (a b : Nat) → IsTrue (said like a) → IsTrue (said like b) → IsTrue (same_nat a b)
  agree_nats like a b e f =
      let e1 = and_parts (same router a.router) (is_nat_like like at a) e in
      let f1 = and_parts (same router b.router) (is_nat_like like at b) f in
      and_from (same a.router b.router) _ (number_key router.0 a.router.0 b.router.0 e1.0 f1.0)
      (alike like a.kind b.kind (same_block at a.logical) (same_block at b.logical) (at.base.0 == a.external.0) (at.base.0 == b.external.0) (same_block a.logical b.logical) (a.external.0 == b.external.0)
      (block_key at a.logical b.logical) (number_key at.base.0 a.external.0 b.external.0) e1.1 f1.1)

  pub no_nat : (like : NatKind) (asked : Option NatKind) (net : Network) → None ≡ find (said like) net.nats → net ≡ record net { nats = without (leaves like asked) net.nats }
  no_nat like asked net none = ap (λ (all : List Nat). record net { nats = all }) (none_like (λ (n : Nat). n.id) (said like) (leaves like asked) same_nat (narrow_nat like asked) (agree_nats like) net.nats none)

  pub the_nat : (like : NatKind) (asked : Option NatKind) (net : Network) (x : Nat) → Some x ≡ find (said like) net.nats → NumbersRise (λ (n : Nat). n.id) net.nats → IsTrue (are_apart same_nat net.nats)
      → (b : Bool) → b ≡ is_asked same_nat_kind asked x.kind → cond b (removed (place.Nat x.id) net) net ≡ record net { nats = without (leaves like asked) net.nats }
  the_nat like asked net x found rise apart b is =
      by b
      ∙ ap (λ (all : List Nat). record net { nats = all })
      (it_goes_if (λ (n : Nat). n.id) (said like) (leaves like asked) same_nat (narrow_nat like asked) (agree_nats like) x net.nats found rise apart b
      (ap (λ t. t && is_asked same_nat_kind asked x.kind) (found_holds (said like) net.nats x (sym found)) ∙ sym is))
    where
      by : (b : Bool) → cond b (removed (place.Nat x.id) net) net ≡ record net { nats = cond b (without_number (λ (n : Nat). n.id) x.id net.nats) net.nats }
      by true = refl
      by false = refl

  kinds : (o p r : Bool) (own : NatKind) → (((o && (if is_snat Snat then is_snat own && p else not (is_snat own) && r)) && true) || ((o && (if is_snat Dnat then is_snat own && p else not (is_snat own) && r)) && true))
      ≡ (o && (true && (if is_snat own then p else r)))
  kinds false p r own = refl
  kinds true true r Snat = refl
  kinds true false r Snat = refl
  kinds true p true Dnat = refl
  kinds true p false Dnat = refl
  kinds true p true DnatAndSnat = refl
  kinds true p false DnatAndSnat = refl

  pub both_nats : (asked : Option NatKind) → None ≡ asked → (net : Network)
      → without (leaves Dnat asked) (without (leaves Snat asked) net.nats) ≡ without (λ n. same router n.router && is_nat_for asked (Some at) n) net.nats
  both_nats (Some kind) none net = absurd (cc)
  both_nats None none net =
      both_go (leaves Snat None) (leaves Dnat None) (λ n. same router n.router && is_nat_for None (Some at) n)
      (λ n. kinds (same router n.router) (same_block at n.logical) (at.base.0 == n.external.0) n.kind) net.nats

  of_kind : (o p r : Bool) (like own : NatKind) → ((o && (if is_snat like then is_snat own && p else not (is_snat own) && r)) && same_nat_kind like own) ≡ (o && (same_nat_kind like own && (if is_snat own then p else r)))
  of_kind false p r like own = refl
  of_kind true true r Snat Snat = refl
  of_kind true false r Snat Snat = refl
  of_kind true p r Snat Dnat = refl
  of_kind true p r Snat DnatAndSnat = refl
  of_kind true p r Dnat Snat = refl
  of_kind true p true Dnat Dnat = refl
  of_kind true p false Dnat Dnat = refl
  of_kind true p true Dnat DnatAndSnat = refl
  of_kind true p false Dnat DnatAndSnat = refl
  of_kind true p r DnatAndSnat Snat = refl
  of_kind true p true DnatAndSnat Dnat = refl
  of_kind true p false DnatAndSnat Dnat = refl
  of_kind true p true DnatAndSnat DnatAndSnat = refl
  of_kind true p false DnatAndSnat DnatAndSnat = refl

  same_left : (p q : Nat → Bool) → ((n : Nat) → p n ≡ q n) → (ns : List Nat) → without p ns ≡ without q ns
  same_left p q is [] = refl
  same_left p q is (n ∷ ns) = ap (λ b. cond (not b) (n ∷ without p ns) (without p ns)) (is n) ∙ ap (λ l. cond (not (q n)) (n ∷ l) l) (same_left p q is ns)

  pub nats_of_kind : (like : NatKind) (net : Network)
      → record net { nats = without (leaves like (Some like)) net.nats } ≡ record net { nats = without (λ n. same router n.router && is_nat_for (Some like) (Some at) n) net.nats }
  nats_of_kind like net =
      ap (λ (all : List Nat). record net { nats = all }) (same_left (leaves like (Some like)) (λ n. same router n.router && is_nat_for (Some like) (Some at) n)
      (λ n. of_kind (same router n.router) (same_block at n.logical) (at.base.0 == n.external.0) like n.kind) net.nats)
