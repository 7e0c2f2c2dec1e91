-- A router has at most one route of a policy and a prefix. So the way of a length by the routes that take an address is the one by the
-- route for the network of this length that has the address.
use Rattle.std.proofs.Common.{◌≡◌, ℕ, ◌+◌, ◌-◌, ◌*◌, ◌/◌, ◌^◌, ◌<◌, ◌≤◌, Bool, true, false, cond, List, [], ◌∷◌, map, Option, Some, None, arith, refl, sym, ap, ◌∙◌, subst}
use Rattle.std.specs.Prelude.{◌&&◌, ◌==◌, nat_le, not, filter, option_map, option_and_then}
use Rattle.std.specs.Bool.{IsTrue}
use Rattle.std.specs.List.{cons_option, filter_map, find, list_all}
use Rattle.std.proofs.Math.Nat.{mul-div_cancel}
use Rattle.std.proofs.lemmas.Bool.{false≢true, and_from, and_parts, eq-eqb, eqb-true, not-true}
use Rattle.std.proofs.lemmas.Bool.Decides.{nat_tests}
use Rattle.std.proofs.lemmas.Nat.{pow_pos}
use Rattle.std.proofs.lemmas.Option.{none-some, same_Some}
use Rattle.nv_base.specs.Block.{Block}
use Rattle.nv_base.specs.declared.ip4.Ip4.{Ip4}
use Rattle.nv_base.specs.declared.object.ObjId.{ObjId}
use Rattle.nb_records.specs.declared.router.Route.{Route}
use Rattle.nb_records.specs.declared.router.RouteBy.{RouteBy}
use Rattle.nb_records.specs.declared.router.RouteBy.TheVariants.{Dst, Src}
use Rattle.nb_records.specs.declared.router.RouterPort.{RouterPort}
use Rattle.nb_read.specs.Readings.{cleared}
use Rattle.nb_model.specs.Addresses.{size_of}
use Rattle.nb_model.specs.Belongs.{same_block, same_policy, same_route}
use Rattle.nb_model.specs.Network.{Network, same}
use Rattle.nb_model.specs.Readable.{are_apart, is_block, is_cleared, is_ip4, is_nexthop, may_name}
use Rattle.nb_model.specs.Sound.{IsSound}
use Rattle.net_router.specs.Input.{is_in_network}
use Rattle.net_router.specs.Routing as routing
use Rattle.net_router.specs.Routing.{asking, exit_of, hop_by, static_ways, takes, way_of}
use Rattle.net_choice.specs.declared.routes.Way.{Way}
use Rattle.net_choice.specs.inner.Routes.{is_for, is_shorter, longest_static, network_of, numbered_way, way_for}
use Rattle.net_choice.proofs.Longest.{AllShorter, all_shorter, has_len, longest_is, longest_stays, no_way}

same_policies : (a b : RouteBy) → same_policy a b ≡ same_policy b a
same_policies Dst Dst = refl
same_policies Dst Src = refl
same_policies Src Dst = refl
same_policies Src Src = refl

policy_key : (k a b : RouteBy) → same_policy k a ≡ true → same_policy k b ≡ true → same_policy a b ≡ true
policy_key Dst Dst Dst e f = refl
policy_key Src Src Src e f = refl
policy_key Dst Src b e f = absurd (cc)
policy_key Src Dst b e f = absurd (cc)
policy_key Dst Dst Src e f = absurd (cc)
policy_key Src Src Dst e f = absurd (cc)

number_key : (k a b : ℕ) → (k == a) ≡ true → (k == b) ≡ true → (a == b) ≡ true
number_key k a b e f = subst (λ n. (n == b) ≡ true) (eqb-true k a e) f

number_turned : (a b : ℕ) → (a == b) ≡ true → (b == a) ≡ true
number_turned a b e = eq-eqb b a (sym (eqb-true a b e))

-- as the reading of a route leaves it
abbrev IsRead : Route → Type 0
IsRead r = IsTrue (is_cleared r.prefix && is_nexthop r.nexthop && may_name r.port)

-- its prefix has at most 32 bits, and no host part
len_fits : (p : Block) → IsTrue (is_cleared p) → p.len < 33
len_fits p is =
    let long : nat_le p.len 32 ≡ true = (and_parts (is_ip4 p.base) (nat_le p.len 32) (and_parts (is_block p) (same_block p (cleared p)) is).0).1 in
    grind (arith, nat_tests, long)

base_cleared : (p : Block) → IsTrue (is_cleared p) → p.base.0 ≡ p.base.0 / size_of p * size_of p
base_cleared p is =
    eqb-true p.base.0 (cleared p).base.0 (and_parts (p.base.0 == (cleared p).base.0) (p.len == (cleared p).len) (and_parts (is_block p) (same_block p (cleared p)) is).1).0

prefix_read : (r : Route) → IsRead r → IsTrue (is_cleared r.prefix)
prefix_read r read = (and_parts (is_cleared r.prefix) (is_nexthop r.nexthop) (and_parts (is_cleared r.prefix && is_nexthop r.nexthop) (may_name r.port) read).0).0

-- the network of an address has it
network_has : (ip : Ip4) (len : ℕ) (p : Block) → same_block (network_of ip len) p ≡ true → (is_in_network ip.0 p ≡ true) × (p.len ≡ len)
network_has ip len p is = (eq-eqb (ip.0 / size_of p) (p.base.0 / size_of p) (sym quotient), same_len)
  where
    parts : (((network_of ip len).base.0 == p.base.0) ≡ true) × ((len == p.len) ≡ true)
    parts = and_parts ((network_of ip len).base.0 == p.base.0) (len == p.len) is

    same_len : p.len ≡ len
    same_len = sym (eqb-true len p.len parts.1)

    base : ip.0 / size_of p * size_of p ≡ p.base.0
    base = ap (λ l. ip.0 / 2 ^ (32 - l) * 2 ^ (32 - l)) same_len ∙ eqb-true (network_of ip len).base.0 p.base.0 parts.0

    quotient : p.base.0 / size_of p ≡ ip.0 / size_of p
    quotient = ap (λ m. m / size_of p) (sym base) ∙ mul-div_cancel (ip.0 / size_of p) (pow_pos (32 - p.len))

-- and a network without a host part that has it is that one
network_is : (ip : Ip4) (len : ℕ) (p : Block) → IsTrue (is_cleared p) → is_in_network ip.0 p ≡ true → p.len ≡ len → same_block (network_of ip len) p ≡ true
network_is ip len p cleared has same_len =
    and_from ((network_of ip len).base.0 == p.base.0) (len == p.len)
    (eq-eqb (network_of ip len).base.0 p.base.0
    (ap (λ l. ip.0 / 2 ^ (32 - l) * 2 ^ (32 - l)) (sym same_len) ∙ ap (λ m. m * size_of p) (eqb-true (ip.0 / size_of p) (p.base.0 / size_of p) has) ∙ sym (base_cleared p cleared)))
    (eq-eqb len p.len (sym same_len))

module _ (net : Network) (router : ObjId) (by : RouteBy) (ip : Ip4) where
  -- the way by a route is as long as its prefix
  way_len : (r : Route) (way : routing.Way) → way_of net r ≡ Some way → way.len ≡ r.prefix.len
  way_len r way = by_exit (exit_of net r)
    where
      by_exit : (o : Option RouterPort) → option_map (λ (port : RouterPort). record { len = r.prefix.len; hop = hop_by port r.nexthop (asking port r.nexthop) }) o ≡ Some way → way.len ≡ r.prefix.len
      by_exit None is = absurd (none-some way is)
      by_exit (Some port) is = ap (λ (w : routing.Way). w.len) (sym (same_Some _ way is))

  module _ (len : ℕ) where
    abbrev is_its : Route → Bool
    is_its r = is_for router by (network_of ip len) r

    its_takes : (r : Route) → is_its r ≡ true → (takes router by ip r ≡ true) × (r.prefix.len ≡ len)
    its_takes r is =
        let parts = and_parts (same router r.router && same_policy by r.by) (same_block (network_of ip len) r.prefix) is in
        let owner = and_parts (same router r.router) (same_policy by r.by) parts.0 in
        let has = network_has ip len r.prefix parts.1 in
        (and_from (same r.router router && same_policy r.by by) (is_in_network ip.0 r.prefix) (and_from (same r.router router) (same_policy r.by by) (number_turned router.0 r.router.0 owner.0) (same_policies r.by by ∙ owner.1)) has.0, has.1)

    taken_is : (r : Route) → IsRead r → takes router by ip r ≡ true → r.prefix.len ≡ len → is_its r ≡ true
    taken_is r read taken same_len =
        let parts = and_parts (same r.router router && same_policy r.by by) (is_in_network ip.0 r.prefix) taken in
        let owner = and_parts (same r.router router) (same_policy r.by by) parts.0 in
        and_from (same router r.router && same_policy by r.by) (same_block (network_of ip len) r.prefix)
        (and_from (same router r.router) (same_policy by r.by) (number_turned r.router.0 router.0 owner.0) (same_policies by r.by ∙ owner.1))
        (network_is ip len r.prefix (prefix_read r read) parts.1 same_len)

    its_alike : (a b : Route) → is_its a ≡ true → is_its b ≡ true → same_route a b ≡ true
    its_alike a b e f =
        let e1 = and_parts (same router a.router && same_policy by a.by) (same_block (network_of ip len) a.prefix) e in
        let f1 = and_parts (same router b.router && same_policy by b.by) (same_block (network_of ip len) b.prefix) f in
        let e2 = and_parts (same router a.router) (same_policy by a.by) e1.0 in
        let f2 = and_parts (same router b.router) (same_policy by b.by) f1.0 in
        let e3 = and_parts ((network_of ip len).base.0 == a.prefix.base.0) (len == a.prefix.len) e1.1 in
        let f3 = and_parts ((network_of ip len).base.0 == b.prefix.base.0) (len == b.prefix.len) f1.1 in
        and_from (same a.router b.router && same_policy a.by b.by) (same_block a.prefix b.prefix)
        (and_from (same a.router b.router) (same_policy a.by b.by) (number_key router.0 a.router.0 b.router.0 e2.0 f2.0) (policy_key by a.by b.by e2.1 f2.1))
        (and_from (a.prefix.base.0 == b.prefix.base.0) (a.prefix.len == b.prefix.len) (number_key (network_of ip len).base.0 a.prefix.base.0 b.prefix.base.0 e3.0 f3.0) (number_key len a.prefix.len b.prefix.len e3.1 f3.1))

    -- no other is the same
    no_other : (r : Route) → is_its r ≡ true → (rs : List Route) → IsTrue (list_all (λ y. not (same_route r y)) rs) → find is_its rs ≡ None
    no_other r is [] apart = refl
    no_other r is (y ∷ rs) apart =
        let parts = and_parts (not (same_route r y)) (list_all (λ z. not (same_route r z)) rs) apart in
        ap (λ b. cond b (Some y) (find is_its rs)) (other (is_its y) refl (not-true (same_route r y) parts.0)) ∙ no_other r is rs parts.1
      where
        other : (b : Bool) → is_its y ≡ b → same_route r y ≡ false → is_its y ≡ false
        other true its apart' = absurd (false≢true (sym apart' ∙ its_alike r y is its))
        other false its apart' = its

    abbrev found : Option Route → Option Way
    found o = option_map numbered_way (option_and_then (way_of net) o)

    abbrev first_of : List Route → Option Way
    first_of rs = find (has_len len) (map numbered_way (filter_map (way_of net) rs))

    abbrev taking : List Route → List Route
    taking rs = filter (takes router by ip) rs

    -- with the way by one more route, where there is one
    abbrev with_way : List Route → Option routing.Way → Option Way
    with_way rs o = find (has_len len) (map numbered_way (cons_option o (filter_map (way_of net) (taking rs))))

    of_routes : (rs : List Route) → IsTrue (list_all (λ r. is_cleared r.prefix && is_nexthop r.nexthop && may_name r.port) rs) → IsTrue (are_apart same_route rs) → found (find is_its rs) ≡ first_of (taking rs)
    of_routes [] read apart = refl
    of_routes (r ∷ rs) read apart = go (is_its r) refl (takes router by ip r) refl (of_routes rs reads.1 parts.1)
      where
        reads : IsRead r × IsTrue (list_all (λ x. is_cleared x.prefix && is_nexthop x.nexthop && may_name x.port) rs)
        reads = and_parts (is_cleared r.prefix && is_nexthop r.nexthop && may_name r.port) (list_all (λ x. is_cleared x.prefix && is_nexthop x.nexthop && may_name x.port) rs) read

        parts : IsTrue (list_all (λ y. not (same_route r y)) rs) × IsTrue (are_apart same_route rs)
        parts = and_parts (list_all (λ y. not (same_route r y)) rs) (are_apart same_route rs) apart

        own : is_its r ≡ true → found (find is_its rs) ≡ first_of (taking rs) → (o : Option routing.Way) → way_of net r ≡ o → option_map numbered_way o ≡ with_way rs o
        own is rest None no_way = ap found (sym (no_other r is rs parts.0)) ∙ rest
        own is rest (Some way) its_way =
            ap (λ b. cond b (Some (numbered_way way)) (first_of (taking rs))) (sym (eq-eqb way.len len (way_len r way its_way ∙ (its_takes r is).1)))

        passed_by : is_its r ≡ false → takes router by ip r ≡ true → (o : Option routing.Way) → way_of net r ≡ o → first_of (taking rs) ≡ with_way rs o
        passed_by not_its taken None no_way = refl
        passed_by not_its taken (Some way) its_way = ap (λ b. cond b (Some (numbered_way way)) (first_of (taking rs))) (sym (other_len (way.len == len) refl))
          where
            other_len : (b : Bool) → (way.len == len) ≡ b → b ≡ false
            other_len false e = refl
            other_len true e =
                absurd (false≢true (sym not_its ∙ taken_is r reads.0 taken (sym (way_len r way its_way) ∙ eqb-true way.len len e)))

        go : (b : Bool) → is_its r ≡ b → (t : Bool) → takes router by ip r ≡ t → found (find is_its rs) ≡ first_of (taking rs)
            → found (cond b (Some r) (find is_its rs)) ≡ first_of (cond t (r ∷ taking rs) (taking rs))
        go true is true taken rest = own is rest (way_of net r) refl
        go true is false not_taken rest = absurd (false≢true (sym not_taken ∙ (its_takes r is).0))
        go false is true taken rest = rest ∙ passed_by is taken (way_of net r) refl
        go false is false not_taken rest = rest

  module _ (sound : IsSound net) where
    -- the way of a length
    pub way_of_len : (len : ℕ) → option_map numbered_way (way_for net router by (network_of ip len)) ≡ find (has_len len) (map numbered_way (static_ways net router by ip))
    way_of_len len = of_routes len net.routes sound.readable.routes sound.apart.routes

    abbrev ways_by : List Route → List Way
    ways_by rs = map numbered_way (filter_map (way_of net) rs)

    -- and none is longer than 32 bits
    pub all_fit : AllShorter 33 (map numbered_way (static_ways net router by ip))
    all_fit = of net.routes sound.readable.routes
      where
        of : (rs : List Route) → IsTrue (list_all (λ r. is_cleared r.prefix && is_nexthop r.nexthop && may_name r.port) rs) → AllShorter 33 (ways_by (filter (takes router by ip) rs))
        of [] read = tt
        of (r ∷ rs) read = go (takes router by ip r) (of rs reads.1)
          where
            reads : IsRead r × IsTrue (list_all (λ x. is_cleared x.prefix && is_nexthop x.nexthop && may_name x.port) rs)
            reads = and_parts (is_cleared r.prefix && is_nexthop r.nexthop && may_name r.port) (list_all (λ x. is_cleared x.prefix && is_nexthop x.nexthop && may_name x.port) rs) read

            one : (o : Option routing.Way) → way_of net r ≡ o → AllShorter 33 (ways_by (filter (takes router by ip) rs)) → AllShorter 33 (map numbered_way (cons_option o (filter_map (way_of net) (filter (takes router by ip) rs))))
            one None no_way rest = rest
            one (Some way) its_way rest = (subst (λ n. n < 33) (sym (way_len r way its_way)) (len_fits r.prefix (prefix_read r reads.0)), rest)

            go : (t : Bool) → AllShorter 33 (ways_by (filter (takes router by ip) rs)) → AllShorter 33 (ways_by (cond t (r ∷ filter (takes router by ip) rs) (filter (takes router by ip) rs)))
            go true rest = one (way_of net r) refl rest
            go false rest = rest

    -- ---- going down in length, above which no way is left

    module _ (best : Option Way) (n : ℕ) (shorter : AllShorter n (map numbered_way (static_ways net router by ip))) where
      one_less : 0 < n → AllShorter (n - 1 + 1) (map numbered_way (static_ways net router by ip))
      one_less some = let same : n ≡ n - 1 + 1 = omega (arith, some) in subst (λ m. AllShorter m (map numbered_way (static_ways net router by ip))) same shorter

      -- the way stays, where it is as long as any that is left
      pub best_stays : 0 < n → is_shorter best (n - 1) ≡ false → best ≡ longest_static net router by ip best
      best_stays some long = sym (longest_stays (n - 1) best (map numbered_way (static_ways net router by ip)) long (one_less some))

      -- and where none is left
      pub best_is_left : n ≤ 0 → best ≡ longest_static net router by ip best
      best_is_left none = let zero_left : n ≡ 0 = omega (arith, none) in sym (no_way best (map numbered_way (static_ways net router by ip)) (subst (λ m. AllShorter m (map numbered_way (static_ways net router by ip))) zero_left shorter))

      module _ (p : Block) (some : 0 < n) (is_net : p ≡ network_of ip (n - 1)) where
        of_len : option_map numbered_way (way_for net router by p) ≡ find (has_len (n - 1)) (map numbered_way (static_ways net router by ip))
        of_len = ap (λ q. option_map numbered_way (way_for net router by q)) is_net ∙ way_of_len (n - 1)

        -- the one that is found is the longest
        pub found_is_longest : (way : Way) → is_shorter best (n - 1) ≡ true → Some way ≡ option_map numbered_way (way_for net router by p) → Some way ≡ longest_static net router by ip best
        found_is_longest way less found_way =
            sym (longest_is (n - 1) best (map numbered_way (static_ways net router by ip)) way less (one_less some) (sym (found_way ∙ of_len)))

        -- where none is found the others are shorter
        pub none_so_long : None ≡ option_map numbered_way (way_for net router by p) → AllShorter (n - 1) (map numbered_way (static_ways net router by ip))
        none_so_long none = all_shorter (n - 1) (map numbered_way (static_ways net router by ip)) (one_less some) (sym (none ∙ of_len))
