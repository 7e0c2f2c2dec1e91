-- The external addresses of a router: of which NAT rules they are, and of which load balancers.
use Rattle.std.proofs.Common.{◌≡◌, ℕ, Bool, true, false, List, [], ◌∷◌, map, eqb, sym, ap, refl, ◌∙◌, ◌⊎◌, inl, inr}
use Rattle.std.specs.Prelude.{not, filter}
use Rattle.std.specs.List.{Contains, flat_map}
use Rattle.std.proofs.lemmas.Bool.{eq-eqb, eqb-true}
use Rattle.std.proofs.lemmas.List.Elements.{Contains-append_left, Contains-append_right}
use Rattle.nv_base.specs.declared.ip4.Ip4.{Ip4}
use Rattle.nv_base.specs.declared.object.ObjId.{ObjId}
use Rattle.nb_records.specs.declared.balancer.Lb.{Lb}
use Rattle.nb_records.specs.declared.balancer.Vip.{Vip}
use Rattle.nb_records.specs.declared.router.Nat.{Nat}
use Rattle.nb_model.specs.Network.{Network}
use Rattle.nb_router.specs.Vocabulary.{external_addresses, lbs_of, nats_of, vip_addresses}
use Rattle.net_router.specs.Input.{is_external}
use Rattle.net_rows.proofs.Elements.{any_from, any_gives, one_first, one_later, one_of, one_of_none, Contains-filter, Contains-from_filter, Contains-flat_map, Contains-from_flat_map, Contains-from_map, Contains-map}
use Rattle.lr_units.specs.Words.{addresses_once}
use Rattle.lr_laws.proofs.Members.{of_either}

-- ---- addresses of VIPs, each once

pub once_from : (vips : List Vip) (addr : Ip4) → Contains (addresses_once vips) addr → (vip : Vip) × Contains vips vip × (vip.at.addr ≡ addr)
once_from [] addr there = absurd (one_of_none addr there)
once_from (first ∷ vips) addr there = by (once_from vips addr) (one_of first.at.addr (filter (λ (a : Ip4). not (eqb first.at.addr.0 a.0)) (addresses_once vips)) addr there)
  where
    by : (Contains (addresses_once vips) addr → (vip : Vip) × Contains vips vip × (vip.at.addr ≡ addr)) → (first.at.addr ≡ addr) ⊎ Contains (filter (λ (a : Ip4). not (eqb first.at.addr.0 a.0)) (addresses_once vips)) addr
        → (vip : Vip) × Contains (first ∷ vips) vip × (vip.at.addr ≡ addr)
    by rest (inl same) = (first, one_first first vips first refl, same)
    by rest (inr later) = let from = rest (Contains-from_filter (λ (a : Ip4). not (eqb first.at.addr.0 a.0)) (addresses_once vips) addr later) in (from.0, one_later first vips from.0 from.1, from.2)

pub once_has : (vips : List Vip) (vip : Vip) → Contains vips vip → Contains (addresses_once vips) vip.at.addr
once_has [] vip there = absurd (one_of_none vip there)
once_has (first ∷ vips) vip there = by (once_has vips vip) (one_of first vips vip there)
  where
    others : List Ip4
    others = filter (λ (a : Ip4). not (eqb first.at.addr.0 a.0)) (addresses_once vips)

    rest : Contains (addresses_once vips) vip.at.addr → (b : Bool) → eqb first.at.addr.0 vip.at.addr.0 ≡ b → Contains (first.at.addr ∷ others) vip.at.addr
    rest at true is = one_first first.at.addr others vip.at.addr (λ i. record { 0 = eqb-true first.at.addr.0 vip.at.addr.0 is i })
    rest at false is = one_later first.at.addr others vip.at.addr (Contains-filter (λ (a : Ip4). not (eqb first.at.addr.0 a.0)) (addresses_once vips) vip.at.addr at (ap not is))

    by : (Contains vips vip → Contains (addresses_once vips) vip.at.addr) → (first ≡ vip) ⊎ Contains vips vip → Contains (first.at.addr ∷ others) vip.at.addr
    by more (inl same) = one_first first.at.addr others vip.at.addr (ap (λ (v : Vip). v.at.addr) same)
    by more (inr later) = rest (more later) (eqb first.at.addr.0 vip.at.addr.0) refl

-- ---- external addresses

-- a NAT rule of the router has the external address, or a VIP of a load balancer of it
pub data HasExternal (net : Network) (dp : ObjId) (ip : ℕ) : Type 0 where
  ByRule : (nat : Nat) → Contains (nats_of net dp) nat → nat.external.0 ≡ ip → HasExternal net dp ip
  ByVip : (lb : Lb) → Contains (lbs_of net dp) lb → (addr : Ip4) → Contains (addresses_once lb.vips) addr → addr.0 ≡ ip → HasExternal net dp ip

module _ (net : Network) (dp : ObjId) where
  -- those of NAT rules, and those of VIPs
  abbrev of_rules : List Ip4
  of_rules = map (λ (nat : Nat). nat.external) (nats_of net dp)

  abbrev of_vips : List Ip4
  of_vips = flat_map vip_addresses (lbs_of net dp)

  pub external-gives : (ip : ℕ) → is_external net dp ip ≡ true → HasExternal net dp ip
  external-gives ip is =
      let found = any_gives (λ (a : Ip4). eqb a.0 ip) (external_addresses net dp) is in
      of_either of_rules of_vips found.0 (by_rule found.0 (eqb-true found.0.0 ip found.2)) (by_vip found.0 (eqb-true found.0.0 ip found.2)) found.1
    where
      by_rule : (addr : Ip4) → addr.0 ≡ ip → Contains of_rules addr → HasExternal net dp ip
      by_rule addr number there = let at = Contains-from_map (λ (nat : Nat). nat.external) (nats_of net dp) addr there in ByRule at.0 at.1 (ap (λ (a : Ip4). a.0) at.2 ∙ number)

      by_vip : (addr : Ip4) → addr.0 ≡ ip → Contains of_vips addr → HasExternal net dp ip
      by_vip addr number there =
          let at = Contains-from_flat_map vip_addresses (lbs_of net dp) addr there in
          let from = Contains-from_map (λ (vip : Vip). vip.at.addr) at.0.vips addr at.2 in
          ByVip at.0 at.1 from.0.at.addr (once_has at.0.vips from.0 from.1) (ap (λ (a : Ip4). a.0) from.2 ∙ number)

  external-from : (addr : Ip4) → Contains (external_addresses net dp) addr → is_external net dp addr.0 ≡ true
  external-from addr there = any_from (λ (a : Ip4). eqb a.0 addr.0) (external_addresses net dp) addr there (eq-eqb addr.0 addr.0 refl)

  pub external-from_rule : (nat : Nat) → Contains (nats_of net dp) nat → is_external net dp nat.external.0 ≡ true
  external-from_rule nat there =
      external-from nat.external (Contains-append_left of_rules of_vips nat.external (Contains-map (λ (n : Nat). n.external) (nats_of net dp) nat there))

  pub external-from_vip : (lb : Lb) → Contains (lbs_of net dp) lb → (addr : Ip4) → Contains (addresses_once lb.vips) addr → is_external net dp addr.0 ≡ true
  external-from_vip lb attached addr there =
      let from = once_from lb.vips addr there in
      ap (λ (a : Ip4). is_external net dp a.0) (sym from.2)
      ∙ external-from from.0.at.addr (Contains-append_right of_rules of_vips from.0.at.addr
      (Contains-flat_map vip_addresses (lbs_of net dp) lb from.0.at.addr attached (Contains-map (λ (vip : Vip). vip.at.addr) lb.vips from.0 from.1)))
