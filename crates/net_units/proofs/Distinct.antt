-- Lists of units in which no key stands twice.
use Rattle.std.proofs.Common.{◌≡◌, ◌≢◌, ◌<◌, false, List, [], ◌∷◌, ◌⊎◌, inl, inr, map, refl, sym, ap, ◌∙◌, arith}
use Rattle.std.specs.List.{AllByRecursion, Contains, IsDistinct, flat_map}
use Rattle.std.specs.Cmp.{IsTotalOrder, ties}
use Rattle.std.specs.Map.{keys_of}
use Rattle.std.specs.Ordering.{eq_by_cmp, ordering_then}
use Rattle.std.specs.declared.cmp.Ordering.{Ordering}
use Rattle.std.specs.declared.cmp.Ordering.TheVariants.{Less, Equal, Greater}
use Rattle.std.proofs.lemmas.Cmp.{on_total, then_total}
use Rattle.std.proofs.lemmas.Map.Keys.{IsDistinct-cons}
use Rattle.std.proofs.lemmas.Map.Lookups.{CmpEqualImpliesEq}
use Rattle.nv_base.specs.inner.Exact.{address, object}
use Rattle.nv_base.specs.contracts.ip4.Ip4Ord.TheImpl as addr_ord
use Rattle.nv_base.specs.contracts.ip4.Ip4PartialEq.TheImpl as addr_eq
use Rattle.nv_base.specs.contracts.ip4.Ip4Ord.TheImpl.Laws.{matches_partial_cmp-law as addrs_as_partial, total-law as addr_total}
use Rattle.nv_base.specs.contracts.ip4.Ip4PartialOrd.TheImpl.Laws.{laws-law as addrs_partial}
use Rattle.nv_base.specs.contracts.object.ObjIdPartialEq.TheImpl as number_eq
use Rattle.nv_base.specs.contracts.object.ObjIdOrd.TheImpl.Laws.{matches_partial_cmp-law as numbers_as_partial, total-law as number_total}
use Rattle.nv_base.specs.contracts.object.ObjIdPartialOrd.TheImpl.Laws.{laws-law as numbers_partial}
use Rattle.nv_base.specs.declared.ip4.Ip4.{Ip4}
use Rattle.nv_base.specs.declared.object.ObjId.{ObjId}
use Rattle.nv_map.proofs.Values.{apart_by, exact_order}
use Rattle.nb_records.specs.contracts.balancer.FrontendOrd.TheImpl as frontend_ord
use Rattle.nb_records.specs.contracts.balancer.FrontendPartialEq.TheImpl as frontend_eq
use Rattle.nb_records.specs.contracts.balancer.FrontendOrd.TheImpl.Laws.{matches_partial_cmp-law as frontends_as_partial, total-law as frontend_total}
use Rattle.nb_records.specs.contracts.balancer.FrontendPartialOrd.TheImpl.Laws.{laws-law as frontends_partial}
use Rattle.nb_records.specs.inner.Exact as of_records
use Rattle.nb_records.specs.declared.balancer.Frontend.{Frontend}
use Rattle.nb_records.specs.declared.balancer.Lb.{Lb}
use Rattle.net_rows.proofs.Elements.{Contains-from_flat_map, Contains-from_map, one_of, one_of_none}
use Rattle.net_rows.proofs.Pairs.{OfPairs, every_from_members, every_member, pairs_as, pairs_flat_map, pairs_map}
use Rattle.lr_units.proofs.Numbers.{Before}
use Rattle.net_units.specs.Keys.{KeysStandOnce, by_addr, by_number, by_numbers, by_vip}

-- ---- orders tell any two keys apart

then_parts : (a b : Ordering) → ordering_then a b ≡ Equal → (a ≡ Equal) × (b ≡ Equal)
then_parts Less b e = absurd (cc)
then_parts Equal b e = (refl, e)
then_parts Greater b e = absurd (cc)

pub number_exact : CmpEqualImpliesEq by_number
number_exact = exact_order (number_eq.ghosts).eq by_number (ties numbers_partial numbers_as_partial) object

addr_exact : CmpEqualImpliesEq (addr_ord.ghosts).cmp
addr_exact = exact_order (addr_eq.ghosts).eq (addr_ord.ghosts).cmp (ties addrs_partial addrs_as_partial) address

frontend_exact : CmpEqualImpliesEq (frontend_ord.ghosts).cmp
frontend_exact = exact_order (frontend_eq.ghosts).eq (frontend_ord.ghosts).cmp (ties frontends_partial frontends_as_partial) of_records.frontend

pub numbers_exact : CmpEqualImpliesEq by_numbers
numbers_exact a b e =
    let parts = then_parts (by_number a.0 b.0) (by_number a.1 b.1) e in
    ap (λ (n : ObjId). (n, a.1)) (number_exact a.0 b.0 parts.0) ∙ ap (λ (n : ObjId). (b.0, n)) (number_exact a.1 b.1 parts.1)

module _ {X : Type 0} (cmp : X → X → Ordering) (exact : CmpEqualImpliesEq cmp) where
  abbrev by_three : ObjId × X × ObjId → ObjId × X × ObjId → Ordering
  by_three a b = ordering_then (ordering_then (by_number a.0 b.0) (cmp a.1 b.1)) (by_number a.2 b.2)

  three_exact : CmpEqualImpliesEq by_three
  three_exact a b e =
      let parts = then_parts (ordering_then (by_number a.0 b.0) (cmp a.1 b.1)) (by_number a.2 b.2) e in
      let front = then_parts (by_number a.0 b.0) (cmp a.1 b.1) parts.0 in
      ap (λ (n : ObjId). (n, a.1, a.2)) (number_exact a.0 b.0 front.0) ∙ ap (λ (x : X). (b.0, x, a.2)) (exact a.1 b.1 front.1) ∙ ap (λ (n : ObjId). (b.0, b.1, n)) (number_exact a.2 b.2 parts.1)

pub vip_exact : CmpEqualImpliesEq by_vip
vip_exact = three_exact (frontend_ord.ghosts).cmp frontend_exact

pub addrs_exact : CmpEqualImpliesEq by_addr
addrs_exact = three_exact (addr_ord.ghosts).cmp addr_exact

-- ---- and any two keys are in order

pub numbers_total : IsTotalOrder by_numbers
numbers_total = then_total (on_total (λ (k : ObjId × ObjId). k.0) number_total) (on_total (λ (k : ObjId × ObjId). k.1) number_total)

pub vips_total : IsTotalOrder by_vip
vips_total =
    then_total (then_total (on_total (λ (k : ObjId × Frontend × ObjId). k.0) number_total) (on_total (λ (k : ObjId × Frontend × ObjId). k.1) frontend_total))
    (on_total (λ (k : ObjId × Frontend × ObjId). k.2) number_total)

pub addrs_total : IsTotalOrder by_addr
addrs_total =
    then_total (then_total (on_total (λ (k : ObjId × Ip4 × ObjId). k.0) number_total) (on_total (λ (k : ObjId × Ip4 × ObjId). k.1) addr_total))
    (on_total (λ (k : ObjId × Ip4 × ObjId). k.2) number_total)

-- ---- units with two keys

abbrev pub OtherKeys : {K I : Type 0} → K × I → K × I → Type 0
OtherKeys u v = u.0 ≢ v.0

-- where every two units have two keys, none stands twice
pub stand_once : {K I : Type 0} {cmp : K → K → Ordering} → CmpEqualImpliesEq cmp → (units : List (K × I)) → OfPairs OtherKeys units → KeysStandOnce cmp units
unfolding IsDistinct
stand_once exact [] of = tt
stand_once {K} {I} {cmp} exact (u ∷ units) of = IsDistinct-cons (eq_by_cmp cmp) u.0 (keys_of units) (apart units of.0) (stand_once exact units of.1)
  where
    apart : (us : List (K × I)) → AllByRecursion (OtherKeys u) us → AllByRecursion (λ k. eq_by_cmp cmp u.0 k ≡ false) (keys_of us)
    apart [] all = tt
    apart (v ∷ us) all = (apart_by exact u.0 v.0 (λ e. all.0 (sym e)), apart us all.1)

-- ---- records by rising number

-- a number that is lower is another one
pub lower_other : (a b : ObjId) → a.0 < b.0 → a ≢ b
lower_other a b lower e = let same : a.0 ≡ b.0 = ap (λ (n : ObjId). n.0) e in absurd (omega (arith, lower, same))

-- records of one number are one
pub one_of_number : {R : Type 0} (number : R → ObjId) (rs : List R) → OfPairs (Before number) rs → (x y : R) → Contains rs x → Contains rs y → number x ≡ number y → x ≡ y
one_of_number number [] rise x y in_x in_y e = absurd (one_of_none x in_x)
one_of_number {R} number (r ∷ rs) rise x y in_x in_y e = by (one_of r rs x in_x) (one_of r rs y in_y) (λ later_x later_y. one_of_number number rs rise.1 x y later_x later_y e)
  where
    later : (z : R) → Contains rs z → number r ≢ number z
    later z there = lower_other (number r) (number z) (every_member (Before number r) rs z rise.0 there)

    by : (r ≡ x) ⊎ Contains rs x → (r ≡ y) ⊎ Contains rs y → (Contains rs x → Contains rs y → x ≡ y) → x ≡ y
    by (inl is_x) (inl is_y) rest = sym is_x ∙ is_y
    by (inl is_x) (inr later_y) rest = absurd (later y later_y (ap number is_x ∙ e))
    by (inr later_x) (inl is_y) rest = absurd (later x later_x (ap number is_y ∙ sym e))
    by (inr later_x) (inr later_y) rest = rest later_x later_y

-- a unit for each record
pub of_records_once : {R I : Type 0} (number : R → ObjId) (input : R → I) (rs : List R) → OfPairs (Before number) rs → OfPairs OtherKeys (map (λ r. (number r, input r)) rs)
of_records_once number input rs rise = pairs_map OtherKeys (λ r. (number r, input r)) rs (pairs_as (Before number) _ rs (λ r s lower. lower_other (number r) (number s) lower) rise)

-- a unit for each piece of each record
pub of_pieces_once : {R S I : Type 0} (number : R → ObjId) (piece_number : S → ObjId) (pieces : R → List S) (input : R → S → I) (rs : List R)
    → OfPairs (Before number) rs → ((r : R) → OfPairs (Before piece_number) (pieces r)) → OfPairs (OtherKeys {K = ObjId × ObjId} {I = I}) (flat_map (λ r. map (λ s. ((number r, piece_number s), input r s)) (pieces r)) rs)
of_pieces_once {R} {S} {I} number piece_number pieces input rs rise rise_pieces =
    pairs_flat_map (OtherKeys {K = ObjId × ObjId} {I = I}) (λ r. map (unit r) (pieces r)) rs
    (every_from_members _ rs
    (λ r there. pairs_map (OtherKeys {K = ObjId × ObjId} {I = I}) (unit r) (pieces r) (pairs_as (Before piece_number) _ (pieces r) (λ s t lower e. lower_other (piece_number s) (piece_number t) lower (ap (λ (k : ObjId × ObjId). k.1) e)) (rise_pieces r))))
    (pairs_as (Before number) _ rs (λ r q lower u v in_u in_v e. lower_other (number r) (number q) lower (sym (of_record r u in_u) ∙ ap (λ (k : ObjId × ObjId). k.0) e ∙ of_record q v in_v)) rise)
  where
    unit : R → S → (ObjId × ObjId) × I
    unit r s = ((number r, piece_number s), input r s)

    of_record : (r : R) (u : (ObjId × ObjId) × I) → Contains (map (unit r) (pieces r)) u → u.0.0 ≡ number r
    of_record r u there = let at = Contains-from_map (unit r) (pieces r) u there in ap (λ (w : (ObjId × ObjId) × I). w.0.0) (sym at.2)

-- a unit for each piece of each load balancer of each datapath
pub of_balancers_once : {D S K I : Type 0} (number : D → ObjId) (lbs : D → List Lb) (pieces : Lb → List S) (key : S → K) (input : Lb → S → I) (ds : List D)
    → OfPairs (Before number) ds → ((d : D) → OfPairs (Before (λ (lb : Lb). lb.id)) (lbs d)) → ((d : D) (lb : Lb) → Contains (lbs d) lb → OfPairs (λ s t. key s ≢ key t) (pieces lb))
    → OfPairs (OtherKeys {K = ObjId × K × ObjId} {I = I}) (flat_map (λ d. flat_map (λ lb. map (λ s. ((lb.id, key s, number d), input lb s)) (pieces lb)) (lbs d)) ds)
of_balancers_once {D} {S} {K} {I} number lbs pieces key input ds rise rise_lbs apart =
    pairs_flat_map (OtherKeys {K = ObjId × K × ObjId} {I = I}) (λ d. flat_map (of_lb d) (lbs d)) ds
    (every_from_members _ ds
    (λ d there.
    pairs_flat_map (OtherKeys {K = ObjId × K × ObjId} {I = I}) (of_lb d) (lbs d)
    (every_from_members _ (lbs d) (λ lb of_d. pairs_map (OtherKeys {K = ObjId × K × ObjId} {I = I}) (unit d lb) (pieces lb) (pairs_as (λ s t. key s ≢ key t) _ (pieces lb) (λ s t other e. other (ap (λ (k : ObjId × K × ObjId). k.1) e)) (apart d lb of_d))))
    (pairs_as (Before (λ (lb : Lb). lb.id)) _ (lbs d) (λ b c lower u v in_u in_v e. lower_other b.id c.id lower (sym (lb_of d b u in_u) ∙ ap (λ (k : ObjId × K × ObjId). k.0) e ∙ lb_of d c v in_v)) (rise_lbs d))))
    (pairs_as (Before number) _ ds (λ d f lower u v in_u in_v e. lower_other (number d) (number f) lower (sym (datapath_of d u in_u) ∙ ap (λ (k : ObjId × K × ObjId). k.2) e ∙ datapath_of f v in_v)) rise)
  where
    unit : D → Lb → S → (ObjId × K × ObjId) × I
    unit d lb s = ((lb.id, key s, number d), input lb s)

    of_lb : D → Lb → List ((ObjId × K × ObjId) × I)
    of_lb d lb = map (unit d lb) (pieces lb)

    lb_of : (d : D) (lb : Lb) (u : (ObjId × K × ObjId) × I) → Contains (of_lb d lb) u → u.0.0 ≡ lb.id
    lb_of d lb u there = let at = Contains-from_map (unit d lb) (pieces lb) u there in ap (λ (w : (ObjId × K × ObjId) × I). w.0.0) (sym at.2)

    datapath_of : (d : D) (u : (ObjId × K × ObjId) × I) → Contains (flat_map (of_lb d) (lbs d)) u → u.0.2 ≡ number d
    datapath_of d u there =
        let at = Contains-from_flat_map (of_lb d) (lbs d) u there in
        let s = Contains-from_map (unit d at.0) (pieces at.0) u at.2 in
        ap (λ (w : (ObjId × K × ObjId) × I). w.0.2) (sym s.2)
