-- Which VIP of some load balancers of a network a packet is for, of those that a test lets through: the one of the lowest-numbered load
-- balancer that has one; and that it has a backend.
use Rattle.std.proofs.Common.{◌≡◌, ℕ, ◌<◌, ◌≤◌, Bool, true, false, List, [], ◌∷◌, length, get_or, sym, refl, ◌∙◌, subst, ◌⊎◌, inl, inr, arith}
use Rattle.std.specs.Prelude.{Option, Some, None, slice_get, nat_lt, ◌&&◌}
use Rattle.std.specs.List.{Contains, filter, filter_map, find, list_all}
use Rattle.std.proofs.lemmas.Bool.{false≢true, and_parts, ltb-true}
use Rattle.std.proofs.lemmas.Nat.{mod_below}
use Rattle.std.proofs.lemmas.Option.{slice_get_cases}
use Rattle.nv_base.specs.Name.{is_object_name}
use Rattle.nv_base.specs.declared.object.ObjId.{ObjId}
use Rattle.nb_records.specs.declared.balancer.Backend.{Backend}
use Rattle.nb_records.specs.declared.balancer.Lb.{Lb}
use Rattle.nb_records.specs.declared.balancer.Vip.{Vip}
use Rattle.nb_model.specs.Applies.{is_empty}
use Rattle.nb_model.specs.Belongs.{same_frontend}
use Rattle.nb_model.specs.Network.{Network}
use Rattle.nb_model.specs.Readable.{is_frontend, is_vip}
use Rattle.nb_model.specs.Sound.{IsSound}
use Rattle.nb_model.proofs.Readable.{of_lb}
use Rattle.pkt_core.specs.Packet.{Values}
use Rattle.pkt_core.specs.Tuple.{tuple}
use Rattle.ct_core.specs.Translation.{balance}
use Rattle.net_meaning.specs.Balancing.{backend_for}
use Rattle.net_rows.proofs.Elements.{Contains-from_filter}
use Rattle.net_rows.proofs.Pairs.{OfPairs, pairs_filter}
use Rattle.net_rows.proofs.Sound.{each_passes, rises}
use Rattle.nv_table.proofs.Found.{found_there, none_passes}
use Rattle.nv_table.specs.Table.{NumbersRise}
use Rattle.net_rows.proofs.SoundVips.{OtherVips, vips_apart}
use Rattle.ls_laws.proofs.Firsts.{IsFirst, find-first, first_found-gives, first_found-none}

-- records whose numbers rise, in pairs
pub in_pairs : {R : Type 0} (number : R → ObjId) (rs : List R) → NumbersRise number rs → OfPairs (λ (r s : R). (number r).0 < (number s).0) rs
in_pairs number [] rise = tt
in_pairs number (r ∷ rs) rise = (rise.0, in_pairs number rs rise.1)

-- the load balancers of a network of which this holds
module _ (net : Network) (sound : IsSound net) (which : Lb → Bool) where
  abbrev pub lbs : List Lb
  lbs = filter which net.lbs

  abbrev pub Before : Lb → Lb → Type 0
  Before a b = a.id.0 < b.id.0

  -- they stand by rising number
  lbs_in_pairs : OfPairs Before lbs
  lbs_in_pairs = pairs_filter Before which net.lbs (in_pairs (λ (b : Lb). b.id) net.lbs (rises (λ (b : Lb). b.id) net.lbs sound.numbered.order.lbs))

  one_of_net : (lb : Lb) → Contains lbs lb → Contains net.lbs lb
  one_of_net lb attached = Contains-from_filter which net.lbs lb attached

  -- what is asked of a VIP
  pub vip_is : (lb : Lb) → Contains lbs lb → (vip : Vip) → Contains lb.vips vip → is_vip vip ≡ true
  vip_is lb attached vip in_lb =
      let all = and_parts (is_object_name lb.name && nat_lt 0 (length lb.vips)) (list_all is_vip lb.vips) (each_passes of_lb net.lbs lb sound.readable.lbs (one_of_net lb attached)) in
      each_passes is_vip lb.vips vip all.1 in_lb

  -- it has backends
  has_backends : (lb : Lb) → Contains lbs lb → (vip : Vip) → Contains lb.vips vip → 0 < length vip.backends
  has_backends lb attached vip in_lb =
      let own = and_parts (is_frontend vip.at && nat_lt 0 (length vip.backends)) _ (vip_is lb attached vip in_lb) in
      ltb-true 0 (length vip.backends) (and_parts (is_frontend vip.at) (nat_lt 0 (length vip.backends)) own.0).1

  pub some_backends : (lb : Lb) → Contains lbs lb → (vip : Vip) → Contains lb.vips vip → is_empty vip.backends ≡ false
  some_backends lb attached vip in_lb = by vip.backends (has_backends lb attached vip in_lb)
    where
      by : (backends : List Backend) → 0 < length backends → is_empty backends ≡ false
      by [] positive = absurd (omega (arith, positive))
      by (backend ∷ others) positive = refl

  -- so a packet goes to one
  pub has_backend : (lb : Lb) → Contains lbs lb → (vip : Vip) → Contains lb.vips vip → (packet : Values) → (backend : Backend) × (backend_for packet vip ≡ Some backend)
  has_backend lb attached vip in_lb packet = by (slice_get_cases vip.backends place).1
    where
      some : 0 < length vip.backends
      some = has_backends lb attached vip in_lb

      place : ℕ
      place = balance (tuple packet) (length vip.backends)

      below : place < length vip.backends
      below = mod_below _ (length vip.backends) some

      by : ((x : Backend) × (place < length vip.backends) × (slice_get vip.backends place ≡ Some x) × (get_or vip.backends place x ≡ x)) ⊎ ((length vip.backends ≤ place) × (slice_get vip.backends place ≡ None)) → (backend : Backend) × (backend_for packet vip ≡ Some backend)
      by (inl at) = (at.0, at.2)
      by (inr past) = absurd (omega (arith, past.0, below))

  -- of the VIPs that a test lets through, of which each load balancer has one at most
  module _ (passes : Lb → Vip → Bool) (one_each : (lb : Lb) (a b : Vip) → passes lb a ≡ true → passes lb b ≡ true → same_frontend a.at b.at ≡ true) where
    -- what a load balancer has
    abbrev of_lb_found : Lb → Option Vip
    of_lb_found lb = find (passes lb) lb.vips

    -- the VIP is the first of them
    pub record IsChosen (vip : Vip) : Type 0 where
      pub lb : Lb
      pub attached : Contains lbs lb
      pub in_lb : Contains lb.vips vip
      pub passed : passes lb vip ≡ true
      pub others : (other : Lb) → Contains lbs other → (another : Vip) → Contains other.vips another → passes other another ≡ true → (another ≡ vip) ⊎ (lb.id.0 < other.id.0)

    -- a load balancer that has such a VIP has a first one
    some_found : (lb : Lb) (vip : Vip) → Contains lb.vips vip → passes lb vip ≡ true → (first : Vip) × (of_lb_found lb ≡ Some first)
    some_found lb vip in_lb passed = by (of_lb_found lb) refl
      where
        by : (o : Option Vip) → of_lb_found lb ≡ o → (first : Vip) × (of_lb_found lb ≡ Some first)
        by (Some first) is = (first, is)
        by None is = absurd (false≢true (sym (none_passes (passes lb) vip lb.vips is in_lb) ∙ passed))

    pub chosen : (vip : Vip) → slice_get (filter_map of_lb_found lbs) 0 ≡ Some vip → IsChosen vip
    chosen vip is =
        record {
          lb = at.first;
          attached = at.among;
          in_lb = own.0;
          passed = own.1;
          others = λ other attached another in_other passed. by other another in_other passed (at.others other attached (some_found other another in_other passed).0 (some_found other another in_other passed).1);
        }
      where
        at : IsFirst Before of_lb_found lbs vip
        at = first_found-gives Before of_lb_found lbs vip lbs_in_pairs is

        own : Contains at.first.vips vip × (passes at.first vip ≡ true)
        own = found_there (passes at.first) vip at.first.vips at.finds_it

        -- of the same load balancer
        of_same : (another : Vip) → Contains at.first.vips another → passes at.first another ≡ true → (another ≡ vip) ⊎ (at.first.id.0 < at.first.id.0)
        of_same another in_it passed = one (find-first (OtherVips net sound) (passes at.first) vip another at.first.vips (vips_apart net sound at.first (one_of_net at.first at.among)) at.finds_it in_it passed)
          where
            one : (another ≡ vip) ⊎ OtherVips net sound vip another → (another ≡ vip) ⊎ (at.first.id.0 < at.first.id.0)
            one (inl same) = inl same
            one (inr unlike) = absurd (false≢true (sym unlike ∙ one_each at.first vip another own.1 passed))

        by : (other : Lb) (another : Vip) → Contains other.vips another → passes other another ≡ true → (other ≡ at.first) ⊎ Before at.first other → (another ≡ vip) ⊎ (at.first.id.0 < other.id.0)
        by other another in_other passed (inl same) =
            subst (λ (b : Lb). (another ≡ vip) ⊎ (at.first.id.0 < b.id.0)) (sym same)
            (of_same another (subst (λ (b : Lb). Contains b.vips another) same in_other) (subst (λ (b : Lb). passes b another ≡ true) same passed))
        by other another in_other passed (inr later) = inr later

    -- where there is no first, there is none
    pub none_chosen : slice_get (filter_map of_lb_found lbs) 0 ≡ None → (lb : Lb) → Contains lbs lb → (vip : Vip) → Contains lb.vips vip → passes lb vip ≡ true → ⊥
    none_chosen none lb attached vip in_lb passed = false≢true (sym (none_passes (passes lb) vip lb.vips (first_found-none Before of_lb_found lbs none lb attached) in_lb) ∙ passed)
