-- The load balancers that are attached to a switch or to a router are those that it lists.
use Rattle.std.proofs.Common.{◌≡◌, Bool, true, not, ◌&&◌, ◌||◌, List, [], ◌∷◌, refl, sym, ap, subst, ◌∙◌}
use Rattle.std.specs.Prelude.{filter, Option, Some, None}
use Rattle.std.specs.List.{Contains, flat_map, list_all, list_any}
use Rattle.std.proofs.lemmas.Bool.{and_parts, eq-eqb, eqb-true}
use Rattle.std.proofs.lemmas.Option.{same_Some}
use Rattle.nv_base.specs.declared.object.ObjId.{ObjId}
use Rattle.nb_records.specs.declared.balancer.Lb.{Lb}
use Rattle.nb_records.specs.declared.router.Router.{Router}
use Rattle.nb_model.specs.Applies.{is_empty}
use Rattle.nb_model.specs.Belongs.{is_among, is_snat}
use Rattle.nb_model.specs.Network.{Network, same}
use Rattle.nb_model.specs.Sound.{IsSound, lb_ids}
use Rattle.nb_router.specs.Vocabulary.{dnats, lbs_of, nats_of}
use Rattle.nv_table.specs.Table.{NumbersRise, has_number, record_of}
use Rattle.nv_table.proofs.Found.{found_there, own_record}
use Rattle.net_rows.proofs.Elements.{any_from, any_gives, Contains-filter, Contains-flat_map, Contains-from_filter, Contains-from_flat_map, Contains-from_map, one_first, one_of_none}
use Rattle.net_rows.proofs.Sound.{each_passes}
use Rattle.nd_inputs.specs.inner.Numbered.{of_found, of_number}
use Rattle.nd_inputs.proofs.Any.{both_pass, is_that, kept_passes}
use Rattle.nd_inputs.proofs.Sound.{lbs_rise, routers_rise}

-- ---- attached to a record of one kind, which lists load balancers by their numbers

module _ {R : Type 0} (number : R → ObjId) (lists : R → List ObjId) (rs : List R) (net : Network) (sound : IsSound net) (rise : NumbersRise number rs) where
  abbrev is_listed : ObjId → Lb → Bool
  is_listed owner lb = list_any (λ own. same (number own) owner && is_among lb.id (lists own)) rs

  abbrev pub attached_to : ObjId → List Lb
  attached_to owner = filter (is_listed owner) net.lbs

  module _ (own : R) (there : record_of number (number own) rs ≡ Some own) where
    -- what it lists is attached
    where_listed : (n : ObjId) (lb : Lb) → Contains (lists own) n → record_of (λ (b : Lb). b.id) n net.lbs ≡ Some lb → Contains (attached_to (number own)) lb
    where_listed n lb listed found =
        let is_own = found_there (has_number number (number own)) own rs there in
        let at = found_there (has_number (λ (b : Lb). b.id) n) lb net.lbs found in
        let among : is_among lb.id (lists own) ≡ true = any_from (same lb.id) (lists own) n listed (eq-eqb lb.id.0 n.0 (sym (eqb-true n.0 lb.id.0 at.1))) in
        Contains-filter (is_listed (number own)) net.lbs lb at.0
        (any_from (λ (r : R). same (number r) (number own) && is_among lb.id (lists r)) rs own is_own.0
        (both_pass (same (number own) (number own)) (is_among lb.id (lists own)) (eq-eqb (number own).0 (number own).0 refl) among))

    -- and what is attached it lists
    where_attached : (lb : Lb) → Contains (attached_to (number own)) lb → Contains (lists own) lb.id × (record_of (λ (b : Lb). b.id) lb.id net.lbs ≡ Some lb)
    where_attached lb at =
        let by = any_gives (λ (r : R). same (number r) (number own) && is_among lb.id (lists r)) rs (kept_passes (is_listed (number own)) net.lbs lb at) in
        let parts = and_parts (same (number by.0) (number own)) (is_among lb.id (lists by.0)) by.2 in
        let its = own_record number by.0 rs rise by.1 in
        let is_own : by.0 ≡ own = same_Some by.0 own (sym its ∙ ap (λ (n : ObjId). record_of number n rs) (is_that (number by.0) (number own) parts.0) ∙ there) in
        let n = any_gives (same lb.id) (lists own) (subst (λ (r : R). is_among lb.id (lists r) ≡ true) is_own parts.1) in (
          subst (λ (m : ObjId). Contains (lists own) m) (sym (is_that lb.id n.0 n.2)) n.1,
          own_record (λ (b : Lb). b.id) lb net.lbs (lbs_rise net sound) (Contains-from_filter (is_listed (number own)) net.lbs lb at),
        )

    module _ {X : Type 0} (give : Lb → List X) (x : X) where
      -- so what each that it lists gives is what each that is attached gives
      pub listed_to_attached : Contains (flat_map (of_number net give) (lists own)) x → Contains (flat_map give (attached_to (number own))) x
      listed_to_attached at = let from = Contains-from_flat_map (of_number net give) (lists own) x at in by from.0 from.1 (record_of (λ (b : Lb). b.id) from.0 net.lbs) refl from.2
        where
          by : (n : ObjId) → Contains (lists own) n → (found : Option Lb) → record_of (λ (b : Lb). b.id) n net.lbs ≡ found → Contains (of_found give found) x → Contains (flat_map give (attached_to (number own))) x
          by n listed None is gives = absurd (one_of_none x gives)
          by n listed (Some lb) is gives = Contains-flat_map give (attached_to (number own)) lb x (where_listed n lb listed is) gives

      pub attached_to_listed : Contains (flat_map give (attached_to (number own))) x → Contains (flat_map (of_number net give) (lists own)) x
      attached_to_listed at =
          let from = Contains-from_flat_map give (attached_to (number own)) x at in
          let its = where_attached from.0 from.1 in
          Contains-flat_map (of_number net give) (lists own) from.0.id x its.0 (subst (λ (found : Option Lb). Contains (of_found give found) x) (sym its.1) from.2)

-- ---- attached to a router

module _ (net : Network) (sound : IsSound net) (router : Router) (there : record_of (λ (r : Router). r.id) router.id net.routers ≡ Some router) where
  -- the router is one of the network
  is_one : Contains net.routers router
  is_one = (found_there (has_number (λ (r : Router). r.id) router.id) router net.routers there).0

  attached : (number : ObjId) (lb : Lb) → Contains router.lbs number → record_of (λ (b : Lb). b.id) number net.lbs ≡ Some lb → Contains (lbs_of net router.id) lb
  attached = where_listed (λ (r : Router). r.id) (λ (r : Router). r.lbs) net.routers net sound (routers_rise net sound) router there

  listed : (lb : Lb) → Contains (lbs_of net router.id) lb → Contains router.lbs lb.id × (record_of (λ (b : Lb). b.id) lb.id net.lbs ≡ Some lb)
  listed = where_attached (λ (r : Router). r.id) (λ (r : Router). r.lbs) net.routers net sound (routers_rise net sound) router there

  module _ {X : Type 0} (give : Lb → List X) (x : X) where
    pub to_attached : Contains (flat_map (of_number net give) router.lbs) x → Contains (flat_map give (lbs_of net router.id)) x
    to_attached = listed_to_attached (λ (r : Router). r.id) (λ (r : Router). r.lbs) net.routers net sound (routers_rise net sound) router there give x

    pub from_attached : Contains (flat_map give (lbs_of net router.id)) x → Contains (flat_map (of_number net give) router.lbs) x
    from_attached = attached_to_listed (λ (r : Router). r.id) (λ (r : Router). r.lbs) net.routers net sound (routers_rise net sound) router there give x

  -- it lists none where none is attached
  pub none_attached : is_empty router.lbs ≡ is_empty (lbs_of net router.id)
  none_attached = by router.lbs (lbs_of net router.id) refl refl
    where
      by : (numbers : List ObjId) (lbs : List Lb) → router.lbs ≡ numbers → lbs_of net router.id ≡ lbs → is_empty numbers ≡ is_empty lbs
      by [] [] is_listed is_attached = refl
      by [] (lb ∷ lbs) is_listed is_attached =
          let at = listed lb (subst (λ (bs : List Lb). Contains bs lb) (sym is_attached) (one_first lb lbs lb refl)) in absurd (one_of_none lb.id (subst (λ (ns : List ObjId). Contains ns lb.id) is_listed at.0))
      by (number ∷ numbers) [] is_listed is_attached =
          let lists : Contains router.lbs number = subst (λ (ns : List ObjId). Contains ns number) (sym is_listed) (one_first number numbers number refl) in
          let refers = each_passes (λ (r : Router). list_all (λ lb. is_among lb (lb_ids net)) r.lbs) net.routers router sound.refers.routers is_one in
          let its = any_gives (same number) (lb_ids net) (each_passes (λ (n : ObjId). is_among n (lb_ids net)) router.lbs number refers lists) in
          let of_number = Contains-from_map (λ (b : Lb). b.id) net.lbs its.0 its.1 in
          let found : record_of (λ (b : Lb). b.id) number net.lbs ≡ Some of_number.0 =
          ap (λ (n : ObjId). record_of (λ (b : Lb). b.id) n net.lbs) (is_that number its.0 its.2 ∙ sym of_number.2) ∙ own_record (λ (b : Lb). b.id) of_number.0 net.lbs (lbs_rise net sound) of_number.1 in
          absurd (one_of_none of_number.0 (subst (λ (bs : List Lb). Contains bs of_number.0) is_attached (attached number of_number.0 lists found)))
      by (number ∷ numbers) (lb ∷ lbs) is_listed is_attached = refl

  -- so it changes destinations where a NAT rule of it does, or it lists a load balancer
  pub dnats_is : (list_any (λ nat. not (is_snat nat.kind)) (nats_of net router.id) || not (is_empty router.lbs)) ≡ dnats net router.id
  dnats_is = ap (λ none. list_any (λ nat. not (is_snat nat.kind)) (nats_of net router.id) || not none) none_attached
