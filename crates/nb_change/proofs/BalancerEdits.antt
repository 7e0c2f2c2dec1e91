-- What edits of load balancers, and of the switches and routers that have them, make of a sound network.
use Rattle.std.proofs.Common.{◌≡◌, ℕ, ◌+◌, Bool, true, false, cond, List, [], ◌∷◌, ◌++◌, map, Option, Some, None, refl, sym, ap, ◌∙◌}
use Rattle.std.specs.Prelude.{find, is_some, unwrap_or}
use Rattle.std.specs.Bool.{IsTrue}
use Rattle.std.specs.Str.{bytes_eq}
use Rattle.nv_base.specs.declared.object.ObjId.{ObjId}
use Rattle.nb_records.specs.declared.balancer.Lb.{Lb}
use Rattle.nb_records.specs.declared.balancer.Proto.{Proto}
use Rattle.nb_records.specs.declared.balancer.Proto.TheVariants.{Tcp}
use Rattle.nb_records.specs.declared.balancer.Vip.{Vip}
use Rattle.nb_records.specs.declared.router.Router.{Router}
use Rattle.nb_records.specs.declared.switch.Switch.{Switch}
use Rattle.nb_model.specs.Belongs.{is_number}
use Rattle.nb_model.specs.Effect.{each_where, add_vip, where_there, with_number, without, is_detached}
use Rattle.nb_model.specs.Network.{Network, next_number, same, lb_named}
use Rattle.nb_model.specs.Readable.{are_apart}
use Rattle.nb_model.specs.Sound.{IsSound}
use Rattle.nb_model.proofs.Alike.{same_names}
use Rattle.nb_model.proofs.Numbered.{are_used}
use Rattle.nb_model.proofs.RecordLists.{found_holds}
use Rattle.nv_table.specs.Table.{NumbersRise, with_exchanged}
use Rattle.nb_store.proofs.PlacedRecords.{changed_at, named_changed, new_last, none_changed, apart_first, rises}
use Rattle.nb_change.proofs.Goes.{apart_last, none_goes}
use Rattle.nb_change.proofs.Removed.{map_same}

-- where each is detached, none is left
pub all_detached : (net : Network) (numbers : List ObjId) → [] ≡ without (is_detached net None) numbers
all_detached net [] = refl
all_detached net (n ∷ numbers) = all_detached net numbers

-- the switches, or the routers, of a network: each has a name and load balancers
pub record HaveBalancers {R : Type 0} (list : Network → List R) (with_list : List R → Network → Network) (number : R → ObjId) (called : R → List ℕ) (lbs : R → List ObjId)
    (with_lbs : List ObjId → R → R) (net : Network) : Type 0 where
  pub same_list : with_list (list net) net ≡ net
  pub same_lbs : (x : R) → with_lbs (lbs x) x ≡ x
  pub numbered : (all : List ObjId) (x : R) → number (with_lbs all x) ≡ number x
  pub rise : NumbersRise number (list net)
  pub apart : IsTrue (are_apart bytes_eq (map called (list net)))

pub of_switches : (net : Network) → IsSound net
    → HaveBalancers (λ net. net.switches) (λ all net. record net { switches = all }) (λ (x : Switch). x.id) (λ x. x.name) (λ x. x.lbs) (λ all x. record x { lbs = all }) net
of_switches net sound = record {
  same_list = refl;
  same_lbs = λ x. refl;
  numbered = λ all x. refl;
  rise = rises (λ (x : Switch). x.id) net.switches sound.numbered.order.switches;
  apart = apart_first bytes_eq (map (λ (x : Switch). x.name) net.switches) (map (λ (x : Router). x.name) net.routers) sound.named.datapaths;
}

pub of_routers : (net : Network) → IsSound net
    → HaveBalancers (λ net. net.routers) (λ all net. record net { routers = all }) (λ (x : Router). x.id) (λ x. x.name) (λ x. x.lbs) (λ all x. record x { lbs = all }) net
of_routers net sound = record {
  same_list = refl;
  same_lbs = λ x. refl;
  numbered = λ all x. refl;
  rise = rises (λ (x : Router). x.id) net.routers sound.numbered.order.routers;
  apart = apart_last bytes_eq (map (λ (x : Switch). x.name) net.switches) (map (λ (x : Router). x.name) net.routers) sound.named.datapaths;
}

module _ {R : Type 0} {list : Network → List R} {with_list : List R → Network → Network} {number : R → ObjId} {called : R → List ℕ} {lbs : R → List ObjId} {with_lbs : List ObjId → R → R}
    {net : Network} (part : HaveBalancers list with_list number called lbs with_lbs net) (name : List ℕ) where
  abbrev is_named : R → Bool
  is_named x = bytes_eq (called x) name

  abbrev set_lbs : (List ObjId → List ObjId) → Network
  set_lbs change = with_list (each_where is_named (λ x. with_lbs (change (lbs x)) x) (list net)) net

  abbrev with_lb : Option ObjId → Network
  with_lb lb = where_there lb (λ n. set_lbs (with_number n)) net

  -- other load balancers of the one of a name
  changed : (change : List ObjId → List ObjId) (old new : R) → Some old ≡ find is_named (list net) → (name ≡ called old → new ≡ with_lbs (change (lbs old)) old)
      → with_list (with_exchanged number new (list net)) net ≡ set_lbs change
  changed change old new found fields =
      let is : name ≡ called old = sym (same_names (called old) name (found_holds is_named (list net) old (sym found))) in
      ap (λ (x : R). with_list (with_exchanged number x (list net)) net) (fields is)
      ∙ ap (λ (all : List R). with_list all net)
      (sym (named_changed number called name (λ x. with_lbs (change (lbs x)) x) old (list net) (sym found) part.rise part.apart (part.numbered _ old)))

  -- other load balancers of the one of a number that a name has
  listed : (change : List ObjId → List ObjId) (old : R) → Some old ≡ find is_named (list net)
      → with_list (each_where (λ x. same (number old) (number x)) (λ x. with_lbs (change (lbs x)) x) (list net)) net ≡ set_lbs change
  listed change old found =
      ap (λ (all : List R). with_list all net) (sym (changed_at number is_named (λ x. with_lbs (change (lbs x)) x) old (list net) (sym found) part.rise (part.numbered _ old)))
      ∙ changed change old (with_lbs (change (lbs old)) old) found (λ is. refl)

  pub none_named : (change : List ObjId → List ObjId) → None ≡ find is_named (list net) → net ≡ set_lbs change
  none_named change none = sym part.same_list ∙ ap (λ (all : List R). with_list all net) (sym (none_changed is_named (λ x. with_lbs (change (lbs x)) x) (list net) (sym none)))

  pub attached : (lb : Option ObjId) (n : ObjId) (old : R) → Some n ≡ lb → Some old ≡ find is_named (list net)
      → with_list (each_where (λ x. same (number old) (number x)) (λ x. with_lbs (with_number n (lbs x)) x) (list net)) net ≡ with_lb lb
  attached lb n old there found = listed (with_number n) old found ∙ ap with_lb there

  pub none_attached : (lb : Option ObjId) (n : ObjId) → Some n ≡ lb → None ≡ find is_named (list net) → net ≡ with_lb lb
  none_attached lb n there none = none_named (with_number n) none ∙ ap with_lb there

  pub no_lb_attached : (lb : Option ObjId) → None ≡ lb → net ≡ with_lb lb
  no_lb_attached lb none = ap with_lb none

  pub detached : (lb : Option ObjId) (n : ObjId) (old : R) → Some n ≡ lb → Some old ≡ find is_named (list net)
      → with_list (each_where (λ x. same (number old) (number x)) (λ x. with_lbs (without (same n) (lbs x)) x) (list net)) net ≡ set_lbs (without (is_number lb))
  detached lb n old there found = listed (without (same n)) old found ∙ ap (λ (o : Option ObjId). set_lbs (without (is_number o))) there

  -- a load balancer that is not there
  pub no_lb_detached : (lb : Option ObjId) → None ≡ lb → net ≡ set_lbs (without (is_number lb))
  no_lb_detached lb none = sym part.same_list ∙ ap (λ (all : List R). with_list all net) (sym (map_same _ (λ x. either (is_named x) x) (list net))) ∙ ap (λ (o : Option ObjId). set_lbs (without (is_number o))) none
    where
      either : (b : Bool) (x : R) → cond b (with_lbs (without (is_number None) (lbs x)) x) x ≡ x
      either true x = ap (λ (all : List ObjId). with_lbs all x) (none_goes (lbs x)) ∙ part.same_lbs x
      either false x = refl

  -- each is detached
  pub emptied : (old new : R) → Some old ≡ find is_named (list net) → (name ≡ called old → new ≡ with_lbs [] old) → with_list (with_exchanged number new (list net)) net ≡ set_lbs (without (is_detached net None))
  emptied old new found fields = changed (without (is_detached net None)) old new found (λ is. fields is ∙ ap (λ (all : List ObjId). with_lbs all old) (all_detached net (lbs old)))

module _ (net : Network) (sound : IsSound net) where
  abbrev new_lb : List ℕ → Vip → Option Proto → Lb
  new_lb name vip proto = record { id = next_number net; name = name; proto = unwrap_or proto Tcp; vips = vip ∷ [] }

  abbrev vip_in : List ℕ → Vip → Option Proto → Option Lb → Network
  vip_in name vip proto found =
      cond (is_some found) (record net { lbs = each_where (λ lb. bytes_eq lb.name name) (λ lb. record lb { vips = lb.vips ++ vip ∷ [] }) net.lbs })
      (record net { lbs = net.lbs ++ new_lb name vip proto ∷ []; next = net.next + 1 })

  -- a VIP more
  pub added_vip : (name : List ℕ) (vip : Vip) (proto : Option Proto) (old new : Lb) → Some old ≡ lb_named net name
      → (name ≡ old.name → new ≡ record old { vips = old.vips ++ vip ∷ [] })
      → record net { lbs = with_exchanged (λ x. x.id) new net.lbs } ≡ add_vip net name vip proto
  added_vip name vip proto old new found fields =
      let is : name ≡ old.name = sym (same_names old.name name (found_holds (λ (x : Lb). bytes_eq x.name name) net.lbs old (sym found))) in
      ap (λ (l : Lb). record net { lbs = with_exchanged (λ x. x.id) l net.lbs }) (fields is)
      ∙ ap (λ (all : List Lb). record net { lbs = all })
      (sym (named_changed (λ (x : Lb). x.id) (λ (x : Lb). x.name) name (λ x. record x { vips = x.vips ++ vip ∷ [] }) old net.lbs (sym found)
      (rises (λ (x : Lb). x.id) net.lbs sound.numbered.order.lbs) sound.named.lbs refl))
      ∙ ap (vip_in name vip proto) found

  -- the first VIP of a new load balancer
  pub first_vip : (name : List ℕ) (vip : Vip) (proto : Option Proto) → None ≡ lb_named net name
      → record net { lbs = with_exchanged (λ x. x.id) (new_lb name vip proto) net.lbs; next = net.next + 1 } ≡ add_vip net name vip proto
  first_vip name vip proto none =
      ap (λ (all : List Lb). record net { lbs = all; next = net.next + 1 })
      (new_last (λ (x : Lb). x.id) (new_lb name vip proto) net.lbs net.next refl (are_used net sound.numbered.below).lbs)
      ∙ ap (vip_in name vip proto) none
