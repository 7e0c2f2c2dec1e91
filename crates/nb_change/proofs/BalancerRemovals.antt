-- Load balancers that leave their switches and routers, and VIPs that leave their load balancer.
use Rattle.std.proofs.Common.{◌≡◌, ℕ, true, false, cond, List, map, Some, None, refl, sym, ap, ◌∙◌}
use Rattle.std.specs.Str.{bytes_eq}
use Rattle.nv_base.specs.declared.object.ObjId.{ObjId}
use Rattle.nb_records.specs.declared.balancer.Frontend.{Frontend}
use Rattle.nb_records.specs.declared.balancer.Lb.{Lb}
use Rattle.nb_records.specs.declared.router.Router.{Router}
use Rattle.nb_records.specs.declared.switch.Switch.{Switch}
use Rattle.nb_model.specs.Effect.{each_where, where_there, without, without_lb, delete_vip, is_last_vip}
use Rattle.nb_model.specs.Network.{Network, same, lb_named}
use Rattle.nv_table.specs.Table.{NumbersRise, with_exchanged}
use Rattle.nb_change.specs.inner.Balancers.{vip_leaves}
use Rattle.nb_store.proofs.PlacedRecords.{changed_at}
use Rattle.nb_change.proofs.Goes.{none_goes}
use Rattle.nb_change.proofs.Removed.{map_same}

-- No load balancer of the number is there.

pub no_lb : (net : Network) → net ≡ without_lb None net
no_lb net =
    ap (λ (all : List Lb). record net { lbs = all }) (sym (none_goes net.lbs))
    ∙ ap (λ (all : List Switch). record net { lbs = without (λ lb. false) net.lbs; switches = all })
    (sym (map_same _ (λ switch. ap (λ (all : List ObjId). let x : Switch = record switch { lbs = all } in x) (none_goes switch.lbs)) net.switches))
    ∙ ap (λ (all : List Router). record net {
      lbs = without (λ lb. false) net.lbs;
      switches = map (λ (switch : Switch). record switch { lbs = without (λ lb. false) switch.lbs }) net.switches;
      routers = all;
    }) (sym (map_same _ (λ router. ap (λ (all : List ObjId). let x : Router = record router { lbs = all } in x) (none_goes router.lbs)) net.routers))

-- The VIP of a load balancer.

module _ (net : Network) (name : List ℕ) (at : Frontend) where
  pub no_vip : None ≡ lb_named net name → net ≡ where_there (lb_named net name) (delete_vip net at) net
  no_vip none = ap (λ lb. where_there lb (delete_vip net at) net) none

  module _ (lb : Lb) (found : Some lb ≡ lb_named net name) where
    pub last_vip : is_last_vip at lb ≡ true → without_lb (Some lb.id) net ≡ where_there (lb_named net name) (delete_vip net at) net
    last_vip last =
        sym (ap (λ b. cond b (without_lb (Some lb.id) net) (record net { lbs = each_where (λ other. same lb.id other.id) (vip_leaves at) net.lbs })) last)
        ∙ ap (λ lb. where_there lb (delete_vip net at) net) found

    pub other_vips : (left : Lb) → left ≡ vip_leaves at lb → is_last_vip at lb ≡ false → NumbersRise (λ (x : Lb). x.id) net.lbs
        → record net { lbs = with_exchanged (λ x. x.id) left net.lbs } ≡ where_there (lb_named net name) (delete_vip net at) net
    other_vips left is more rise =
        ap (λ (l : Lb). record net { lbs = with_exchanged (λ x. x.id) l net.lbs }) is
        ∙ ap (λ (all : List Lb). record net { lbs = all })
        (changed_at (λ (x : Lb). x.id) (λ (x : Lb). bytes_eq x.name name) (vip_leaves at) lb net.lbs (sym found) rise refl)
        ∙ sym (ap (λ b. cond b (without_lb (Some lb.id) net) (record net { lbs = each_where (λ other. same lb.id other.id) (vip_leaves at) net.lbs })) more)
        ∙ ap (λ lb. where_there lb (delete_vip net at) net) found
