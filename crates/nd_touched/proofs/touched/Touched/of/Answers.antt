use Rattle.std.proofs.Common.{refl}
use Rattle.nb_records.specs.declared.router.Router.{Router}
use Rattle.nb_records.specs.declared.sets.Group.{Group}
use Rattle.nb_records.specs.declared.switch.Switch.{Switch}
use Rattle.nb_store.specs.Touched.{group_label, router_label, switch_label}
use Rattle.nb_store.specs.declared.step.Place.TheVariants as place
use Rattle.nb_store.specs.declared.step.Touch.TheVariants.{Whole, Listed}
use Rattle.net_units.specs.Keys.{by_number, by_numbers}
use Rattle.nd_touched.specs.inner.Picks.{listed_in_groups, listed_on_routers, listed_on_switches, whole_acl, whole_binding, whole_group, whole_lb, whole_nat, whole_port, whole_route, whole_router, whole_router_port, whole_switch}
use Rattle.nd_touched.proofs.Picked.{alike_but_more, is_picked, not_picked, number_itself, numbers_itself}
use Rattle.nd_touched.proofs.touched.Touched.of.Goals as goal

pub returns : goal.returns
returns c = λ old new same. record {
  switches = λ n not. alike_but_more _ _ (λ (x : Switch). x.lbs) switch_label
      (λ m. is_picked by_numbers numbers_itself listed_on_switches c.args.touches.now c.in_ok-picked-11.field-0 c.in_ok-picked-11.ensures (n, m) (Listed (place.Switch n) m) refl) _ _
      (same.switches n (not_picked by_number number_itself whole_switch c.args.touches.now c.in_ok-picked.field-0 c.in_ok-picked.ensures n (Whole (place.Switch n)) refl not));
  ports = λ n not. same.ports n (not_picked by_number number_itself whole_port c.args.touches.now c.in_ok-picked-2.field-0 c.in_ok-picked-2.ensures n (Whole (place.Port n)) refl not);
  routers = λ n not. alike_but_more _ _ (λ (x : Router). x.lbs) router_label
      (λ m. is_picked by_numbers numbers_itself listed_on_routers c.args.touches.now c.in_ok-picked-12.field-0 c.in_ok-picked-12.ensures (n, m) (Listed (place.Router n) m) refl) _ _
      (same.routers n (not_picked by_number number_itself whole_router c.args.touches.now c.in_ok-picked-3.field-0 c.in_ok-picked-3.ensures n (Whole (place.Router n)) refl not));
  router_ports = λ n not. same.router_ports n (not_picked by_number number_itself whole_router_port c.args.touches.now c.in_ok-picked-4.field-0 c.in_ok-picked-4.ensures n (Whole (place.RouterPort n)) refl not);
  routes = λ n not. same.routes n (not_picked by_number number_itself whole_route c.args.touches.now c.in_ok-picked-5.field-0 c.in_ok-picked-5.ensures n (Whole (place.Route n)) refl not);
  nats = λ n not. same.nats n (not_picked by_number number_itself whole_nat c.args.touches.now c.in_ok-picked-6.field-0 c.in_ok-picked-6.ensures n (Whole (place.Nat n)) refl not);
  lbs = λ n not. same.lbs n (not_picked by_number number_itself whole_lb c.args.touches.now c.in_ok-picked-7.field-0 c.in_ok-picked-7.ensures n (Whole (place.Lb n)) refl not);
  acls = λ n not. same.acls n (not_picked by_number number_itself whole_acl c.args.touches.now c.in_ok-picked-8.field-0 c.in_ok-picked-8.ensures n (Whole (place.Acl n)) refl not);
  groups = λ n not. alike_but_more _ _ (λ (x : Group). x.ports) group_label
      (λ m. is_picked by_numbers numbers_itself listed_in_groups c.args.touches.now c.in_ok-picked-13.field-0 c.in_ok-picked-13.ensures (n, m) (Listed (place.Group n) m) refl) _ _
      (same.groups n (not_picked by_number number_itself whole_group c.args.touches.now c.in_ok-picked-9.field-0 c.in_ok-picked-9.ensures n (Whole (place.Group n)) refl not));
  bindings = λ n not. same.bindings n (not_picked by_number number_itself whole_binding c.args.touches.now c.in_ok-picked-10.field-0 c.in_ok-picked-10.ensures n (Whole (place.Binding n)) refl not);
}
