-- A change and its undoing leave the network as it was.
use Rattle.std.proofs.Common.{◌≡◌, List, Option, Some, None, refl, sym, ap, ◌∙◌, subst}
use Rattle.std.specs.Option.{option_map}
use Rattle.nv_base.specs.declared.object.ObjId.{ObjId}
use Rattle.nb_model.specs.Network.{Network}
use Rattle.nv_table.specs.Table.{NumbersRise, record_of, with_record, without_number, with_exchanged}
use Rattle.nv_table.proofs.Undone.{none_left, taken_back, stays_by, put_back, exchanged_back, found_number}
use Rattle.nb_store.specs.Undo.{restored, removed}
use Rattle.nb_store.specs.Touched.{place_of}
use Rattle.nb_store.specs.inner.Held.{held, RisesAt}
use Rattle.nb_store.specs.declared.step.Object.{Object}
use Rattle.nb_store.specs.declared.step.Object.TheVariants as object
use Rattle.nb_store.specs.declared.step.Place.{Place}
use Rattle.nb_store.specs.declared.step.Place.TheVariants as place

-- one list of a network, and the objects that are its records
record IsPart {R : Type 0} (list : Network → List R) (with_list : List R → Network → Network) (number : R → ObjId) (wrap : R → Object) : Type 0 where
  read : (all : List R) (net : Network) → list (with_list all net) ≡ all
  again : (all before : List R) (net : Network) → with_list all (with_list before net) ≡ with_list all net
  same : (net : Network) → with_list (list net) net ≡ net
  restores : (r : R) (net : Network) → restored (wrap r) net ≡ with_list (with_exchanged number r (list net)) net

pub mapped : {A B : Type 0} (f : A → B) (o : Option A) (b : B) → option_map f o ≡ Some b → (a : A) × ((o ≡ Some a) × (f a ≡ b))
mapped f None b e = absurd (cc)
mapped f (Some a) b e = (a, (refl, cc))

pub unmapped : {A B : Type 0} (f : A → B) (o : Option A) → option_map f o ≡ None → o ≡ None
unmapped f None e = refl
unmapped f (Some a) e = absurd (cc)

module _ {R : Type 0} {list : Network → List R} {with_list : List R → Network → Network} {number : R → ObjId} {wrap : R → Object} (part : IsPart list with_list number wrap) where
  -- a record that took the place of another one
  exchanged : (r : R) (net : Network) (old : Object) → NumbersRise number (list net) → option_map wrap (record_of number (number r) (list net)) ≡ Some old
      → restored old (with_list (with_exchanged number r (list net)) net) ≡ net
  exchanged r net old rise e =
      let was = mapped wrap (record_of number (number r) (list net)) old e in
      let after = with_list (with_exchanged number r (list net)) net in
      ap (λ o. restored o after) (sym was.1.1)
      ∙ part.restores was.0 after
      ∙ ap (λ all. with_list (with_exchanged number was.0 all) after) (part.read _ net)
      ∙ part.again _ _ net
      ∙ ap (λ all. with_list all net) (exchanged_back number r was.0 (list net) rise was.1.0)
      ∙ part.same net

  -- a record that is new
  put : (r : R) (net : Network) → NumbersRise number (list net) → option_map wrap (record_of number (number r) (list net)) ≡ None
      → with_list (without_number number (number r) (list (with_list (with_exchanged number r (list net)) net))) (with_list (with_exchanged number r (list net)) net) ≡ net
  put r net rise e =
      let none = unmapped wrap (record_of number (number r) (list net)) e in
      let after = with_list (with_exchanged number r (list net)) net in
      ap (λ all. with_list (without_number number (number r) all) after) (part.read _ net)
      ∙ part.again _ _ net
      ∙ ap (λ all. with_list all net) (put_back number r (without_number number (number r) (list net)) (none_left number (number r) (list net) rise) ∙ stays_by number (number r) (list net) none)
      ∙ part.same net

  -- a record that was taken out
  taken : (n : ObjId) (net : Network) (old : Object) → NumbersRise number (list net) → option_map wrap (record_of number n (list net)) ≡ Some old
      → restored old (with_list (without_number number n (list net)) net) ≡ net
  taken n net old rise e =
      let was = mapped wrap (record_of number n (list net)) old e in
      let after = with_list (without_number number n (list net)) net in
      ap (λ o. restored o after) (sym was.1.1)
      ∙ part.restores was.0 after
      ∙ ap (λ all. with_list (with_exchanged number was.0 all) after) (part.read _ net)
      ∙ part.again _ _ net
      ∙ ap (λ all. with_list all net) (put_again was.0 rise was.1.0)
      ∙ part.same net
    where
      -- it is not there when it is put back
      put_again : (r : R) → NumbersRise number (list net) → record_of number n (list net) ≡ Some r → with_exchanged number r (without_number number n (list net)) ≡ list net
      put_again r rise f =
          let gone : record_of number (number r) (without_number number n (list net)) ≡ None = subst (λ (m : ObjId). record_of number m (without_number number n (list net)) ≡ None) (found_number number n r (list net) f) (none_left number n (list net) rise) in
          ap (with_record number r) (stays_by number (number r) (without_number number n (list net)) gone) ∙ taken_back number n r (list net) rise f

  -- none was there to be taken out
  not_taken : (n : ObjId) (net : Network) → option_map wrap (record_of number n (list net)) ≡ None → with_list (without_number number n (list net)) net ≡ net
  not_taken n net e = ap (λ all. with_list all net) (stays_by number n (list net) (unmapped wrap (record_of number n (list net)) e)) ∙ part.same net

of_switches : IsPart (λ net. net.switches) (λ all net. record net { switches = all }) (λ x. x.id) object.Switch
of_switches = record { read = λ all net. refl; again = λ all before net. refl; same = λ net. refl; restores = λ r net. refl }

of_ports : IsPart (λ net. net.ports) (λ all net. record net { ports = all }) (λ x. x.id) object.Port
of_ports = record { read = λ all net. refl; again = λ all before net. refl; same = λ net. refl; restores = λ r net. refl }

of_routers : IsPart (λ net. net.routers) (λ all net. record net { routers = all }) (λ x. x.id) object.Router
of_routers = record { read = λ all net. refl; again = λ all before net. refl; same = λ net. refl; restores = λ r net. refl }

of_router_ports : IsPart (λ net. net.router_ports) (λ all net. record net { router_ports = all }) (λ x. x.id) object.RouterPort
of_router_ports = record { read = λ all net. refl; again = λ all before net. refl; same = λ net. refl; restores = λ r net. refl }

of_routes : IsPart (λ net. net.routes) (λ all net. record net { routes = all }) (λ x. x.id) object.Route
of_routes = record { read = λ all net. refl; again = λ all before net. refl; same = λ net. refl; restores = λ r net. refl }

of_nats : IsPart (λ net. net.nats) (λ all net. record net { nats = all }) (λ x. x.id) object.Nat
of_nats = record { read = λ all net. refl; again = λ all before net. refl; same = λ net. refl; restores = λ r net. refl }

of_lbs : IsPart (λ net. net.lbs) (λ all net. record net { lbs = all }) (λ x. x.id) object.Lb
of_lbs = record { read = λ all net. refl; again = λ all before net. refl; same = λ net. refl; restores = λ r net. refl }

of_acls : IsPart (λ net. net.acls) (λ all net. record net { acls = all }) (λ x. x.id) object.Acl
of_acls = record { read = λ all net. refl; again = λ all before net. refl; same = λ net. refl; restores = λ r net. refl }

of_sets : IsPart (λ net. net.sets) (λ all net. record net { sets = all }) (λ x. x.id) object.Set
of_sets = record { read = λ all net. refl; again = λ all before net. refl; same = λ net. refl; restores = λ r net. refl }

of_groups : IsPart (λ net. net.groups) (λ all net. record net { groups = all }) (λ x. x.id) object.Group
of_groups = record { read = λ all net. refl; again = λ all before net. refl; same = λ net. refl; restores = λ r net. refl }

of_bindings : IsPart (λ net. net.bindings) (λ all net. record net { bindings = all }) (λ x. x.id) object.Binding
of_bindings = record { read = λ all net. refl; again = λ all before net. refl; same = λ net. refl; restores = λ r net. refl }

-- an object in place of another one
pub restored_back : (o old : Object) (net : Network) → RisesAt (place_of o) net → held (place_of o) net ≡ Some old → restored old (restored o net) ≡ net
restored_back (object.Switch r) old net rise e = exchanged of_switches r net old rise e
restored_back (object.Port r) old net rise e = exchanged of_ports r net old rise e
restored_back (object.Router r) old net rise e = exchanged of_routers r net old rise e
restored_back (object.RouterPort r) old net rise e = exchanged of_router_ports r net old rise e
restored_back (object.Route r) old net rise e = exchanged of_routes r net old rise e
restored_back (object.Nat r) old net rise e = exchanged of_nats r net old rise e
restored_back (object.Lb r) old net rise e = exchanged of_lbs r net old rise e
restored_back (object.Acl r) old net rise e = exchanged of_acls r net old rise e
restored_back (object.Set r) old net rise e = exchanged of_sets r net old rise e
restored_back (object.Group r) old net rise e = exchanged of_groups r net old rise e
restored_back (object.Binding r) old net rise e = exchanged of_bindings r net old rise e

-- a new object
pub removed_again : (o : Object) (net : Network) → RisesAt (place_of o) net → held (place_of o) net ≡ None → removed (place_of o) (restored o net) ≡ net
removed_again (object.Switch r) net rise e = put of_switches r net rise e
removed_again (object.Port r) net rise e = put of_ports r net rise e
removed_again (object.Router r) net rise e = put of_routers r net rise e
removed_again (object.RouterPort r) net rise e = put of_router_ports r net rise e
removed_again (object.Route r) net rise e = put of_routes r net rise e
removed_again (object.Nat r) net rise e = put of_nats r net rise e
removed_again (object.Lb r) net rise e = put of_lbs r net rise e
removed_again (object.Acl r) net rise e = put of_acls r net rise e
removed_again (object.Set r) net rise e = put of_sets r net rise e
removed_again (object.Group r) net rise e = put of_groups r net rise e
removed_again (object.Binding r) net rise e = put of_bindings r net rise e

-- an object that was taken out
pub removed_back : (p : Place) (old : Object) (net : Network) → RisesAt p net → held p net ≡ Some old → restored old (removed p net) ≡ net
removed_back (place.Switch n) old net rise e = taken of_switches n net old rise e
removed_back (place.Port n) old net rise e = taken of_ports n net old rise e
removed_back (place.Router n) old net rise e = taken of_routers n net old rise e
removed_back (place.RouterPort n) old net rise e = taken of_router_ports n net old rise e
removed_back (place.Route n) old net rise e = taken of_routes n net old rise e
removed_back (place.Nat n) old net rise e = taken of_nats n net old rise e
removed_back (place.Lb n) old net rise e = taken of_lbs n net old rise e
removed_back (place.Acl n) old net rise e = taken of_acls n net old rise e
removed_back (place.Set n) old net rise e = taken of_sets n net old rise e
removed_back (place.Group n) old net rise e = taken of_groups n net old rise e
removed_back (place.Binding n) old net rise e = taken of_bindings n net old rise e

-- none was there
pub none_removed : (p : Place) (net : Network) → held p net ≡ None → removed p net ≡ net
none_removed (place.Switch n) net e = not_taken of_switches n net e
none_removed (place.Port n) net e = not_taken of_ports n net e
none_removed (place.Router n) net e = not_taken of_routers n net e
none_removed (place.RouterPort n) net e = not_taken of_router_ports n net e
none_removed (place.Route n) net e = not_taken of_routes n net e
none_removed (place.Nat n) net e = not_taken of_nats n net e
none_removed (place.Lb n) net e = not_taken of_lbs n net e
none_removed (place.Acl n) net e = not_taken of_acls n net e
none_removed (place.Set n) net e = not_taken of_sets n net e
none_removed (place.Group n) net e = not_taken of_groups n net e
none_removed (place.Binding n) net e = not_taken of_bindings n net e
