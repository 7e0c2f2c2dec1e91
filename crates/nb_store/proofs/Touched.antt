-- Undoing changes leaves all that they did not touch.
use Rattle.std.proofs.Common.{ℕ, ◌≡◌, ◌==◌, ◌-◌, ◌||◌, zero, suc, nat_lt, not, Bool, true, false, cond, arith, List, [], ◌∷◌, Option, Some, None, Contains, slice_get, refl, sym, ap, ◌∙◌, subst}
use Rattle.std.proofs.lemmas.Bool.{and_parts, eqb-true}
use Rattle.std.proofs.lemmas.Bool.Decides.{nat_tests}
use Rattle.std.proofs.lemmas.Option.{same_Some}
use Rattle.std.specs.Cmp.Lexicographic.{same_text}
use Rattle.std.specs.List.{filter_map}
use Rattle.nv_base.specs.declared.object.ObjId.{ObjId}
use Rattle.nb_model.specs.Belongs.{is_among, is_number}
use Rattle.nb_model.specs.Network.{Network, same}
use Rattle.nv_table.specs.Swapped.{Swap, differs, differs_from, fits, with_swapped}
use Rattle.nv_table.specs.Table.{has_number, record_of, with_record, without_number, with_exchanged}
use Rattle.nv_table.proofs.Undone.{found_number}
use Rattle.nb_records.specs.Longer.{named_longer}
use Rattle.nb_records.specs.inner.OneMore.{is_more, any_more}
use Rattle.nb_store.specs.Undo.{restored, swapped, removed, undone, back_steps, number_at, listed_more, differing}
use Rattle.nb_store.specs.Touched.{place_of, place_of_lean, touched_by, switch_label, router_label, group_label, AgreeBut, AgreeOnLists, AreAlikeBut, AreSameBut}
use Rattle.nb_store.specs.declared.step.LeanObject.{LeanObject}
use Rattle.nb_store.specs.declared.step.LeanObject.TheVariants as lean
use Rattle.nb_store.specs.declared.step.Object.{Object}
use Rattle.nb_store.specs.declared.step.Object.TheVariants as object
use Rattle.nb_store.specs.declared.step.Place.{Place}
use Rattle.nb_store.specs.declared.step.Place.TheVariants as place
use Rattle.nb_store.specs.declared.step.Step.{Step}
use Rattle.nb_store.specs.declared.step.Step.TheVariants.{Restore, Remove, Next}
use Rattle.nb_store.specs.declared.step.Step.TheVariants as step
use Rattle.nb_store.specs.declared.step.Touch.{Touch}
use Rattle.nb_store.specs.declared.step.Touch.TheVariants.{Whole, Listed}

-- ---- a list of records

number_of : (a b : ObjId) → a.0 ≡ b.0 → a ≡ b
number_of a b e = ap (λ (k : ℕ). let n : ObjId = record { 0 = k } in n) e

pub same_numbered : (n : ObjId) → same n n ≡ true
same_numbered n = grind (arith, nat_tests)

module _ {R : Type 0} (number : R → ObjId) where
  -- a record of another number is found as before
  other_with : (n : ObjId) (r : R) (rs : List R) → has_number number n r ≡ false → record_of number n (with_record number r rs) ≡ record_of number n rs
  other_with n r [] e = ap (λ b. cond b (Some r) None) e
  other_with n r (x ∷ rs) e = by (nat_lt (number r).0 (number x).0) (other_with n r rs e)
    where
      by : (l : Bool) → record_of number n (with_record number r rs) ≡ record_of number n rs → record_of number n (cond l (r ∷ x ∷ rs) (x ∷ with_record number r rs)) ≡ record_of number n (x ∷ rs)
      by true rest = ap (λ b. cond b (Some r) (record_of number n (x ∷ rs))) e
      by false rest = ap (cond (has_number number n x) (Some x)) rest

  other_without : (n m : ObjId) (rs : List R) → (n.0 == m.0) ≡ false → record_of number n (without_number number m rs) ≡ record_of number n rs
  other_without n m [] e = refl
  other_without n m (x ∷ rs) e = by (has_number number m x) refl (other_without n m rs e)
    where
      by : (b : Bool) → has_number number m x ≡ b → record_of number n (without_number number m rs) ≡ record_of number n rs
          → record_of number n (cond (not b) (x ∷ without_number number m rs) (without_number number m rs)) ≡ record_of number n (x ∷ rs)
      by false h rest = ap (cond (has_number number n x) (Some x)) rest
      by true h rest = rest ∙ sym (ap (λ b. cond b (Some x) (record_of number n rs)) (ap (λ k. n.0 == k) (sym (eqb-true _ _ h)) ∙ e))

  other_exchanged : (n : ObjId) (r : R) (rs : List R) → has_number number n r ≡ false → record_of number n rs ≡ record_of number n (with_exchanged number r rs)
  other_exchanged n r rs e = sym (other_with n r (without_number number (number r) rs) e ∙ other_without n (number r) rs e)

  -- one of the number itself is found where it is put
  none_without : (n : ObjId) (rs : List R) → record_of number n (without_number number n rs) ≡ None
  none_without n [] = refl
  none_without n (x ∷ rs) = by (has_number number n x) refl (none_without n rs)
    where
      by : (b : Bool) → has_number number n x ≡ b → record_of number n (without_number number n rs) ≡ None → record_of number n (cond (not b) (x ∷ without_number number n rs) (without_number number n rs)) ≡ None
      by true h rest = rest
      by false h rest = ap (λ b. cond b (Some x) (record_of number n (without_number number n rs))) h ∙ rest

  own_with : (n : ObjId) (r : R) (rs : List R) → has_number number n r ≡ true → record_of number n rs ≡ None → record_of number n (with_record number r rs) ≡ Some r
  own_with n r [] e none = ap (λ b. cond b (Some r) None) e
  own_with n r (x ∷ rs) e none = by_test (has_number number n x) refl none (own_with n r rs e)
    where
      by_test : (h : Bool) → has_number number n x ≡ h → cond h (Some x) (record_of number n rs) ≡ None → (record_of number n rs ≡ None → record_of number n (with_record number r rs) ≡ Some r)
          → record_of number n (with_record number r (x ∷ rs)) ≡ Some r
      by_test true h g later = absurd (cc)
      by_test false h g later = by (nat_lt (number r).0 (number x).0)
        where
          by : (l : Bool) → record_of number n (cond l (r ∷ x ∷ rs) (x ∷ with_record number r rs)) ≡ Some r
          by true = ap (λ b. cond b (Some r) (record_of number n (x ∷ rs))) e
          by false = ap (λ b. cond b (Some x) (record_of number n (with_record number r rs))) h ∙ later g

  pub own_exchanged : (r : R) (rs : List R) → record_of number (number r) (with_exchanged number r rs) ≡ Some r
  own_exchanged r rs = own_with (number r) r (without_number number (number r) rs) (grind (arith, nat_tests)) (none_without (number r) rs)

  module _ (at : ObjId → Place) where
    -- a number that is not that of a place is another one
    another : (n m : ObjId) → (Contains (Whole (at m) ∷ []) (Whole (at n)) → ⊥) → (n.0 == m.0) ≡ false
    another n m apart = by (n.0 == m.0) refl
      where
        by : (b : Bool) → (n.0 == m.0) ≡ b → b ≡ false
        by false e = refl
        by true e = absurd (apart (subst (λ (k : ObjId). Contains (Whole (at k) ∷ []) (Whole (at n))) (number_of n m (eqb-true _ _ e)) own))
          where
            own : Contains (Whole (at n) ∷ []) (Whole (at n))
            own = (0, omega arith, refl)

    exchanged : (r : R) (rs : List R) → AgreeBut (Whole (at (number r)) ∷ []) at number rs (with_exchanged number r rs)
    exchanged r rs n apart = other_exchanged n r rs (another n (number r) apart)

    taken : (m : ObjId) (rs : List R) → AgreeBut (Whole (at m) ∷ []) at number rs (without_number number m rs)
    taken m rs n apart = sym (other_without n m rs (another n m apart))

-- ---- records that list numbers

module _ {R S : Type 0} (lists : R → List ObjId) (rest : R → S) where
  alike : (moved : ObjId → Type 0) (a b : Option R) → a ≡ b → AreAlikeBut moved lists rest a b
  alike moved None None e = tt
  alike moved None (Some b) e = absurd (cc)
  alike moved (Some a) None e = absurd (cc)
  alike moved (Some a) (Some b) e = let one : a ≡ b = same_Some a b e in (ap rest one, λ n apart. ap (λ r. is_among n (lists r)) one)

  alike_both : (moved : ObjId → Type 0) (a b c : Option R) → AreAlikeBut moved lists rest a b → AreAlikeBut moved lists rest b c → AreAlikeBut moved lists rest a c
  alike_both moved None None c f g = g
  alike_both moved None (Some b) c f g = absurd f
  alike_both moved (Some a) None c f g = absurd f
  alike_both moved (Some a) (Some b) None f g = absurd g
  alike_both moved (Some a) (Some b) (Some c) f g = (f.0 ∙ g.0, λ n apart. f.1 n apart ∙ g.1 n apart)

  alike_wider : (moved more : ObjId → Type 0) → ((n : ObjId) → moved n → more n) → (a b : Option R) → AreAlikeBut moved lists rest a b → AreAlikeBut more lists rest a b
  alike_wider moved more within None None f = f
  alike_wider moved more within None (Some b) f = absurd f
  alike_wider moved more within (Some a) None f = absurd f
  alike_wider moved more within (Some a) (Some b) f = (f.0, λ n apart. f.1 n (λ there. apart (within n there)))

  alike_back : (moved : ObjId → Type 0) (a b : Option R) → AreAlikeBut moved lists rest a b → AreAlikeBut moved lists rest b a
  alike_back moved None None f = f
  alike_back moved None (Some b) f = absurd f
  alike_back moved (Some a) None f = absurd f
  alike_back moved (Some a) (Some b) f = (sym f.0, λ n apart. sym (f.1 n apart))

  -- records that agree list the same
  on_lists : (touches : List Touch) (at : ObjId → Place) (number : R → ObjId) (old new : List R) → AgreeBut touches at number old new → AgreeOnLists touches at number lists rest old new
  on_lists touches at number old new agree n apart = alike _ (record_of number n old) (record_of number n new) (agree n apart)

-- ---- records of which one lists a number more

module _ {R : Type 0} (number : R → ObjId) (name : R → List ℕ) (lists : R → List ObjId) where
  abbrev longer : R → R → ℕ → Bool
  longer a b at = named_longer (name a) (lists a) (name b) (lists b) at

  abbrev others : R → ObjId × List ℕ
  others r = (number r, name r)

  longer_by : (a b : R) (at : ℕ) (n : ObjId) → longer a b at ≡ true → slice_get (lists a) (at - 1) ≡ Some n → (name a ≡ name b) × ((k : ObjId) → same k n ≡ false → is_among k (lists a) ≡ is_among k (lists b))
  longer_by a b at n e here =
      let it = and_parts _ _ (and_parts _ _ e).1 in
      let some = is_more (lists a) (lists b) (at - 1) it.1 in
      let one : some.0 ≡ n = same_Some some.0 n (sym some.1.here ∙ here) in
      (same_text (name a) (name b) (sym it.0), λ k apart. any_more (same k) some.0 (lists a) (lists b) (at - 1) some.1 ∙ ap (λ c. c || is_among k (lists b)) (ap (same k) one ∙ apart))

  differs_by : (r held : R) (at : ℕ) (more : Bool) (n : ObjId) → differs longer (r, at, more) held ≡ true → listed_more lists (r, at, more) (Some held) ≡ Some n
      → (name held ≡ name r) × ((k : ObjId) → same k n ≡ false → is_among k (lists held) ≡ is_among k (lists r))
  differs_by r held at true n e here = let it = longer_by r held at n e here in (sym it.0, λ k apart. sym (it.1 k apart))
  differs_by r held at false n e here = longer_by held r at n e here

  module _ (place_at : ObjId → Place) (s : Swap R) (rs : List R) (n : ObjId) (by_it : listed_more lists s (record_of number (number s.0) rs) ≡ Some n) where
    abbrev moves : ObjId → ObjId → Type 0
    moves m k = Contains (Listed (place_at (number s.0)) n ∷ []) (Listed (place_at m) k)

    unmoved : (m k : ObjId) → m ≡ number s.0 → (moves m k → ⊥) → same k n ≡ false
    unmoved m k is apart = by (same k n) refl
      where
        by : (b : Bool) → same k n ≡ b → b ≡ false
        by false e = refl
        by true e = absurd (apart (subst (λ (p : ObjId). moves p k) (sym is) (subst (λ (q : ObjId). moves (number s.0) q) (sym (number_of k n (eqb-true _ _ e))) own)))
          where
            own : moves (number s.0) n
            own = (0, omega arith, refl)

    swapped_in : (held : R) → record_of number (number s.0) rs ≡ Some held → differs longer s held ≡ true → (m : ObjId) → m ≡ number s.0 → AreAlikeBut (moves m) lists others (Some held) (Some s.0)
    swapped_in held found is m own =
        let it = differs_by s.0 held s.1 s.2 n is (ap (listed_more lists s) (sym found) ∙ by_it) in
        let numbered : number held ≡ number s.0 = sym (found_number number (number s.0) held rs found) in
        (λ i. (numbered i, it.0 i), λ k apart. it.1 k (unmoved m k own apart))

    swapped_lists : AgreeOnLists (Listed (place_at (number s.0)) n ∷ []) place_at number lists others rs (with_swapped number longer s rs)
    swapped_lists m whole = by (fits number longer s rs) refl
      where
        by_held : (o : Option R) → record_of number (number s.0) rs ≡ o → differs_from longer s o ≡ true → m ≡ number s.0 → AreAlikeBut (moves m) lists others (record_of number m rs) (record_of number m (with_exchanged number s.0 rs))
        by_held None g f is = absurd (cc)
        by_held (Some held) g f is =
            let was : Some held ≡ record_of number m rs = sym g ∙ ap (λ (k : ObjId). record_of number k rs) (sym is) in
            let now : Some s.0 ≡ record_of number m (with_exchanged number s.0 rs) = sym (own_exchanged number s.0 rs) ∙ ap (λ (k : ObjId). record_of number k (with_exchanged number s.0 rs)) (sym is) in
            subst (λ (o : Option R). AreAlikeBut (moves m) lists others o (record_of number m (with_exchanged number s.0 rs))) was
            (subst (λ (o : Option R). AreAlikeBut (moves m) lists others (Some held) o) now (swapped_in held g f m is))

        by_number : (b : Bool) → (m.0 == (number s.0).0) ≡ b → fits number longer s rs ≡ true → AreAlikeBut (moves m) lists others (record_of number m rs) (record_of number m (with_exchanged number s.0 rs))
        by_number true e f = by_held (record_of number (number s.0) rs) refl f (number_of m (number s.0) (eqb-true _ _ e))
        by_number false e f = alike lists others (moves m) _ _ (other_exchanged number m s.0 rs e)

        by : (b : Bool) → fits number longer s rs ≡ b → AreAlikeBut (moves m) lists others (record_of number m rs) (record_of number m (cond b (with_exchanged number s.0 rs) rs))
        by true f = by_number (m.0 == (number s.0).0) refl f
        by false f = alike lists others (moves m) _ _ refl

-- ---- networks

pub same_but : (touches : List Touch) (net : Network) → AreSameBut touches net net
same_but touches net = record {
  switches = λ n apart. alike (λ x. x.lbs) switch_label _ _ _ refl;
  ports = λ n apart. refl;
  routers = λ n apart. alike (λ x. x.lbs) router_label _ _ _ refl;
  router_ports = λ n apart. refl;
  routes = λ n apart. refl;
  nats = λ n apart. refl;
  lbs = λ n apart. refl;
  acls = λ n apart. refl;
  sets = λ n apart. refl;
  groups = λ n apart. alike (λ x. x.ports) group_label _ _ _ refl;
  bindings = λ n apart. refl;
}

-- another next number changes no record
next_rest : (touches : List Touch) (n : ℕ) (net : Network) → AreSameBut touches net (record net { next = n })
next_rest touches n net = record {
  switches = λ m apart. alike (λ x. x.lbs) switch_label _ _ _ refl;
  ports = λ m apart. refl;
  routers = λ m apart. alike (λ x. x.lbs) router_label _ _ _ refl;
  router_ports = λ m apart. refl;
  routes = λ m apart. refl;
  nats = λ m apart. refl;
  lbs = λ m apart. refl;
  acls = λ m apart. refl;
  sets = λ m apart. refl;
  groups = λ m apart. alike (λ x. x.ports) group_label _ _ _ refl;
  bindings = λ m apart. refl;
}

-- one list of a network in place of another: what is in the others is the same
with_switches : (touches : List Touch) (net : Network) (all : List _) → AgreeOnLists touches place.Switch (λ x. x.id) (λ x. x.lbs) switch_label net.switches all → AreSameBut touches net (record net { switches = all })
with_switches touches net all agree = let rest = same_but touches net in record { switches = agree; ports = rest.ports; routers = rest.routers; router_ports = rest.router_ports; routes = rest.routes; nats = rest.nats; lbs = rest.lbs; acls = rest.acls; sets = rest.sets; groups = rest.groups; bindings = rest.bindings }

with_ports : (touches : List Touch) (net : Network) (all : List _) → AgreeBut touches place.Port (λ x. x.id) net.ports all → AreSameBut touches net (record net { ports = all })
with_ports touches net all agree = let rest = same_but touches net in record { switches = rest.switches; ports = agree; routers = rest.routers; router_ports = rest.router_ports; routes = rest.routes; nats = rest.nats; lbs = rest.lbs; acls = rest.acls; sets = rest.sets; groups = rest.groups; bindings = rest.bindings }

with_routers : (touches : List Touch) (net : Network) (all : List _) → AgreeOnLists touches place.Router (λ x. x.id) (λ x. x.lbs) router_label net.routers all → AreSameBut touches net (record net { routers = all })
with_routers touches net all agree = let rest = same_but touches net in record { switches = rest.switches; ports = rest.ports; routers = agree; router_ports = rest.router_ports; routes = rest.routes; nats = rest.nats; lbs = rest.lbs; acls = rest.acls; sets = rest.sets; groups = rest.groups; bindings = rest.bindings }

with_router_ports : (touches : List Touch) (net : Network) (all : List _) → AgreeBut touches place.RouterPort (λ x. x.id) net.router_ports all → AreSameBut touches net (record net { router_ports = all })
with_router_ports touches net all agree = let rest = same_but touches net in record { switches = rest.switches; ports = rest.ports; routers = rest.routers; router_ports = agree; routes = rest.routes; nats = rest.nats; lbs = rest.lbs; acls = rest.acls; sets = rest.sets; groups = rest.groups; bindings = rest.bindings }

with_routes : (touches : List Touch) (net : Network) (all : List _) → AgreeBut touches place.Route (λ x. x.id) net.routes all → AreSameBut touches net (record net { routes = all })
with_routes touches net all agree = let rest = same_but touches net in record { switches = rest.switches; ports = rest.ports; routers = rest.routers; router_ports = rest.router_ports; routes = agree; nats = rest.nats; lbs = rest.lbs; acls = rest.acls; sets = rest.sets; groups = rest.groups; bindings = rest.bindings }

with_nats : (touches : List Touch) (net : Network) (all : List _) → AgreeBut touches place.Nat (λ x. x.id) net.nats all → AreSameBut touches net (record net { nats = all })
with_nats touches net all agree = let rest = same_but touches net in record { switches = rest.switches; ports = rest.ports; routers = rest.routers; router_ports = rest.router_ports; routes = rest.routes; nats = agree; lbs = rest.lbs; acls = rest.acls; sets = rest.sets; groups = rest.groups; bindings = rest.bindings }

with_lbs : (touches : List Touch) (net : Network) (all : List _) → AgreeBut touches place.Lb (λ x. x.id) net.lbs all → AreSameBut touches net (record net { lbs = all })
with_lbs touches net all agree = let rest = same_but touches net in record { switches = rest.switches; ports = rest.ports; routers = rest.routers; router_ports = rest.router_ports; routes = rest.routes; nats = rest.nats; lbs = agree; acls = rest.acls; sets = rest.sets; groups = rest.groups; bindings = rest.bindings }

with_acls : (touches : List Touch) (net : Network) (all : List _) → AgreeBut touches place.Acl (λ x. x.id) net.acls all → AreSameBut touches net (record net { acls = all })
with_acls touches net all agree = let rest = same_but touches net in record { switches = rest.switches; ports = rest.ports; routers = rest.routers; router_ports = rest.router_ports; routes = rest.routes; nats = rest.nats; lbs = rest.lbs; acls = agree; sets = rest.sets; groups = rest.groups; bindings = rest.bindings }

with_sets : (touches : List Touch) (net : Network) (all : List _) → AgreeBut touches place.Set (λ x. x.id) net.sets all → AreSameBut touches net (record net { sets = all })
with_sets touches net all agree = let rest = same_but touches net in record { switches = rest.switches; ports = rest.ports; routers = rest.routers; router_ports = rest.router_ports; routes = rest.routes; nats = rest.nats; lbs = rest.lbs; acls = rest.acls; sets = agree; groups = rest.groups; bindings = rest.bindings }

with_groups : (touches : List Touch) (net : Network) (all : List _) → AgreeOnLists touches place.Group (λ x. x.id) (λ x. x.ports) group_label net.groups all → AreSameBut touches net (record net { groups = all })
with_groups touches net all agree = let rest = same_but touches net in record { switches = rest.switches; ports = rest.ports; routers = rest.routers; router_ports = rest.router_ports; routes = rest.routes; nats = rest.nats; lbs = rest.lbs; acls = rest.acls; sets = rest.sets; groups = agree; bindings = rest.bindings }

with_bindings : (touches : List Touch) (net : Network) (all : List _) → AgreeBut touches place.Binding (λ x. x.id) net.bindings all → AreSameBut touches net (record net { bindings = all })
with_bindings touches net all agree = let rest = same_but touches net in record { switches = rest.switches; ports = rest.ports; routers = rest.routers; router_ports = rest.router_ports; routes = rest.routes; nats = rest.nats; lbs = rest.lbs; acls = rest.acls; sets = rest.sets; groups = rest.groups; bindings = agree }

-- a record that is put leaves the others
pub restored_rest : (o : Object) (net : Network) → AreSameBut (Whole (place_of o) ∷ []) net (restored o net)
restored_rest (object.Switch r) net = with_switches (Whole (place.Switch r.id) ∷ []) net _ (on_lists (λ x. x.lbs) switch_label (Whole (place.Switch r.id) ∷ []) place.Switch (λ x. x.id) net.switches _ (exchanged (λ x. x.id) place.Switch r net.switches))
restored_rest (object.Port r) net = with_ports (Whole (place.Port r.id) ∷ []) net _ (exchanged (λ x. x.id) place.Port r net.ports)
restored_rest (object.Router r) net = with_routers (Whole (place.Router r.id) ∷ []) net _ (on_lists (λ x. x.lbs) router_label (Whole (place.Router r.id) ∷ []) place.Router (λ x. x.id) net.routers _ (exchanged (λ x. x.id) place.Router r net.routers))
restored_rest (object.RouterPort r) net = with_router_ports (Whole (place.RouterPort r.id) ∷ []) net _ (exchanged (λ x. x.id) place.RouterPort r net.router_ports)
restored_rest (object.Route r) net = with_routes (Whole (place.Route r.id) ∷ []) net _ (exchanged (λ x. x.id) place.Route r net.routes)
restored_rest (object.Nat r) net = with_nats (Whole (place.Nat r.id) ∷ []) net _ (exchanged (λ x. x.id) place.Nat r net.nats)
restored_rest (object.Lb r) net = with_lbs (Whole (place.Lb r.id) ∷ []) net _ (exchanged (λ x. x.id) place.Lb r net.lbs)
restored_rest (object.Acl r) net = with_acls (Whole (place.Acl r.id) ∷ []) net _ (exchanged (λ x. x.id) place.Acl r net.acls)
restored_rest (object.Set r) net = with_sets (Whole (place.Set r.id) ∷ []) net _ (exchanged (λ x. x.id) place.Set r net.sets)
restored_rest (object.Group r) net = with_groups (Whole (place.Group r.id) ∷ []) net _ (on_lists (λ x. x.ports) group_label (Whole (place.Group r.id) ∷ []) place.Group (λ x. x.id) net.groups _ (exchanged (λ x. x.id) place.Group r net.groups))
restored_rest (object.Binding r) net = with_bindings (Whole (place.Binding r.id) ∷ []) net _ (exchanged (λ x. x.id) place.Binding r net.bindings)

-- one that is swapped for one that differs by a number leaves the others, and what else is listed
swap_rest : (l : LeanObject) (n : ObjId) (net : Network) → differing l net ≡ Some n → AreSameBut (Listed (place_of_lean l) n ∷ []) net (swapped l net)
swap_rest (lean.Switch s) n net e = with_switches (Listed (place.Switch s.0.id) n ∷ []) net _ (swapped_lists (λ x. x.id) (λ x. x.name) (λ x. x.lbs) place.Switch s net.switches n e)
swap_rest (lean.Router s) n net e = with_routers (Listed (place.Router s.0.id) n ∷ []) net _ (swapped_lists (λ x. x.id) (λ x. x.name) (λ x. x.lbs) place.Router s net.routers n e)
swap_rest (lean.Group s) n net e = with_groups (Listed (place.Group s.0.id) n ∷ []) net _ (swapped_lists (λ x. x.id) (λ x. x.name) (λ x. x.ports) place.Group s net.groups n e)

pub swap_by_rest : (l : LeanObject) (n : ObjId) (net : Network) → AreSameBut (Listed (place_of_lean l) n ∷ []) net (undone (step.Swap l n) net)
swap_by_rest l n net = by (is_number (differing l net) n) refl
  where
    that : (o : Option ObjId) → is_number o n ≡ true → o ≡ Some n
    that None e = absurd (cc)
    that (Some m) e = ap (λ (k : ObjId). Some k) (number_of m n (eqb-true _ _ e))

    by : (b : Bool) → is_number (differing l net) n ≡ b → AreSameBut (Listed (place_of_lean l) n ∷ []) net (cond b (swapped l net) net)
    by true e = swap_rest l n net (that (differing l net) e)
    by false e = same_but (Listed (place_of_lean l) n ∷ []) net

-- one that is taken out leaves the others
pub removed_rest : (p : Place) (net : Network) → AreSameBut (Whole p ∷ []) net (removed p net)
removed_rest (place.Switch n) net = with_switches (Whole (place.Switch n) ∷ []) net _ (on_lists (λ x. x.lbs) switch_label (Whole (place.Switch n) ∷ []) place.Switch (λ x. x.id) net.switches _ (taken (λ x. x.id) place.Switch n net.switches))
removed_rest (place.Port n) net = with_ports (Whole (place.Port n) ∷ []) net _ (taken (λ x. x.id) place.Port n net.ports)
removed_rest (place.Router n) net = with_routers (Whole (place.Router n) ∷ []) net _ (on_lists (λ x. x.lbs) router_label (Whole (place.Router n) ∷ []) place.Router (λ x. x.id) net.routers _ (taken (λ x. x.id) place.Router n net.routers))
removed_rest (place.RouterPort n) net = with_router_ports (Whole (place.RouterPort n) ∷ []) net _ (taken (λ x. x.id) place.RouterPort n net.router_ports)
removed_rest (place.Route n) net = with_routes (Whole (place.Route n) ∷ []) net _ (taken (λ x. x.id) place.Route n net.routes)
removed_rest (place.Nat n) net = with_nats (Whole (place.Nat n) ∷ []) net _ (taken (λ x. x.id) place.Nat n net.nats)
removed_rest (place.Lb n) net = with_lbs (Whole (place.Lb n) ∷ []) net _ (taken (λ x. x.id) place.Lb n net.lbs)
removed_rest (place.Acl n) net = with_acls (Whole (place.Acl n) ∷ []) net _ (taken (λ x. x.id) place.Acl n net.acls)
removed_rest (place.Set n) net = with_sets (Whole (place.Set n) ∷ []) net _ (taken (λ x. x.id) place.Set n net.sets)
removed_rest (place.Group n) net = with_groups (Whole (place.Group n) ∷ []) net _ (on_lists (λ x. x.ports) group_label (Whole (place.Group n) ∷ []) place.Group (λ x. x.id) net.groups _ (taken (λ x. x.id) place.Group n net.groups))
removed_rest (place.Binding n) net = with_bindings (Whole (place.Binding n) ∷ []) net _ (taken (λ x. x.id) place.Binding n net.bindings)

-- two changes, one after the other, and what is the same but for what either touches
pub both : (touches : List Touch) (a b c : Network) → AreSameBut touches a b → AreSameBut touches b c → AreSameBut touches a c
both touches a b c first next = record {
  switches = λ n apart. alike_both (λ x. x.lbs) switch_label _ _ _ _ (first.switches n apart) (next.switches n apart);
  ports = λ n apart. first.ports n apart ∙ next.ports n apart;
  routers = λ n apart. alike_both (λ x. x.lbs) router_label _ _ _ _ (first.routers n apart) (next.routers n apart);
  router_ports = λ n apart. first.router_ports n apart ∙ next.router_ports n apart;
  routes = λ n apart. first.routes n apart ∙ next.routes n apart;
  nats = λ n apart. first.nats n apart ∙ next.nats n apart;
  lbs = λ n apart. first.lbs n apart ∙ next.lbs n apart;
  acls = λ n apart. first.acls n apart ∙ next.acls n apart;
  sets = λ n apart. first.sets n apart ∙ next.sets n apart;
  groups = λ n apart. alike_both (λ x. x.ports) group_label _ _ _ _ (first.groups n apart) (next.groups n apart);
  bindings = λ n apart. first.bindings n apart ∙ next.bindings n apart;
}

-- the same but for more touches
pub wider : (touches more : List Touch) (a b : Network) → ((t : Touch) → Contains touches t → Contains more t) → AreSameBut touches a b → AreSameBut more a b
wider touches more a b within rest = record {
  switches = λ n apart. alike_wider (λ x. x.lbs) switch_label _ _ (λ m there. within (Listed (place.Switch n) m) there) _ _ (rest.switches n (λ there. apart (within (Whole (place.Switch n)) there)));
  ports = λ n apart. rest.ports n (λ there. apart (within (Whole (place.Port n)) there));
  routers = λ n apart. alike_wider (λ x. x.lbs) router_label _ _ (λ m there. within (Listed (place.Router n) m) there) _ _ (rest.routers n (λ there. apart (within (Whole (place.Router n)) there)));
  router_ports = λ n apart. rest.router_ports n (λ there. apart (within (Whole (place.RouterPort n)) there));
  routes = λ n apart. rest.routes n (λ there. apart (within (Whole (place.Route n)) there));
  nats = λ n apart. rest.nats n (λ there. apart (within (Whole (place.Nat n)) there));
  lbs = λ n apart. rest.lbs n (λ there. apart (within (Whole (place.Lb n)) there));
  acls = λ n apart. rest.acls n (λ there. apart (within (Whole (place.Acl n)) there));
  sets = λ n apart. rest.sets n (λ there. apart (within (Whole (place.Set n)) there));
  groups = λ n apart. alike_wider (λ x. x.ports) group_label _ _ (λ m there. within (Listed (place.Group n) m) there) _ _ (rest.groups n (λ there. apart (within (Whole (place.Group n)) there)));
  bindings = λ n apart. rest.bindings n (λ there. apart (within (Whole (place.Binding n)) there));
}

-- what was the same is the same the other way round
pub same_back : (touches : List Touch) (a b : Network) → AreSameBut touches a b → AreSameBut touches b a
same_back touches a b rest = record {
  switches = λ n apart. alike_back (λ x. x.lbs) switch_label _ _ _ (rest.switches n apart);
  ports = λ n apart. sym (rest.ports n apart);
  routers = λ n apart. alike_back (λ x. x.lbs) router_label _ _ _ (rest.routers n apart);
  router_ports = λ n apart. sym (rest.router_ports n apart);
  routes = λ n apart. sym (rest.routes n apart);
  nats = λ n apart. sym (rest.nats n apart);
  lbs = λ n apart. sym (rest.lbs n apart);
  acls = λ n apart. sym (rest.acls n apart);
  sets = λ n apart. sym (rest.sets n apart);
  groups = λ n apart. alike_back (λ x. x.ports) group_label _ _ _ (rest.groups n apart);
  bindings = λ n apart. sym (rest.bindings n apart);
}

-- one more touch, in front
in_front : (t : Touch) (touches : List Touch) (q : Touch) → Contains (t ∷ []) q → Contains (t ∷ touches) q
in_front t touches q (zero, within, is) = (zero, omega arith, is)
in_front t touches q (suc k, within, is) = absurd (omega (arith, within))

after_it : (t : Touch) (touches : List Touch) (q : Touch) → Contains touches q → Contains (t ∷ touches) q
after_it t touches q (k, within, is) = (suc k, omega (arith, within), is)

-- one change more that is undone
one_more : (t : Touch) (touches : List Touch) (a b c : Network) → AreSameBut touches a b → AreSameBut (t ∷ []) b c → AreSameBut (t ∷ touches) a c
one_more t touches a b c rest one =
    both (t ∷ touches) a b c (wider touches (t ∷ touches) a b (after_it t touches) rest) (wider (t ∷ []) (t ∷ touches) b c (in_front t touches) one)

-- changes that are undone leave all that they do not touch
pub undone_rest : (steps : List Step) (net : Network) → AreSameBut (filter_map touched_by steps) net (back_steps steps net)
undone_rest [] net = same_but [] net
undone_rest (Restore o ∷ steps) net =
    one_more (Whole (place_of o)) (filter_map touched_by steps) net (back_steps steps net) (restored o (back_steps steps net)) (undone_rest steps net) (restored_rest o (back_steps steps net))
undone_rest (step.Swap s n ∷ steps) net =
    one_more (Listed (place_of_lean s) n) (filter_map touched_by steps) net (back_steps steps net) (undone (step.Swap s n) (back_steps steps net)) (undone_rest steps net) (swap_by_rest s n (back_steps steps net))
undone_rest (Remove p ∷ steps) net =
    one_more (Whole p) (filter_map touched_by steps) net (back_steps steps net) (removed p (back_steps steps net)) (undone_rest steps net) (removed_rest p (back_steps steps net))
undone_rest (Next n ∷ steps) net =
    both (filter_map touched_by steps) net (back_steps steps net) (record (back_steps steps net) { next = n }) (undone_rest steps net) (next_rest (filter_map touched_by steps) n (back_steps steps net))
