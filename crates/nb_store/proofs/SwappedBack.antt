-- A record that is swapped, and is swapped back.
use Rattle.std.proofs.Common.{◌≡◌, ℕ, Bool, true, false, cond, not, List, Option, Some, None, refl, sym, ap, ◌∙◌, subst}
use Rattle.nv_base.specs.declared.object.ObjId.{ObjId}
use Rattle.nb_model.specs.Network.{Network}
use Rattle.nb_records.specs.Longer.{switch_longer, router_longer, group_longer}
use Rattle.nb_records.specs.declared.router.Router.{Router}
use Rattle.nb_records.specs.declared.sets.Group.{Group}
use Rattle.nb_records.specs.declared.switch.Switch.{Switch}
use Rattle.nv_table.specs.Swapped.{Swap, differs, differs_from, swapped_out, fits, with_swapped}
use Rattle.nv_table.specs.Table.{NumbersRise, record_of, with_exchanged}
use Rattle.nv_table.proofs.Undone.{found_number, exchanged_found, exchanged_back}
use Rattle.nb_store.specs.Touched.{place_of_lean}
use Rattle.nb_store.specs.Undo.{swapped}
use Rattle.nb_store.specs.inner.Held.{swaps_back, RisesAt}
use Rattle.nb_store.specs.declared.step.LeanObject.{LeanObject}
use Rattle.nb_store.specs.declared.step.LeanObject.TheVariants as lean
use Rattle.nb_store.proofs.Back.{mapped}

module _ {R : Type 0} (number : R → ObjId) (is_longer : R → R → ℕ → Bool) where
  turned : (r held : R) (place : ℕ) (longer : Bool) → differs is_longer (held, place, not longer) r ≡ differs is_longer (r, place, longer) held
  turned r held place true = refl
  turned r held place false = refl

  -- a record that fits takes the place
  pub fitting : (s : Swap R) (r : R) (rs : List R) → s.0 ≡ r → fits number is_longer s rs ≡ true → with_swapped number is_longer s rs ≡ with_exchanged number r rs
  fitting s r rs e f = ap (λ b. cond b (with_exchanged number s.0 rs) rs) f ∙ ap (λ x. with_exchanged number x rs) e

  swapped_as : (s : Swap R) (held : R) (rs : List R) → record_of number (number s.0) rs ≡ Some held → differs is_longer s held ≡ true → with_swapped number is_longer s rs ≡ with_exchanged number s.0 rs
  swapped_as s held rs e d = fitting s s.0 rs refl (ap (differs_from is_longer s) e ∙ d)

  pub swapped_back : (s old : Swap R) (rs : List R) → NumbersRise number rs → swapped_out is_longer s (record_of number (number s.0) rs) ≡ Some old → with_swapped number is_longer old (with_swapped number is_longer s rs) ≡ rs
  swapped_back s old rs rise e = by (record_of number (number s.0) rs) refl e
    where
      by_test : (held : R) → record_of number (number s.0) rs ≡ Some held → (b : Bool) → differs is_longer s held ≡ b → cond b (Some (held, s.1, not s.2)) None ≡ Some old
          → with_swapped number is_longer old (with_swapped number is_longer s rs) ≡ rs
      by_test held g false d h = absurd (cc)
      by_test held g true d h =
          let back : Swap R = (held, s.1, not s.2) in
          let is : back ≡ old = cc in
          let there = subst (λ (n : ObjId). record_of number n (with_exchanged number s.0 rs) ≡ Some s.0) (found_number number (number s.0) held rs g) (exchanged_found number s.0 rs rise) in
          ap (λ o. with_swapped number is_longer o (with_swapped number is_longer s rs)) (sym is)
          ∙ ap (with_swapped number is_longer back) (swapped_as s held rs g d)
          ∙ swapped_as back s.0 (with_exchanged number s.0 rs) there (turned s.0 held s.1 s.2 ∙ d)
          ∙ exchanged_back number s.0 held rs rise g

      by : (o : Option R) → record_of number (number s.0) rs ≡ o → swapped_out is_longer s o ≡ Some old → with_swapped number is_longer old (with_swapped number is_longer s rs) ≡ rs
      by None g h = absurd (cc)
      by (Some held) g h = by_test held g (differs is_longer s held) refl h

-- ---- networks

pub swap_back : (l old : LeanObject) (net : Network) → RisesAt (place_of_lean l) net → swaps_back l net ≡ Some old → swapped old (swapped l net) ≡ net
swap_back (lean.Switch s) old net rise e =
    let was = mapped lean.Switch _ old e in
    ap (λ o. swapped o (swapped (lean.Switch s) net)) (sym was.1.1) ∙ ap (λ all. record net { switches = all }) (swapped_back (λ x. x.id) switch_longer s was.0 net.switches rise was.1.0)
swap_back (lean.Router s) old net rise e =
    let was = mapped lean.Router _ old e in
    ap (λ o. swapped o (swapped (lean.Router s) net)) (sym was.1.1) ∙ ap (λ all. record net { routers = all }) (swapped_back (λ x. x.id) router_longer s was.0 net.routers rise was.1.0)
swap_back (lean.Group s) old net rise e =
    let was = mapped lean.Group _ old e in
    ap (λ o. swapped o (swapped (lean.Group s) net)) (sym was.1.1) ∙ ap (λ all. record net { groups = all }) (swapped_back (λ x. x.id) group_longer s was.0 net.groups rise was.1.0)

-- a record that fits takes the place of the one of its number
pub switch_swapped : (net : Network) (s : Swap Switch) (r : Switch) → s.0 ≡ r → fits (λ x. x.id) switch_longer s net.switches ≡ true → swapped (lean.Switch s) net ≡ record net { switches = with_exchanged (λ x. x.id) r net.switches }
switch_swapped net s r e f = ap (λ all. record net { switches = all }) (fitting (λ x. x.id) switch_longer s r net.switches e f)

pub router_swapped : (net : Network) (s : Swap Router) (r : Router) → s.0 ≡ r → fits (λ x. x.id) router_longer s net.routers ≡ true → swapped (lean.Router s) net ≡ record net { routers = with_exchanged (λ x. x.id) r net.routers }
router_swapped net s r e f = ap (λ all. record net { routers = all }) (fitting (λ x. x.id) router_longer s r net.routers e f)

pub group_swapped : (net : Network) (s : Swap Group) (r : Group) → s.0 ≡ r → fits (λ x. x.id) group_longer s net.groups ≡ true → swapped (lean.Group s) net ≡ record net { groups = with_exchanged (λ x. x.id) r net.groups }
group_swapped net s r e f = ap (λ all. record net { groups = all }) (fitting (λ x. x.id) group_longer s r net.groups e f)
