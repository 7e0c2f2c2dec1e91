-- The number by which a record that is swapped and the one of its number differ.
use Rattle.std.proofs.Common.{◌≡◌, ℕ, ◌-◌, Bool, true, false, cond, not, List, Option, Some, None, slice_get, refl, sym, ap, ◌∙◌, subst}
use Rattle.std.proofs.lemmas.Bool.{and_parts}
use Rattle.nv_base.specs.declared.object.ObjId.{ObjId}
use Rattle.nb_model.specs.Belongs.{is_number}
use Rattle.nb_model.specs.Network.{Network}
use Rattle.nv_table.specs.Swapped.{Swap, differs, differs_from, swapped_out, fits, with_swapped}
use Rattle.nv_table.specs.Table.{record_of, with_exchanged}
use Rattle.nv_table.proofs.Undone.{found_number}
use Rattle.nb_records.specs.Longer.{named_longer, switch_longer, router_longer, group_longer}
use Rattle.nb_records.specs.inner.OneMore.{is_more}
use Rattle.nb_store.specs.Touched.{place_of_lean}
use Rattle.nb_store.specs.Undo.{swapped, undone, listed_more, differing}
use Rattle.nb_store.specs.inner.Held.{is_fitting, swaps_back, RisesAt}
use Rattle.nb_store.specs.declared.step.LeanObject.{LeanObject}
use Rattle.nb_store.specs.declared.step.LeanObject.TheVariants as lean
use Rattle.nb_store.specs.declared.step.Step.TheVariants as step
use Rattle.nb_store.proofs.Back.{mapped}
use Rattle.nb_store.proofs.SwappedBack.{swap_back}
use Rattle.nb_store.proofs.Touched.{own_exchanged, same_numbered}

module _ {R : Type 0} (number : R → ObjId) (name : R → List ℕ) (lists : R → List ObjId) where
  abbrev longer : R → R → ℕ → Bool
  longer a b at = named_longer (name a) (lists a) (name b) (lists b) at

  -- where one is longer, the number is there
  has_number_more : (a b : R) (at : ℕ) → longer a b at ≡ true → (n : ObjId) × (slice_get (lists a) (at - 1) ≡ Some n)
  has_number_more a b at e =
      let it = and_parts _ _ (and_parts _ _ e).1 in
      let some = is_more (lists a) (lists b) (at - 1) it.1 in
      (some.0, some.1.here)

  differs_by_one : (r held : R) (at : ℕ) (more : Bool) → differs longer (r, at, more) held ≡ true → (n : ObjId) × (listed_more lists (r, at, more) (Some held) ≡ Some n)
  differs_by_one r held at true e = has_number_more r held at e
  differs_by_one r held at false e = has_number_more held r at e

  fits_by_one : (s : Swap R) (rs : List R) → fits number longer s rs ≡ true → (n : ObjId) × (listed_more lists s (record_of number (number s.0) rs) ≡ Some n)
  fits_by_one s rs e = by (record_of number (number s.0) rs) e
    where
      by : (o : Option R) → differs_from longer s o ≡ true → (n : ObjId) × (listed_more lists s o ≡ Some n)
      by None f = absurd (cc)
      by (Some held) f = differs_by_one s.0 held s.1 s.2 f

  turned : (r held : R) (at : ℕ) (more : Bool) → listed_more lists (held, at, not more) (Some r) ≡ listed_more lists (r, at, more) (Some held)
  turned r held at true = refl
  turned r held at false = refl

  -- what swaps back differs by the same number
  same_back : (s old : Swap R) (rs : List R) → swapped_out longer s (record_of number (number s.0) rs) ≡ Some old
      → listed_more lists old (record_of number (number old.0) (with_swapped number longer s rs)) ≡ listed_more lists s (record_of number (number s.0) rs)
  same_back s old rs e = by (record_of number (number s.0) rs) refl e
    where
      by_test : (held : R) → record_of number (number s.0) rs ≡ Some held → (b : Bool) → differs longer s held ≡ b → cond b (Some (held, s.1, not s.2)) None ≡ Some old
          → listed_more lists old (record_of number (number old.0) (with_swapped number longer s rs)) ≡ listed_more lists s (record_of number (number s.0) rs)
      by_test held g false d h = absurd (cc)
      by_test held g true d h =
          let back : Swap R = (held, s.1, not s.2) in
          let is : back ≡ old = cc in
          let new : with_swapped number longer s rs ≡ with_exchanged number s.0 rs = ap (λ o. cond (differs_from longer s o) (with_exchanged number s.0 rs) rs) g ∙ ap (λ b. cond b (with_exchanged number s.0 rs) rs) d in
          let there : record_of number (number held) (with_swapped number longer s rs) ≡ Some s.0 =
          ap (record_of number (number held)) new ∙ ap (λ (n : ObjId). record_of number n (with_exchanged number s.0 rs)) (sym (found_number number (number s.0) held rs g)) ∙ own_exchanged number s.0 rs in
          ap (λ (o : Swap R). listed_more lists o (record_of number (number o.0) (with_swapped number longer s rs))) (sym is)
          ∙ ap (listed_more lists back) there
          ∙ turned s.0 held s.1 s.2
          ∙ ap (listed_more lists s) (sym g)

      by : (o : Option R) → record_of number (number s.0) rs ≡ o → swapped_out longer s o ≡ Some old
          → listed_more lists old (record_of number (number old.0) (with_swapped number longer s rs)) ≡ listed_more lists s (record_of number (number s.0) rs)
      by None g h = absurd (cc)
      by (Some held) g h = by_test held g (differs longer s held) refl h

-- ---- networks

-- a record that fits differs by a number
pub fitting_differs : (l : LeanObject) (net : Network) → is_fitting l net ≡ true → (n : ObjId) × (differing l net ≡ Some n)
fitting_differs (lean.Switch s) net e = fits_by_one (λ x. x.id) (λ x. x.name) (λ x. x.lbs) s net.switches e
fitting_differs (lean.Router s) net e = fits_by_one (λ x. x.id) (λ x. x.name) (λ x. x.lbs) s net.routers e
fitting_differs (lean.Group s) net e = fits_by_one (λ x. x.id) (λ x. x.name) (λ x. x.ports) s net.groups e

differing_back : (l old : LeanObject) (net : Network) → swaps_back l net ≡ Some old → differing old (swapped l net) ≡ differing l net
differing_back (lean.Switch s) old net e =
    let was = mapped lean.Switch _ old e in
    ap (λ o. differing o (swapped (lean.Switch s) net)) (sym was.1.1) ∙ same_back (λ x. x.id) (λ x. x.name) (λ x. x.lbs) s was.0 net.switches was.1.0
differing_back (lean.Router s) old net e =
    let was = mapped lean.Router _ old e in
    ap (λ o. differing o (swapped (lean.Router s) net)) (sym was.1.1) ∙ same_back (λ x. x.id) (λ x. x.name) (λ x. x.lbs) s was.0 net.routers was.1.0
differing_back (lean.Group s) old net e =
    let was = mapped lean.Group _ old e in
    ap (λ o. differing o (swapped (lean.Group s) net)) (sym was.1.1) ∙ same_back (λ x. x.id) (λ x. x.name) (λ x. x.ports) s was.0 net.groups was.1.0

-- what swaps back, by the number, undoes the swap
pub undone_swap : (l old : LeanObject) (n : ObjId) (net : Network) → RisesAt (place_of_lean l) net → swaps_back l net ≡ Some old → differing l net ≡ Some n → undone (step.Swap old n) (swapped l net) ≡ net
undone_swap l old n net rise e by_it =
    ap (λ b. cond b (swapped old (swapped l net)) (swapped l net)) (ap (λ o. is_number o n) (differing_back l old net e ∙ by_it) ∙ same_numbered n) ∙ swap_back l old net rise e
