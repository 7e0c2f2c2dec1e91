-- Edits undone, one after another.
use Rattle.std.proofs.Common.{subst, ◌≡◌, Bool, true, false, not, List, [], ◌∷◌, ◌++◌, refl, ap, ◌∙◌}
use Rattle.std.proofs.lemmas.Bool.{and_parts, false≢true}
use Rattle.std.proofs.lemmas.List.Elements.{Contains-append_left, Contains-append_right}
use Rattle.std.specs.List.{flat_map, list_all}
use Rattle.nb_model.specs.Network.{Network}
use Rattle.nb_store.proofs.Touched.{both, same_back, same_but, undone_rest, wider}
use Rattle.nb_store.specs.Touched.{AreSameBut, touched}
use Rattle.nb_store.specs.Undo.{back, back_steps, is_nothing, changes_nothing}
use Rattle.nb_store.specs.declared.step.Touch.{Touch}
use Rattle.nb_store.specs.declared.step.Step.{Step}
use Rattle.nb_store.specs.declared.undo.Undo.{Undo}
use Rattle.nb_check.specs.Undone.{back_all}
use Rattle.nb_check.specs.inner.Undone.{AreTouched}

-- the last edit is undone first
pub back_last : (undos : List Undo) (undo : Undo) (net : Network) → back_all (undos ++ undo ∷ []) net ≡ back_all undos (back undo net)
back_last [] undo net = refl
back_last (first ∷ undos) undo net = ap (back first) (back_last undos undo net)

-- without changes nothing is undone
no_steps : (steps : List Step) (net : Network) → is_nothing steps ≡ true → back_steps steps net ≡ net
no_steps [] net e = refl
no_steps (step ∷ steps) net e = absurd (false≢true e)

none_undone : (undos : List Undo) (net : Network) → list_all changes_nothing undos ≡ true → back_all undos net ≡ net
none_undone [] net e = refl
none_undone (undo ∷ undos) net e =
    let parts = and_parts _ _ e in
    ap (back undo) (none_undone undos net parts.1) ∙ no_steps undo.steps.items net parts.0

-- edits that changed nothing, whatever they were
pub nothing_undone : (undos : List Undo) (net : Network) → not (list_all changes_nothing undos) ≡ false → back_all undos net ≡ net
nothing_undone undos net e = none_undone undos net (by (list_all changes_nothing undos) e)
  where
    by : (all : Bool) → not all ≡ false → all ≡ true
    by true e = refl
    by false e = absurd (cc)

-- undone edits leave all that they did not touch
undone_rest_of : (undos : List Undo) (net : Network) → AreSameBut (flat_map touched undos) net (back_all undos net)
undone_rest_of [] net = same_but [] net
undone_rest_of (undo ∷ undos) net =
    both (touched undo ++ flat_map touched undos) net (back_all undos net) (back undo (back_all undos net))
    (wider (flat_map touched undos) (touched undo ++ flat_map touched undos) net (back_all undos net) (λ p there. Contains-append_right (touched undo) (flat_map touched undos) p there) (undone_rest_of undos net))
    (wider (touched undo) (touched undo ++ flat_map touched undos) (back_all undos net) (back undo (back_all undos net)) (λ p there. Contains-append_left (touched undo) (flat_map touched undos) p there)
    (undone_rest undo.steps.items (back_all undos net)))

-- edits change what they touch alone
pub touched_alone : (undos : List Undo) (touches : List Touch) (before after : Network) → back_all undos after ≡ before → AreTouched undos touches → AreSameBut touches before after
touched_alone undos touches before after undone are =
    wider (flat_map touched undos) touches before after are.all
    (same_back (flat_map touched undos) after before (subst (λ (net : Network). AreSameBut (flat_map touched undos) after net) undone (undone_rest_of undos after)))
