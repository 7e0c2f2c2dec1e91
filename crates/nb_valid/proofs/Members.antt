-- The names of the members of a port group, each of which is wanted.
use Rattle.std.proofs.Common.{◌≡◌, ℕ, Bool, true, false, cond, not, List, [], ◌∷◌, ◌++◌, map, Option, Some, None, refl, sym, ap, ◌∙◌}
use Rattle.std.specs.Prelude.{Err, find, is_some}
use Rattle.nb_records.specs.declared.edit.Edit.TheVariants as edit
use Rattle.nb_records.specs.declared.refusal.Refusal.{Refusal}
use Rattle.nb_model.specs.Network.{Network, group_named, port_named, router_port_named}
use Rattle.nb_model.specs.Tests.{first_refusal, tests, wants, wants_free, wants_port}
use Rattle.nb_model.specs.Transactions.{unless}
use Rattle.nb_words.specs.Fault.{IsFaultOf}
use Rattle.nb_words.specs.declared.fault.LineFault.{LineFault}
use Rattle.nb_words.specs.declared.fault.LineFault.TheVariants.{Refused, Memory}
use Rattle.nb_valid.specs.Tested.{tested}
use Rattle.nb_valid.specs.inner.Refused.{IsFaultFor}

module _ (net : Network) where
  abbrev pub is_other : List ℕ → Bool
  is_other name = not (is_some (port_named net name))

  -- the refusal of a name, where there is one
  abbrev pub refusal_of : Option (List ℕ) → Option Refusal
  refusal_of None = None
  refusal_of (Some name) = wants_port net name

  -- the first refusal is that of the first name that no port of a switch has
  pub first_wanted : (names : List (List ℕ)) → first_refusal (map (wants_port net) names) ≡ refusal_of (find is_other names)
  first_wanted [] = refl
  first_wanted (name ∷ names) = by (is_some (port_named net name)) refl (first_wanted names)
    where
      by : (there : Bool) → is_some (port_named net name) ≡ there → first_refusal (map (wants_port net) names) ≡ refusal_of (find is_other names)
          → first_refusal (wants name there (is_some (router_port_named net name)) ∷ map (wants_port net) names) ≡ refusal_of (cond (not there) (Some name) (find is_other names))
      by true e more = more
      by false e more = sym (ap (λ (there : Bool). wants name there (is_some (router_port_named net name))) e)

-- of two lists of tests
first_fails : (tests more : List (Option Refusal)) (refusal : Refusal) → first_refusal tests ≡ Some refusal → first_refusal (tests ++ more) ≡ Some refusal
first_fails [] more refusal e = absurd (cc)
first_fails (Some r ∷ tests) more refusal e = e
first_fails (None ∷ tests) more refusal e = first_fails tests more refusal e

first_passes : (tests more : List (Option Refusal)) → first_refusal tests ≡ None → first_refusal (tests ++ more) ≡ first_refusal more
first_passes [] more e = refl
first_passes (Some r ∷ tests) more e = absurd (cc)
first_passes (None ∷ tests) more e = first_passes tests more e

module _ (net : Network) (name : List ℕ) (ports : List (List ℕ)) where
  -- a port that is refused is refused of the group
  pub port_fails : (fault : LineFault) → IsFaultFor (first_refusal (map (wants_port net) ports)) fault → IsFaultOf (tested net (edit.PgAdd name ports)) fault
  port_fails (Refused refusal) e = ap (λ (test : Option Refusal). unless test (edit.PgAdd name ports)) (first_fails (map (wants_port net) ports) (wants_free name (is_some (group_named net name)) ∷ []) refusal e)
  port_fails Memory e = tt

  -- where no port is refused, the name may be
  only_name : first_refusal (map (wants_port net) ports) ≡ None → first_refusal (tests net (edit.PgAdd name ports)) ≡ first_refusal (wants_free name (is_some (group_named net name)) ∷ [])
  only_name passes = first_passes (map (wants_port net) ports) (wants_free name (is_some (group_named net name)) ∷ []) passes

  pub name_fails : (refusal : Refusal) → first_refusal (map (wants_port net) ports) ≡ None → wants_free name (is_some (group_named net name)) ≡ Some refusal → tested net (edit.PgAdd name ports) ≡ Err refusal
  name_fails refusal passes is = ap (λ (test : Option Refusal). unless test (edit.PgAdd name ports)) (only_name passes ∙ ap (λ (test : Option Refusal). first_refusal (test ∷ [])) is)

  pub name_passes : first_refusal (map (wants_port net) ports) ≡ None → wants_free name (is_some (group_named net name)) ≡ None → first_refusal (tests net (edit.PgAdd name ports)) ≡ None
  name_passes passes is = only_name passes ∙ ap (λ (test : Option Refusal). first_refusal (test ∷ [])) is
