-- What edits do to the objects of a kind: none is new with an old number, and each that is no more there is one of those removed.
use Rattle.std.proofs.Common.{◌≡◌, ◌+◌, ◌<◌, ◌≤◌, ◌⊎◌, inl, inr, ⊎_elim, Bool, true, false, cond, not, ◌||◌, Some, None, Option, List, [], ◌∷◌, ◌++◌, map, arith, refl, sym, ap, ◌∙◌, subst}
use Rattle.std.specs.Prelude.{filter, find, option_map}
use Rattle.std.specs.List.{flat_map}
use Rattle.std.proofs.lemmas.Bool.{and_from, and_parts, cond_both, eqb-true, false≢true, not-true, or_cases, or_left}
use Rattle.nv_base.specs.declared.object.ObjId.{ObjId}
use Rattle.nb_records.specs.declared.edit.Edit.{Edit}
use Rattle.nb_model.specs.Belongs.{is_among}
use Rattle.nb_model.specs.Effect.{effect, without, where_there}
use Rattle.nb_model.specs.Network.{Network, next_number, same}
use Rattle.nb_model.specs.Sound.{IsSound, is_rising}
use Rattle.nb_model.proofs.Alike.{same_sym}
use Rattle.nb_model.proofs.Cases.{where_found}
use Rattle.nb_model.proofs.Drawn.{edit_draws}
use Rattle.nb_model.proofs.Lists.{among_left, among_parts, among_right}
use Rattle.nb_model.proofs.References.{among_found_number, among_others}
use Rattle.nb_check.specs.Gone.{is_gone}
use Rattle.nb_check.specs.inner.Going.{given, below, Since}
use Rattle.nb_check.proofs.Numbers.{apart_gone, gone_with, is_noted, not_left, not_true, noted, of_some, only}

-- ---- one change

-- no object of the kind is new with an old number; each that is no more there is one of those gone; and those were there, and are no more
pub record Moves (ids : Network → List ObjId) (net after : Network) (gone : List ObjId) : Type 0 where
  pub fresh : (n : ObjId) → n.0 < net.next → is_among n (ids after) ≡ true → is_among n (ids net) ≡ true
  pub lost : (n : ObjId) → is_among n (ids net) ≡ true → is_among n (ids after) ≡ false → is_among n gone ≡ true
  pub were : (n : ObjId) → is_among n gone ≡ true → is_among n (ids net) ≡ true
  pub left : (n : ObjId) → is_among n gone ≡ true → is_among n (ids after) ≡ false

module _ (ids : Network → List ObjId) where
  -- the objects have the same numbers
  pub stay : (net after : Network) → ids after ≡ ids net → Moves ids net after []
  stay net after same_ids = record {
    fresh = λ n low there. ap (is_among n) (sym same_ids) ∙ there;
    lost = λ n there none. absurd (false≢true (sym none ∙ ap (is_among n) same_ids ∙ there));
    were = λ n none. absurd (false≢true none);
    left = λ n none. absurd (false≢true none);
  }

  -- whether a change is made or not
  pub stay_if : (made : Bool) (net one other : Network) → ids one ≡ ids net → ids other ≡ ids net → Moves ids net (cond made one other) []
  stay_if made net one other first second = stay net (cond made one other) (cond_both made one other (λ after. ids after ≡ ids net) (λ is. first) (λ is. second))

  found_same : {X : Type 0} (found : Option X) (change : X → Network) (net : Network) → ((x : X) → ids (change x) ≡ ids net) → ids (where_there found change net) ≡ ids net
  found_same found change net each = where_found (λ after. ids after ≡ ids net) found change net refl (λ x is. each x)

  pub stay_found : {X : Type 0} (found : Option X) (change : X → Network) (net : Network) → ((x : X) → ids (change x) ≡ ids net) → Moves ids net (where_there found change net) []
  stay_found found change net each = stay net (where_there found change net) (found_same found change net each)

  -- what is there already is not made
  pub stay_new : {X : Type 0} (there : Bool) (found : Option X) (change : X → Network) (net : Network) → ((x : X) → ids (change x) ≡ ids net) → Moves ids net (cond there net (where_there found change net)) []
  stay_new there found change net each = stay_if there net net (where_there found change net) refl (found_same found change net each)

  -- an object more
  pub one_more : (net after : Network) → ids after ≡ ids net ++ next_number net ∷ [] → Moves ids net after []
  one_more net after with_one = record {
    fresh = λ n low there.
        ⊎_elim (λ old. old) (λ new. absurd (is_not n low (⊎_elim (λ is. is) (λ none. absurd (false≢true none)) (or_cases (same n (next_number net)) false new))))
        (among_parts n (ids net) (next_number net ∷ []) (ap (is_among n) (sym with_one) ∙ there));
    lost = λ n there none. absurd (false≢true (sym none ∙ ap (is_among n) with_one ∙ among_left n (ids net) (next_number net ∷ []) there));
    were = λ n none. absurd (false≢true none);
    left = λ n none. absurd (false≢true none);
  }
    where
      is_not : (n : ObjId) → n.0 < net.next → same n (next_number net) ≡ true → ⊥
      is_not n low is = let at : n.0 ≡ net.next = eqb-true n.0 net.next is in absurd (omega (arith, low, at))

module _ {X : Type 0} (id : X → ObjId) (of : Network → List X) where
  abbrev ids_of : Network → List ObjId
  ids_of net = map id (of net)

  -- those of which something holds go
  pub some_go : (net after : Network) (goes : X → Bool) → of after ≡ without goes (of net) → is_rising (ids_of net) ≡ true → Moves ids_of net after (map id (filter goes (of net)))
  some_go net after goes is rise = record {
    fresh = λ n low there. of_some id (λ x. not (goes x)) (of net) n (ap (λ (xs : List X). is_among n (map id xs)) (sym is) ∙ there);
    lost = λ n there none. gone_with id goes (of net) n there (ap (λ (xs : List X). is_among n (map id xs)) (sym is) ∙ none);
    were = λ n there. of_some id goes (of net) n there;
    left = λ n there. ap (λ (xs : List X). is_among n (map id xs)) is ∙ apart_gone id goes (of net) n rise there;
  }

  -- the one that is asked for goes, if it is there
  pub one_goes : (net after : Network) (asked : X → Bool) (found : Option ObjId) → option_map id (find asked (of net)) ≡ found
      → ((number : ObjId) → found ≡ Some number → of after ≡ without (λ x. same number (id x)) (of net)) → (found ≡ None → of after ≡ of net) → Moves ids_of net after (given found)
  one_goes net after asked None is goes stays = stay ids_of net after (ap (map id) (stays refl))
  one_goes net after asked (Some number) is goes stays = record {
    fresh = λ n low there. of_some id (λ x. not (same number (id x))) (of net) n (ap (λ (xs : List X). is_among n (map id xs)) (sym (goes number refl)) ∙ there);
    lost = λ n there none. cases n there none (same n number) refl;
    were = λ n there. subst (λ (m : ObjId). is_among m (map id (of net)) ≡ true) (sym (only n number there)) (among_found_number id asked (of net) number is);
    left = λ n there. subst (λ (m : ObjId). is_among m (map id (of after)) ≡ false) (sym (only n number there))
        (ap (λ (xs : List X). is_among number (map id xs)) (goes number refl) ∙ not_left id number (of net));
  }
    where
      cases : (n : ObjId) → is_among n (map id (of net)) ≡ true → is_among n (map id (of after)) ≡ false → (b : Bool) → same n number ≡ b → (same n number || false) ≡ true
      cases n there none true own = or_left (same n number) false own
      cases n there none false differs =
          let kept : is_among n (map id (without (λ x. same number (id x)) (of net))) ≡ true = among_others id (same number) (of net) n (ap not (same_sym number n ∙ differs)) there in
          absurd (false≢true (sym none ∙ ap (λ (xs : List X). is_among n (map id xs)) (goes number refl) ∙ kept))

-- ---- edits, one after another

-- numbers of a sound network are below the next one, and edits remove these objects and no others
pub record AreMoved (ids : Network → List ObjId) (removed : Network → Edit → List ObjId) : Type 0 where
  pub low : (net : Network) → IsSound net → (n : ObjId) → is_among n (ids net) ≡ true → n.0 < net.next
  pub moves : (net : Network) (e : Edit) → IsSound net → Moves ids net (effect net e) (removed net e)

-- before the first edit
pub since_start : (ids : Network → List ObjId) (start : Network) → Since ids start start []
since_start ids start = record {
  later = omega arith;
  old = λ n low there. there;
  lost = λ n there none. absurd (false≢true (sym none ∙ there));
  were = λ n none. absurd (false≢true none);
  left = λ n none. absurd (false≢true none);
}

-- one edit more
module _ (ids : Network → List ObjId) (removed : Network → Edit → List ObjId) (kind : AreMoved ids removed) where
  pub since_more : (start now : Network) (e : Edit) (gone : List ObjId) → IsSound start → IsSound now → Since ids start now gone
      → Since ids start (effect now e) (gone ++ flat_map (below start.next) (removed now e))
  since_more start now e gone begins sound since =
      let step = kind.moves now e sound in
      record {
        later = omega (arith, since.later, drawn (edit_draws now e));
        old = λ n low there. since.old n low (step.fresh n (omega (arith, low, since.later)) there);
        lost = λ n there none. by n there none (is_among n (ids now)) refl;
        were = λ n there.
            ⊎_elim (λ before. since.were n before)
            (λ more. let found = is_noted start.next (removed now e) n more in since.old n found.0 (step.were n found.1))
            (among_parts n gone (flat_map (below start.next) (removed now e)) there);
        left = λ n there.
            ⊎_elim (λ before. not_true (is_among n (ids (effect now e))) (λ again. back n before again))
            (λ more. step.left n (is_noted start.next (removed now e) n more).1)
            (among_parts n gone (flat_map (below start.next) (removed now e)) there);
      }
    where
      drawn : ((effect now e).next ≡ now.next) ⊎ ((effect now e).next ≡ now.next + 1) → now.next ≤ (effect now e).next
      drawn (inl same_next) = omega (arith, same_next)
      drawn (inr more) = omega (arith, more)

      -- what is gone does not come back
      back : (n : ObjId) → is_among n gone ≡ true → is_among n (ids (effect now e)) ≡ true → ⊥
      back n before again =
          let low : n.0 < now.next = omega (arith, since.later, kind.low start begins n (since.were n before)) in
          absurd (false≢true (sym (since.left n before) ∙ (kind.moves now e sound).fresh n low again))

      by : (n : ObjId) → is_among n (ids start) ≡ true → is_among n (ids (effect now e)) ≡ false → (b : Bool) → is_among n (ids now) ≡ b
          → is_among n (gone ++ flat_map (below start.next) (removed now e)) ≡ true
      by n there none true here =
          among_right n gone (flat_map (below start.next) (removed now e))
          (noted start.next (removed now e) n (kind.low start begins n there) ((kind.moves now e sound).lost n here none))
      by n there none false left = among_left n gone (flat_map (below start.next) (removed now e)) (since.lost n there left)

-- those that are gone are these
pub gone_since : (ids : Network → List ObjId) (start now : Network) (gone : List ObjId) → Since ids start now gone → (n : ObjId) → is_among n gone ≡ is_gone (ids start) (ids now) n
gone_since ids start now gone since n = one_test (is_among n gone) (is_gone (ids start) (ids now) n) to back
  where
    -- tests that imply each other are one
    one_test : (a b : Bool) → (a ≡ true → b ≡ true) → (b ≡ true → a ≡ true) → a ≡ b
    one_test true b to back = sym (to refl)
    one_test false true to back = back refl
    one_test false false to back = refl

    to : is_among n gone ≡ true → is_gone (ids start) (ids now) n ≡ true
    to there = and_from (is_among n (ids start)) (not (is_among n (ids now))) (since.were n there) (ap not (since.left n there))

    back : is_gone (ids start) (ids now) n ≡ true → is_among n gone ≡ true
    back is = let parts = and_parts (is_among n (ids start)) (not (is_among n (ids now))) is in since.lost n parts.0 (not-true (is_among n (ids now)) parts.1)
