-- The place of a fault is the end of the longest front that some list's text has in common with the text.
use Rattle.std.proofs.Common.{◌≡◌, ℕ, ◌+◌, ◌-◌, ◌<◌, ◌≤◌, List, [], ◌∷◌, ◌++◌, length, take, drop, Ok, Err, refl, ap, sym, subst, ◌∙◌, arith, length-append}
use Rattle.std.proofs.lemmas.List.{take-append-drop, length-take-le}
use Rattle.act_core.specs.Text.{actions_text}
use Rattle.act_core.specs.declared.action.Action.{Action}
use Rattle.act_parse.specs.Fronts.{IsTextOf, IsFront, FaultsAt, IsOnlyList}
use Rattle.act_parse.specs.declared.fault.ActionFault.TheVariants.{Syntax}
use Rattle.act_parse.specs.declared.stop.Stop.{Stop}
use Rattle.act_parse.specs.declared.stop.Stop.TheVariants as stop_of
use Rattle.act_parse.specs.inner.Gives.{Reads}
use Rattle.act_parse.specs.inner.Reading as reading
use Rattle.act_parse.specs.inner.Reading.{Reading, answer, answer_of}
use Rattle.act_parse.specs.inner.Reading.Reading.{Read, Stuck}
use Rattle.act_parse.proofs.TakesActions.{answer_takes}
use Rattle.act_parse.proofs.WrittenActions.{list_read}
use Rattle.act_parse.proofs.ViableActions.{before_a_fault}
use Rattle.act_parse.proofs.LocalActions.{stays}

-- a list and a fault are two answers
clash : (text : List ℕ) (list : List Action) (p : ℕ) → answer text ≡ Ok list → answer text ≡ Err (Syntax p) → ⊥
clash text list p one two = no (sym one ∙ two)
  where
    no : Ok list ≡ Err (Syntax p) → ⊥
    no e = cc

read_of : (text : List ℕ) (list : List Action) → IsTextOf list text → answer text ≡ Ok list
read_of text list is = ap answer (sym is.1) ∙ list_read list is.0

pub only_list : (text : List ℕ) (list : List Action) → answer text ≡ Ok list → IsOnlyList text list
only_list text list e =
    let took = answer_takes text list e in
    ((took.0, sym took.1), λ other is. same other list (sym (read_of text other is) ∙ e))
  where
    same : (a b : List Action) → answer_of 0 (Read a []) ≡ answer_of 0 (Read b []) → a ≡ b
    same a b e = cc

place_within : (text : List ℕ) (p : ℕ) → answer text ≡ Err (Syntax p) → p ≤ length text
place_within text p e = go (reading.reading text) e
  where
    go : (r : Reading (List Action)) → answer_of (length text) r ≡ Err (Syntax p) → p ≤ length text
    go (Read all rest) e = absurd (cc)
    go (Stuck left) e = let at : length text - left ≡ p = cc in omega (arith, at)

-- one byte more begins no list's text
no_further : (text : List ℕ) (p : ℕ) → answer text ≡ Err (Syntax p) → p < length text → IsFront (take (p + 1) text) → ⊥
no_further text p e within front = go (take (p + 1) text) refl
  where
    go : (xs : List ℕ) → take (p + 1) text ≡ xs → ⊥
    go [] is = omega (arith, length-take-le (p + 1) text (omega (arith, within)), ap length is)
    go (x ∷ xs) is =
        let other = (x ∷ xs) ++ front.1 in
        let whole : text ≡ x ∷ (xs ++ drop (p + 1) text) = sym (take-append-drop (p + 1) text) ∙ ap (λ ys. ys ++ drop (p + 1) text) is in
        let far : p + length (drop (p + 1) text) < length text = omega (arith, ap length whole, length-append xs (drop (p + 1) text), ap length is, length-take-le (p + 1) text (omega (arith, within))) in
        let fault = stays text other (drop (p + 1) text) front.1 p (record { first = x; more = xs; whole = whole; whole2 = refl }) far e in
        let written : actions_text front.0 ≡ other = front.2.1 ∙ ap (λ ys. ys ++ front.1) is in
        clash other front.0 p (read_of other front.0 (front.2.0, written)) fault

pub faults_at : (text : List ℕ) (p : ℕ) → answer text ≡ Err (Syntax p) → FaultsAt text p
faults_at text p e = (λ list one. clash text list p (read_of text list one) e, place_within text p e, before_a_fault text p e, λ within front. no_further text p e within front)

-- what a reader that was stopped there tells of the reading
pub stuck_there : (stopped : Stop) (left : ℕ) (text : List ℕ) → Reads {T = List Action} (Err stopped) (reading.reading text) → stopped ≡ stop_of.Stuck left → reading.reading text ≡ Stuck left
stuck_there stopped left text reads is = subst (λ (s : Stop). Reads {T = List Action} (Err s) (reading.reading text)) is reads
