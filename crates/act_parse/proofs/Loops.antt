-- How far the reading of targets, of steps and of actions has come.
use Rattle.std.proofs.Common.{◌≡◌, ◌≤◌, ◌<◌, ◌+◌, ℕ, zero, suc, Bool, true, false, List, [], ◌∷◌, ◌++◌, length, drop, is_some, codes, Result, Ok, Err, subst, eqb, refl, ap, ◌∙◌, sym, subst, arith}
use Rattle.std.proofs.lemmas.List.{length-drop}
use Rattle.act_core.specs.declared.step.Target.{Target}
use Rattle.act_core.specs.declared.step.Step.{Step}
use Rattle.act_core.specs.declared.action.Action.{Action}
use Rattle.act_parse.specs.inner.Token.{is_at}
use Rattle.std.specs.Borrow.{Bor}
use Rattle.std.specs.Result.{IsErrAnd}
use Rattle.act_parse.specs.inner.Reading.{Reading, and_then, token, first_target, target, targets, all_targets, spaced_step, steps, all_steps, action, another, actions, reading}
use Rattle.act_parse.specs.inner.Reading.Reading.{Read, Stuck}
use Rattle.act_parse.specs.declared.stop.Stop.{Stop}
use Rattle.act_parse.specs.declared.stop.Stop.TheVariants as stop_of
use Rattle.act_parse.specs.inner.Gives.{Reads}

-- the targets that are left are the rest of all targets, of which so far there are these
abbrev pub TargetsSoFar : List ℕ → Bool → List Target → List ℕ → Type 0
TargetsSoFar text has_port before left = (length left ≤ length text) × ((n : ℕ) × (length left ≤ n) × (targets n has_port before left ≡ all_targets text))

pub targets_begin : (text left : List ℕ) (first : Target) (none before : List Target) (has_port : Bool) → none ≡ [] → before ≡ none ++ first ∷ [] → has_port ≡ is_some first.port
    → length left ≤ length text → first_target text ≡ Read first left → TargetsSoFar text has_port before left
targets_begin text left first none before has_port e p has shorter reads =
    (shorter, (length left, omega arith, rw (p, e, has, reads) refl))

comma_some : (left : List ℕ) → is_at (codes ",") left ≡ true → 0 < length left
comma_some [] at = absurd cc
comma_some (b ∷ bs) at = omega arith

shorter_by_one : (left : List ℕ) → 0 < length left → length (drop 1 left) + 1 ≡ length left
shorter_by_one [] some = absurd (omega arith)
shorter_by_one (b ∷ bs) some = omega arith

pub targets_more : (text left rest next_rest : List ℕ) (has_port : Bool) (before more : List Target) (next : Target) → TargetsSoFar text has_port before left
    → is_at (codes ",") left ≡ true → rest ≡ drop 1 left → target has_port rest ≡ Read next next_rest → length next_rest ≤ length rest → more ≡ before ++ next ∷ []
    → TargetsSoFar text has_port more next_rest × (length next_rest < length left)
targets_more text left rest next_rest has_port before more next so_far at is reads shorter pushed =
    go so_far.1.0 so_far.1.1 so_far.1.2
  where
    one : length rest + 1 ≡ length left
    one = ap (λ xs. length xs + 1) is ∙ shorter_by_one left (comma_some left at)

    here : target has_port (drop 1 left) ≡ Read next next_rest
    here = ap (target has_port) (sym is) ∙ reads

    go : (n : ℕ) → length left ≤ n → targets n has_port before left ≡ all_targets text → TargetsSoFar text has_port more next_rest × (length next_rest < length left)
    go zero le same = absurd (omega (arith, one, le))
    go (suc m) le same =
        let step : targets (suc m) has_port before left ≡ targets m has_port (before ++ next ∷ []) next_rest = rw (at, here) refl in
        ((omega (arith, one, shorter, so_far.0), (m, omega (arith, one, shorter, le), ap (λ ts. targets m has_port ts next_rest) pushed ∙ sym step ∙ same)), omega (arith, one, shorter))

pub targets_end : (text left : List ℕ) (has_port : Bool) (before : List Target) → TargetsSoFar text has_port before left → is_at (codes ",") left ≡ false → all_targets text ≡ Read before left
targets_end text left has_port before so_far at = sym so_far.1.2 ∙ go so_far.1.0
  where
    go : (n : ℕ) → targets n has_port before left ≡ Read before left
    go zero = refl
    go (suc m) = rw at refl

pub targets_fail : (text left rest : List ℕ) (has_port : Bool) (before : List Target) (stop other : Stop) → TargetsSoFar text has_port before left → is_at (codes ",") left ≡ true → rest ≡ drop 1 left
    → Reads {T = Target} (Err stop) (target has_port rest) → other ≡ stop → Reads {T = List Target} (Err other) (all_targets text)
targets_fail text left rest has_port before stop other so_far at is reads same =
    let P : Stop → Type 0 = λ s. Reads {T = List Target} (Err s) (all_targets text) in
    subst P (sym same) (go stop reads)
  where
    some : 0 < length left
    some = comma_some left at

    stuck_at : (m n : ℕ) → length left ≤ n → targets n has_port before left ≡ all_targets text → target has_port rest ≡ Stuck m → all_targets text ≡ Stuck m
    stuck_at m zero le total fails = absurd (omega (arith, some, le))
    stuck_at m (suc n) le total fails =
        let here : targets (suc n) has_port before left ≡ Stuck m = rw (at, ap (target has_port) (sym is) ∙ fails) refl in
        sym total ∙ here

    go : (stop : Stop) → Reads {T = Target} (Err stop) (target has_port rest) → Reads {T = List Target} (Err stop) (all_targets text)
    go (stop_of.Stuck m) reads = stuck_at m so_far.1.0 so_far.1.1 so_far.1.2 reads
    go stop_of.Memory reads = tt

-- the steps that are left are the rest of all steps, of which so far there are these
abbrev pub StepsSoFar : List ℕ → List Step → List ℕ → Type 0
StepsSoFar text before left = (length left ≤ length text) × ((n : ℕ) × (length left < n) × (steps n before left ≡ all_steps text))

pub steps_begin : (text left : List ℕ) (first : Step) (none before : List Step) → none ≡ [] → before ≡ none ++ first ∷ [] → length left ≤ length text → spaced_step text ≡ Read first left → StepsSoFar text before left
steps_begin text left first none before e p shorter reads = (shorter, (suc (length left), omega arith, rw (p, e, reads) refl))

pub steps_more : (text left rest : List ℕ) (before more : List Step) (next : Step) → StepsSoFar text before left → is_at (codes "}") left ≡ false → spaced_step left ≡ Read next rest → length rest < length left → more ≡ before ++ next ∷ []
    → StepsSoFar text more rest
steps_more text left rest before more next so_far at reads shorter pushed = go so_far.1.0 so_far.1.1 so_far.1.2
  where
    go : (n : ℕ) → length left < n → steps n before left ≡ all_steps text → StepsSoFar text more rest
    go zero le same = absurd (omega (arith, le))
    go (suc m) le same =
        let step : steps (suc m) before left ≡ steps m (before ++ next ∷ []) rest = rw (at, reads) refl in
        (omega (arith, shorter, so_far.0), (m, omega (arith, shorter, le), ap (λ ss. steps m ss rest) pushed ∙ sym step ∙ same))

pub steps_end : (text left : List ℕ) (before : List Step) → StepsSoFar text before left → is_at (codes "}") left ≡ true → all_steps text ≡ Read before left
steps_end text left before so_far at = sym so_far.1.2 ∙ go so_far.1.0
  where
    go : (n : ℕ) → steps n before left ≡ Read before left
    go zero = refl
    go (suc m) = rw at refl

pub steps_fail : (text left : List ℕ) (before : List Step) (stop other : Stop) → StepsSoFar text before left → is_at (codes "}") left ≡ false
    → Reads {T = Step} (Err stop) (spaced_step left) → other ≡ stop → Reads {T = List Step} (Err other) (all_steps text)
steps_fail text left before stop other so_far at reads same =
    let P : Stop → Type 0 = λ s. Reads {T = List Step} (Err s) (all_steps text) in
    subst P (sym same) (go stop reads)
  where
    stuck_at : (m n : ℕ) → length left < n → steps n before left ≡ all_steps text → spaced_step left ≡ Stuck m → all_steps text ≡ Stuck m
    stuck_at m zero le total fails = absurd (omega (arith, le))
    stuck_at m (suc n) le total fails = sym total ∙ rw (at, fails) refl

    go : (stop : Stop) → Reads {T = Step} (Err stop) (spaced_step left) → Reads {T = List Step} (Err stop) (all_steps text)
    go (stop_of.Stuck m) reads = stuck_at m so_far.1.0 so_far.1.1 so_far.1.2 reads
    go stop_of.Memory reads = tt

-- the actions that are left are the rest of all actions, of which so far there are these
abbrev pub ActionsSoFar : List ℕ → List Action → List ℕ → Type 0
ActionsSoFar text before left = (n : ℕ) × (length left ≤ n) × (actions n before left ≡ reading text)

pub actions_begin : (text left : List ℕ) (first : Action) (none before : List Action) → none ≡ [] → before ≡ none ++ first ∷ [] → eqb (length text) 0 ≡ false → action text ≡ Read first left → ActionsSoFar text before left
actions_begin [] left first none before e p some reads = absurd (cc)
actions_begin (b ∷ bs) left first none before e p some reads = (length left, omega arith, rw (p, e, reads) refl)

pub actions_more : (text left rest : List ℕ) (before more : List Action) (next : Action) → ActionsSoFar text before left → another left ≡ Read next rest → length rest < length left → more ≡ before ++ next ∷ [] → ActionsSoFar text more rest
actions_more text left rest before more next so_far reads shorter pushed = go so_far.0 so_far.1 so_far.2 left refl
  where
    go : (n : ℕ) → length left ≤ n → actions n before left ≡ reading text → (xs : List ℕ) → left ≡ xs → ActionsSoFar text more rest
    go zero le same xs is = absurd (omega (arith, shorter, le))
    go (suc m) le same [] is = absurd (omega (arith, shorter, ap length is))
    go (suc m) le same (b ∷ bs) is =
        let step : actions (suc m) before (b ∷ bs) ≡ actions m (before ++ next ∷ []) rest = rw (ap another (sym is) ∙ reads) refl in
        (m, omega (arith, shorter, le), ap (λ ss. actions m ss rest) pushed ∙ sym step ∙ ap (actions (suc m) before) (sym is) ∙ same)

-- where reading a first part stopped, the whole stops there
pub stuck_after : {S T : Type 0} (r : Result (T × Bor (List ℕ)) Stop) (stopped : Stop) (first : Reading S) (go_on : S → List ℕ → Reading T) → IsErrAnd r (λ y. y ≡ stopped)
    → Reads {T = S} (Err stopped) first → Reads r (and_then first go_on)
stuck_after (Ok x) stopped first go_on h failed = absurd h
stuck_after {S} (Err (stop_of.Stuck left)) stopped first go_on h failed =
    let e : first ≡ Stuck left = subst (λ s. Reads {T = S} (Err s) first) (sym h) failed in
    rw e refl
stuck_after (Err stop_of.Memory) stopped first go_on h failed = tt

-- bytes are wanted where the text has ended
pub token_ends : (t : List ℕ) (i : ℕ) (left text : List ℕ) (stopped : Stop) → i < length t → length left ≡ 0 → token (drop i t) left ≡ token t text → stopped ≡ stop_of.Stuck (length left) → Reads {T = Unit {0}} (Err stopped) (token t text)
token_ends t i left text stopped more none same is = subst (λ (s : Stop). Reads {T = Unit {0}} (Err s) (token t text)) (sym is) (go t i more same)
  where
    ends : (x : ℕ) (xs : List ℕ) → token (x ∷ xs) left ≡ Stuck (length left)
    ends x xs = at left none
      where
        at : (ys : List ℕ) → length ys ≡ 0 → token (x ∷ xs) ys ≡ Stuck (length ys)
        at [] none = refl
        at (y ∷ ys) none = absurd (omega (arith, none))

    go : (t : List ℕ) (i : ℕ) → i < length t → token (drop i t) left ≡ token t text → token t text ≡ Stuck (length left)
    go [] i more same = absurd (omega (arith, more))
    go (x ∷ xs) i more same = sym same ∙ some (drop i (x ∷ xs)) (omega (arith, more, length-drop i (x ∷ xs)))
      where
        some : (ys : List ℕ) → 0 < length ys → token ys left ≡ Stuck (length left)
        some [] one = absurd (omega (arith, one))
        some (y ∷ ys) one = ends y ys
