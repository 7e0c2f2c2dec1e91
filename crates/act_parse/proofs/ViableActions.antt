-- What is before a fault is the front of what is written of a well-formed list.
use Rattle.std.proofs.Common.{◌≡◌, ℕ, suc, zero, ◌-◌, Bool, true, false, cond, List, [], ◌∷◌, ◌++◌, length, take, drop, Option, Some, None, Err, codes, refl, ap, sym, subst, ◌∙◌, arith, append_assoc, length-append, inl, inr}
use Rattle.std.specs.List.{list_all}
use Rattle.std.proofs.Math.Seq.{take-append_seam}
use Rattle.std.proofs.lemmas.Bool.{and_from, or_cases}
use Rattle.std.proofs.lemmas.List.{append-nil}
use Rattle.act_core.specs.Text.{joined, step_text, spaced_text, action_text, actions_text}
use Rattle.act_core.specs.WellFormed.{is_step, is_block, is_action, is_well_formed}
use Rattle.act_core.specs.declared.step.Step.{Step}
use Rattle.act_core.specs.declared.step.Step.TheVariants.{Drop}
use Rattle.act_core.specs.declared.action.Action.{Action}
use Rattle.act_core.specs.declared.action.Action.TheVariants as action_of
use Rattle.act_parse.specs.declared.fault.ActionFault.TheVariants.{Syntax}
use Rattle.act_parse.specs.declared.keyword.Block.{Block}
use Rattle.act_parse.specs.Fronts.{IsFront}
use Rattle.act_parse.specs.inner.Token.{word, after_word, is_at}
use Rattle.act_parse.specs.inner.Keyword.{block_name, block_of, blocks, is_block_name, block_action}
use Rattle.act_parse.specs.inner.Reading as reading
use Rattle.act_parse.specs.inner.Reading.{Reading, and_then, token, ended, answer, answer_of}
use Rattle.act_parse.specs.inner.Reading.Reading.{Read, Stuck}
use Rattle.act_parse.proofs.TakesTokens.{same_bytes, and_then_read, token_takes, word_takes, find_passes}
use Rattle.act_parse.proofs.TakesFields.{step_takes}
use Rattle.act_parse.proofs.TakesActions.{spaced_takes, all_steps_take, block_written, block_good, action_takes}
use Rattle.act_parse.proofs.Viable.{Viable, here, past, among, also, sequel}
use Rattle.act_parse.proofs.Stops.{tokens_stop, ended_stops, token_stops}
use Rattle.act_parse.proofs.Ends.{any_some, name_ends, only_words}
use Rattle.act_parse.proofs.ViableFields.{step_goes_on, step_stops}
use Rattle.act_parse.specs.declared.wanted.Wanted.TheVariants as wanted
use Rattle.act_parse.specs.inner.Wanted.{begins_word, begins_block, begins_step}

-- this is what is written of a step in a block
abbrev IsSpaced : List ℕ → Type 0
IsSpaced xs = (s : Step) × (xs ≡ spaced_text s) × (is_step s ≡ true)

-- these are what is written of steps in a block
abbrev AreSteps : List ℕ → Type 0
AreSteps xs = (ss : List Step) × (xs ≡ joined spaced_text [] [] ss) × (list_all is_step ss ≡ true)

-- these are what is written of the steps of a block
abbrev AreBlock : List ℕ → Type 0
AreBlock xs = (ss : List Step) × (xs ≡ joined spaced_text [] [] ss) × (is_block ss ≡ true)

-- this is what is written of a well-formed action
abbrev IsAction : List ℕ → Type 0
IsAction xs = (a : Action) × (xs ≡ action_text a) × (is_action a ≡ true)

-- these are what is written of well-formed actions, each after a space
abbrev AreMore : List ℕ → Type 0
AreMore xs = (more : List Action) × (xs ≡ joined action_text (codes " ") (codes " ") more) × (list_all is_action more ≡ true)

-- this is what is written of a well-formed list
abbrev IsList : List ℕ → Type 0
IsList xs = (list : List Action) × (xs ≡ actions_text list) × (is_well_formed list ≡ true)

spaced_stops : (text : List ℕ) (left : ℕ) → reading.spaced_step text ≡ Stuck left → Viable IsSpaced text left
spaced_stops text left e =
    sequel (reading.step wanted.Step text) (λ s rest. and_then (token (codes " ") rest) (λ _ rest. Read s rest)) left e
    (λ f. among (codes " ") text left (λ xs s. (s.0, ap (λ ys. ys ++ codes " ") s.1, s.2)) (step_stops wanted.Step text left (λ xs starts. step_goes_on xs (only_words wanted.Step xs (λ text. refl) starts)) (λ xs s. s) f))
    (λ s rest f g. let took = step_takes wanted.Step text s rest f in
    past (step_text s) rest text left took.0 (token_stops (codes " ") rest [] (λ _ rest. Read s rest) left g (s, refl, took.1) (λ u more h. absurd (cc))))

steps_stop : (n : ℕ) (before : List Step) (text : List ℕ) (left : ℕ) → reading.steps n before text ≡ Stuck left → Viable AreSteps text left
steps_stop zero before text left e = absurd (cc)
steps_stop (suc n) before text left e = go (is_at (codes "}") text) e (λ s rest f. steps_stop n (before ++ s ∷ []) rest left f)
  where
    go : (b : Bool) → cond b (Read before text) (and_then (reading.spaced_step text) (λ s rest. reading.steps n (before ++ s ∷ []) rest)) ≡ Stuck left
        → ((s : Step) (rest : List ℕ) → reading.steps n (before ++ s ∷ []) rest ≡ Stuck left → Viable AreSteps rest left) → Viable AreSteps text left
    go true e later = absurd (cc)
    go false e later =
        sequel (reading.spaced_step text) (λ s rest. reading.steps n (before ++ s ∷ []) rest) left e
        (λ f. also text left (λ xs s. (s.0 ∷ [], s.1 ∙ sym (append-nil (spaced_text s.0)), and_from _ _ s.2 refl)) (spaced_stops text left f))
        (λ s rest f g. let took = spaced_takes text s rest f in
        past (spaced_text s) rest text left took.0 (also rest left (λ xs ss. (s ∷ ss.0, ap (λ ys. spaced_text s ++ ys) ss.1, and_from _ _ took.1 ss.2)) (later s rest g)))

all_steps_stop : (text : List ℕ) (left : ℕ) → reading.all_steps text ≡ Stuck left → Viable AreBlock text left
all_steps_stop text left e =
    sequel (reading.spaced_step text) (λ s rest. reading.steps (suc (length rest)) (s ∷ []) rest) left e
    (λ f. also text left (λ xs s. (s.0 ∷ [], s.1 ∙ sym (append-nil (spaced_text s.0)), and_from _ _ s.2 refl)) (spaced_stops text left f))
    (λ s rest f g. let took = spaced_takes text s rest f in
    past (spaced_text s) rest text left took.0 (also rest left (λ xs ss. (s ∷ ss.0, ap (λ ys. spaced_text s ++ ys) ss.1, and_from _ _ took.1 ss.2)) (steps_stop (suc (length rest)) (s ∷ []) rest left g)))

-- pieces in a row, from the first
three_pieces : (a b c d : List ℕ) → ((a ++ b) ++ c) ++ d ≡ a ++ (b ++ (c ++ d))
three_pieces a b c d = simp append_assoc refl

block_step : (k : Block) (ss : List Step) → is_block ss ≡ true → IsAction (block_name k ++ (codes " { " ++ (joined spaced_text [] [] ss ++ codes "};")))
block_step k ss good = (block_action k ss, sym (three_pieces (block_name k) (codes " { ") (joined spaced_text [] [] ss) (codes "};")) ∙ sym (block_written k ss), block_good k ss ∙ good)

block_stops : (k : Block) (text : List ℕ) (left : ℕ) → reading.block text ≡ Stuck left → Viable (λ xs. IsAction (block_name k ++ xs)) text left
block_stops k text left e =
    tokens_stop (codes " " ∷ codes "{" ∷ codes " " ∷ []) text (joined spaced_text [] [] (Drop ∷ []) ++ codes "};") (λ _ rest. and_then (reading.all_steps rest) (λ ss rest. ended ss (codes "}" ∷ codes ";" ∷ []) rest)) left e (block_step k (Drop ∷ []) refl)
    (λ u rest f. sequel (reading.all_steps rest) (λ ss rest. ended ss (codes "}" ∷ codes ";" ∷ []) rest) left f
    (λ g. among (codes "};") rest left with_steps (all_steps_stop rest left g))
    (λ ss more g h. let took = all_steps_take rest ss more g in
    past (joined spaced_text [] [] ss) more rest left took.0 (ended_stops ss (codes "}" ∷ codes ";" ∷ []) more left h (block_step k ss took.1))))
  where
    with_steps : (xs : List ℕ) → AreBlock xs → IsAction (block_name k ++ (codes " { " ++ (xs ++ codes "};")))
    with_steps xs ss = subst (λ (ys : List ℕ). IsAction (block_name k ++ (codes " { " ++ (ys ++ codes "};")))) (sym ss.1) (block_step k ss.0 ss.2)

-- bytes that begin an action go on to one
action_goes_on : (xs : List ℕ) → begins_word wanted.Action xs ≡ true → (more : List ℕ) × IsAction (xs ++ more)
action_goes_on xs e = elim (or_cases (begins_block xs) (begins_step xs) e) as (λ _. (more : List ℕ) × IsAction (xs ++ more)) [
  | inl block ↦
      let k = any_some (λ k. is_at xs (block_name k)) blocks block in
      let more = codes " { " ++ (joined spaced_text [] [] (Drop ∷ []) ++ codes "};") in
      (drop (length xs) (block_name k.0) ++ more, subst IsAction (ap (λ ys. ys ++ more) (sym (name_ends xs (block_name k.0) k.1)) ∙ append_assoc xs (drop (length xs) (block_name k.0)) more) (block_step k.0 (Drop ∷ []) refl))
  | inr step ↦ let on = step_goes_on xs step in (on.0, (action_of.Step on.1.0, on.1.1, on.1.2))
]

action_stops : (text : List ℕ) (left : ℕ) → reading.action text ≡ Stuck left → Viable IsAction text left
action_stops text left e = go (block_of (word text)) refl e
  where
    go : (o : Option Block) → block_of (word text) ≡ o → reading.action_by text o ≡ Stuck left → Viable IsAction text left
    go None is e =
        sequel (reading.step wanted.Action text) (λ s rest. Read (action_of.Step s) rest) left e
        (λ f. step_stops wanted.Action text left (λ xs starts. action_goes_on xs (only_words wanted.Action xs (λ text. refl) starts)) (λ xs s. (action_of.Step s.0, s.1, s.2)) f)
        (λ s rest f g. absurd (cc))
    go (Some k) is e =
        let name = sym (same_bytes (block_name k) (word text) (find_passes (λ j. is_block_name j (word text)) blocks k is)) in
        sequel (reading.block (after_word text)) (λ ss rest. Read (block_action k ss) rest) left e
        (λ f. past (block_name k) (after_word text) text left (word_takes text ∙ ap (λ xs. xs ++ after_word text) name) (block_stops k (after_word text) left f))
        (λ ss rest f g. absurd (cc))

another_stops : (text : List ℕ) (left : ℕ) → reading.another text ≡ Stuck left → Viable AreMore text left
another_stops text left e =
    token_stops (codes " ") text (codes "drop;") (λ _ rest. reading.action rest) left e (action_of.Step Drop ∷ [], refl, refl)
    (λ u rest f. also rest left (λ xs a. (a.0 ∷ [], ap (λ ys. 32 ∷ ys) (a.1 ∙ sym (append-nil (action_text a.0))), and_from _ _ a.2 refl)) (action_stops rest left f))

pub another_takes : (text : List ℕ) (a : Action) (rest : List ℕ) → reading.another text ≡ Read a rest → (text ≡ 32 ∷ (action_text a ++ rest)) × (is_action a ≡ true)
another_takes text a rest e =
    let space = and_then_read (token (codes " ") text) (λ _ rest. reading.action rest) a rest e in
    let one = action_takes space.1 a rest space.3 in
    (token_takes (codes " ") text space.1 space.0 space.2 ∙ ap (λ xs. 32 ∷ xs) one.0, one.1)

actions_stop : (n : ℕ) (before : List Action) (text : List ℕ) (left : ℕ) → reading.actions n before text ≡ Stuck left → Viable AreMore text left
actions_stop n before [] left e = absurd (cc)
actions_stop zero before (b ∷ bs) left e = let all : left ≡ length (b ∷ bs) = cc in here (b ∷ bs) [] left all ([], refl, refl)
actions_stop (suc n) before (b ∷ bs) left e =
    sequel (reading.another (b ∷ bs)) (λ a rest. reading.actions n (before ++ a ∷ []) rest) left e
    (λ f. another_stops (b ∷ bs) left f)
    (λ a rest f g. let took = another_takes (b ∷ bs) a rest f in
    past (codes " " ++ action_text a) rest (b ∷ bs) left took.0 (also rest left (λ xs more. (a ∷ more.0, ap (λ ys. 32 ∷ (action_text a ++ ys)) more.1, and_from _ _ took.1 more.2)) (actions_stop n (before ++ a ∷ []) rest left g)))

pub reading_stops : (text : List ℕ) (left : ℕ) → reading.reading text ≡ Stuck left → Viable IsList text left
reading_stops [] left e = absurd (cc)
reading_stops (b ∷ bs) left e =
    sequel (reading.action (b ∷ bs)) (λ a rest. reading.actions (length rest) (a ∷ []) rest) left e
    (λ f. also (b ∷ bs) left (λ xs a. (a.0 ∷ [], a.1 ∙ sym (append-nil (action_text a.0)), and_from _ _ a.2 refl)) (action_stops (b ∷ bs) left f))
    (λ a rest f g. let took = action_takes (b ∷ bs) a rest f in
    past (action_text a) rest (b ∷ bs) left took.0 (also rest left (λ xs more. (a ∷ more.0, ap (λ ys. action_text a ++ ys) more.1, and_from _ _ took.1 more.2)) (actions_stop (length rest) (a ∷ []) rest left g)))

-- the front before the place, in the text
before_place : (text front after : List ℕ) (left p : ℕ) → text ≡ front ++ after → length after ≡ left → length text - left ≡ p → front ≡ take p text
before_place text front after left p whole size at =
    let long : length front ≡ p = omega (arith, ap length whole, length-append front after, size, at) in
    sym (take-append_seam front after) ∙ ap (λ (n : ℕ). take n (front ++ after)) long ∙ ap (λ (xs : List ℕ). take p xs) (sym whole)

pub before_a_fault : (text : List ℕ) (p : ℕ) → answer text ≡ Err (Syntax p) → IsFront (take p text)
before_a_fault text p e = go (reading.reading text) refl e
  where
    go : (r : Reading (List Action)) → reading.reading text ≡ r → answer_of (length text) r ≡ Err (Syntax p) → IsFront (take p text)
    go (Read all rest) is e = absurd (cc)
    go (Stuck left) is e =
        let v = reading_stops text left is in
        let at : length text - left ≡ p = cc in
        let front : v.front ≡ take p text = before_place text v.front v.after left p v.whole v.size at in
        (v.goes_on.0, v.more, (v.goes_on.2, sym v.goes_on.1 ∙ ap (λ (xs : List ℕ). xs ++ v.more) front))
