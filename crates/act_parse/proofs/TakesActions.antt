-- What is read as an action list is what is written of it, and it is well-formed.
use Rattle.std.proofs.Common.{◌≡◌, ℕ, suc, zero, Bool, true, false, cond, List, [], ◌∷◌, ◌++◌, length, Option, Some, None, Ok, codes, refl, ap, sym, subst, ◌∙◌, append_assoc}
use Rattle.std.specs.List.{list_all}
use Rattle.std.proofs.lemmas.Bool.{and_from}
use Rattle.std.proofs.lemmas.List.{append-nil}
use Rattle.act_core.specs.Text.{joined, step_text, spaced_text, block_text, action_text, actions_text}
use Rattle.act_core.specs.WellFormed.{is_step, is_block, is_action, is_well_formed}
use Rattle.act_core.specs.declared.step.Step.{Step}
use Rattle.act_core.specs.declared.action.Action.{Action}
use Rattle.act_core.specs.declared.action.Action.TheVariants as action_of
use Rattle.act_parse.specs.declared.keyword.Block.{Block}
use Rattle.act_parse.specs.declared.keyword.Block.TheVariants.{Arp, Icmp4, TcpReset, Reject}
use Rattle.act_parse.specs.inner.Token.{word, after_word, is_at}
use Rattle.act_parse.specs.inner.Keyword.{block_name, block_of, blocks, is_block_name, block_action}
use Rattle.act_parse.specs.declared.wanted.Wanted.TheVariants as wanted
use Rattle.act_parse.specs.inner.Reading as reading
use Rattle.act_parse.specs.inner.Reading.{Reading, and_then, token, tokens, ended, answer, answer_of}
use Rattle.act_parse.specs.inner.Reading.Reading.{Read, Stuck}
use Rattle.act_parse.proofs.TakesTokens.{same_bytes, and_then_read, read_same, token_takes, tokens_take, ended_is, word_takes, find_passes}
use Rattle.act_parse.proofs.TakesFields.{step_takes}

pub spaced_takes : (text : List ℕ) (s : Step) (rest : List ℕ) → reading.spaced_step text ≡ Read s rest → (text ≡ spaced_text s ++ rest) × (is_step s ≡ true)
spaced_takes text s rest e =
    let parts = and_then_read (reading.step wanted.Step text) (λ s rest. and_then (token (codes " ") rest) (λ _ rest. Read s rest)) s rest e in
    let one = step_takes wanted.Step text parts.0 parts.1 parts.2 in
    let space = and_then_read (token (codes " ") parts.1) (λ _ rest. Read parts.0 rest) s rest parts.3 in
    let two = token_takes (codes " ") parts.1 space.1 space.0 space.2 in
    let same = read_same _ _ _ _ space.3 in
    let P : Step → Type 0 = λ t. (text ≡ spaced_text t ++ rest) × (is_step t ≡ true) in
    subst P same.0 (one.0 ∙ ap (λ xs. step_text parts.0 ++ xs) (two ∙ ap (λ xs. codes " " ++ xs) same.1) ∙ sym (append_assoc (step_text parts.0) (codes " ") rest), one.1)

-- the steps after these
abbrev MoreSteps : List Step → List ℕ → List ℕ → List Step → Type 0
MoreSteps before text rest all = (more : List Step) × (all ≡ before ++ more) × (text ≡ joined spaced_text [] [] more ++ rest) × (list_all is_step more ≡ true)

none_more : (before all : List Step) (text rest : List ℕ) → Read before text ≡ Read all rest → MoreSteps before text rest all
none_more before all text rest e = let same = read_same _ _ _ _ e in ([], sym same.0 ∙ sym (append-nil before), same.1, refl)

steps_take : (n : ℕ) (before : List Step) (text : List ℕ) (all : List Step) (rest : List ℕ) → reading.steps n before text ≡ Read all rest → MoreSteps before text rest all
steps_take zero before text all rest e = none_more before all text rest e
steps_take (suc n) before text all rest e = go (is_at (codes "}") text) e (λ s left f. steps_take n (before ++ s ∷ []) left all rest f)
  where
    go : (b : Bool) → cond b (Read before text) (and_then (reading.spaced_step text) (λ s rest. reading.steps n (before ++ s ∷ []) rest)) ≡ Read all rest
        → ((s : Step) (left : List ℕ) → reading.steps n (before ++ s ∷ []) left ≡ Read all rest → MoreSteps (before ++ s ∷ []) left rest all) → MoreSteps before text rest all
    go true e later = none_more before all text rest e
    go false e later =
        let parts = and_then_read (reading.spaced_step text) (λ s rest. reading.steps n (before ++ s ∷ []) rest) all rest e in
        let one = spaced_takes text parts.0 parts.1 parts.2 in
        let others = later parts.0 parts.1 parts.3 in (
          parts.0 ∷ others.0,
          others.1 ∙ append_assoc before (parts.0 ∷ []) others.0,
          one.0 ∙ ap (λ xs. spaced_text parts.0 ++ xs) others.2 ∙ sym (append_assoc (spaced_text parts.0) (joined spaced_text [] [] others.0) rest),
          and_from _ _ one.1 others.3,
        )

pub all_steps_take : (text : List ℕ) (ss : List Step) (rest : List ℕ) → reading.all_steps text ≡ Read ss rest → (text ≡ joined spaced_text [] [] ss ++ rest) × (is_block ss ≡ true)
all_steps_take text ss rest e =
    let parts = and_then_read (reading.spaced_step text) (λ s rest. reading.steps (suc (length rest)) (s ∷ []) rest) ss rest e in
    let one = spaced_takes text parts.0 parts.1 parts.2 in
    let others = steps_take (suc (length parts.1)) (parts.0 ∷ []) parts.1 ss rest parts.3 in
    let P : List Step → Type 0 = λ us. (text ≡ joined spaced_text [] [] us ++ rest) × (is_block us ≡ true) in
    subst P (sym others.1)
    (one.0 ∙ ap (λ xs. spaced_text parts.0 ++ xs) others.2 ∙ sym (append_assoc (spaced_text parts.0) (joined spaced_text [] [] others.0) rest), and_from _ _ one.1 others.3)

-- pieces in a row, from the first
pieces : (a b c d e : List ℕ) → (((a ++ b) ++ c) ++ d) ++ e ≡ a ++ (b ++ (c ++ (d ++ e)))
pieces a b c d e = simp append_assoc refl

block_takes : (name text : List ℕ) (ss : List Step) (rest : List ℕ) → reading.block text ≡ Read ss rest → (name ++ text ≡ block_text name ss ++ rest) × (is_block ss ≡ true)
block_takes name text ss rest e =
    let front = and_then_read (tokens (codes " " ∷ codes "{" ∷ codes " " ∷ []) text) (λ _ rest. and_then (reading.all_steps rest) (λ ss rest. ended ss (codes "}" ∷ codes ";" ∷ []) rest)) ss rest e in
    let one = tokens_take (codes " " ∷ codes "{" ∷ codes " " ∷ []) text front.1 front.0 front.2 in
    let inner = and_then_read (reading.all_steps front.1) (λ ss rest. ended ss (codes "}" ∷ codes ";" ∷ []) rest) ss rest front.3 in
    let two = all_steps_take front.1 inner.0 inner.1 inner.2 in
    let P : List Step → Type 0 = λ us. (name ++ text ≡ block_text name us ++ rest) × (is_block us ≡ true) in
    ended_is P inner.0 ss (codes "}" ∷ codes ";" ∷ []) inner.1 rest inner.3
    (λ took. (
      ap (λ xs. name ++ xs) (one ∙ ap (λ xs. codes " { " ++ xs) (two.0 ∙ ap (λ xs. joined spaced_text [] [] inner.0 ++ xs) took))
          ∙ sym (pieces name (codes " { ") (joined spaced_text [] [] inner.0) (codes "};") rest),
      two.1,
    ))

pub block_written : (k : Block) (ss : List Step) → action_text (block_action k ss) ≡ block_text (block_name k) ss
block_written Arp ss = refl
block_written Icmp4 ss = refl
block_written TcpReset ss = refl
block_written Reject ss = refl

pub block_good : (k : Block) (ss : List Step) → is_action (block_action k ss) ≡ is_block ss
block_good Arp ss = refl
block_good Icmp4 ss = refl
block_good TcpReset ss = refl
block_good Reject ss = refl

pub action_takes : (text : List ℕ) (a : Action) (rest : List ℕ) → reading.action text ≡ Read a rest → (text ≡ action_text a ++ rest) × (is_action a ≡ true)
action_takes text a rest e = go (block_of (word text)) refl e
  where
    P : Action → Type 0
    P x = (text ≡ action_text x ++ rest) × (is_action x ≡ true)

    go : (o : Option Block) → block_of (word text) ≡ o → reading.action_by text o ≡ Read a rest → (text ≡ action_text a ++ rest) × (is_action a ≡ true)
    go None is e =
        let parts = and_then_read (reading.step wanted.Action text) (λ s rest. Read (action_of.Step s) rest) a rest e in
        let one = step_takes wanted.Action text parts.0 parts.1 parts.2 in
        let same = read_same _ _ _ _ parts.3 in
        subst P same.0 (one.0 ∙ ap (λ xs. step_text parts.0 ++ xs) same.1, one.1)
    go (Some k) is e =
        let parts = and_then_read (reading.block (after_word text)) (λ ss rest. Read (block_action k ss) rest) a rest e in
        let name = sym (same_bytes (block_name k) (word text) (find_passes (λ j. is_block_name j (word text)) blocks k is)) in
        let one = block_takes (block_name k) (after_word text) parts.0 parts.1 parts.2 in
        let same = read_same _ _ _ _ parts.3 in
        subst P same.0
        (word_takes text ∙ ap (λ xs. xs ++ after_word text) name ∙ one.0 ∙ ap (λ xs. xs ++ parts.1) (sym (block_written k parts.0)) ∙ ap (λ xs. action_text (block_action k parts.0) ++ xs) same.1, block_good k parts.0 ∙ one.1)

-- the actions after these, up to the end of the text
abbrev MoreActions : List Action → List ℕ → List Action → Type 0
MoreActions before text all = (more : List Action) × (all ≡ before ++ more) × (text ≡ joined action_text (codes " ") (codes " ") more) × (list_all is_action more ≡ true)

actions_take : (n : ℕ) (before : List Action) (text : List ℕ) (all : List Action) (rest : List ℕ) → reading.actions n before text ≡ Read all rest → MoreActions before text all
actions_take n before [] all rest e = let same = read_same _ _ _ _ e in ([], sym same.0 ∙ sym (append-nil before), refl, refl)
actions_take zero before (b ∷ bs) all rest e = absurd (cc)
actions_take (suc n) before (b ∷ bs) all rest e =
    let parts = and_then_read (reading.another (b ∷ bs)) (λ a rest. reading.actions n (before ++ a ∷ []) rest) all rest e in
    let space = and_then_read (token (codes " ") (b ∷ bs)) (λ _ rest. reading.action rest) parts.0 parts.1 parts.2 in
    let two = token_takes (codes " ") (b ∷ bs) space.1 space.0 space.2 in
    let one = action_takes space.1 parts.0 parts.1 space.3 in
    let others = actions_take n (before ++ parts.0 ∷ []) parts.1 all rest parts.3 in
    (parts.0 ∷ others.0, others.1 ∙ append_assoc before (parts.0 ∷ []) others.0, two ∙ ap (λ xs. codes " " ++ xs) (one.0 ∙ ap (λ xs. action_text parts.0 ++ xs) others.2), and_from _ _ one.1 others.3)

reading_takes : (text : List ℕ) (all : List Action) (rest : List ℕ) → reading.reading text ≡ Read all rest → (is_well_formed all ≡ true) × (text ≡ actions_text all)
reading_takes [] all rest e =
    let P : List Action → Type 0 = λ us. (is_well_formed us ≡ true) × ([] ≡ actions_text us) in
    let same = read_same _ _ _ _ e in
    subst P same.0 (refl, refl)
reading_takes (b ∷ bs) all rest e =
    let parts = and_then_read (reading.action (b ∷ bs)) (λ a rest. reading.actions (length rest) (a ∷ []) rest) all rest e in
    let one = action_takes (b ∷ bs) parts.0 parts.1 parts.2 in
    let others = actions_take (length parts.1) (parts.0 ∷ []) parts.1 all rest parts.3 in
    let P : List Action → Type 0 = λ us. (is_well_formed us ≡ true) × (b ∷ bs ≡ actions_text us) in
    subst P (sym others.1) (and_from _ _ one.1 others.3, one.0 ∙ ap (λ xs. action_text parts.0 ++ xs) others.2)

pub answer_takes : (text : List ℕ) (list : List Action) → answer text ≡ Ok list → (is_well_formed list ≡ true) × (text ≡ actions_text list)
answer_takes text list e = go (reading.reading text) refl e
  where
    go : (r : Reading (List Action)) → reading.reading text ≡ r → answer_of (length text) r ≡ Ok list → (is_well_formed list ≡ true) × (text ≡ actions_text list)
    go (Read all rest) is e = let same : all ≡ list = cc in reading_takes text list rest (is ∙ ap (λ x. Read x rest) same)
    go (Stuck n) is e = absurd (cc)
