-- A fault is that of each text that begins with the same bytes, as far as one byte after the place.
use Rattle.std.proofs.Common.{◌≡◌, ℕ, suc, zero, ◌+◌, ◌-◌, ◌<◌, ◌≤◌, Bool, true, false, cond, List, [], ◌∷◌, ◌++◌, length, take, Option, Some, None, Err, codes, refl, ap, sym, subst, ◌∙◌, arith, length-append, inl, inr}
use Rattle.std.specs.List.{list_all}
use Rattle.std.specs.Option.{option_map}
use Rattle.std.proofs.lemmas.Bool.{or_left, or_right, or_cases}
use Rattle.nv_base.specs.Field.{field_of}
use Rattle.nv_base.specs.declared.field.Field.{Field}
use Rattle.act_core.specs.Text.{step_text, spaced_text, action_text}
use Rattle.act_core.specs.declared.step.Step.{Step}
use Rattle.act_core.specs.declared.action.Action.{Action}
use Rattle.act_core.specs.declared.action.Action.TheVariants as action_of
use Rattle.act_parse.specs.declared.fault.ActionFault.TheVariants.{Syntax}
use Rattle.act_parse.specs.declared.keyword.Keyword.{Keyword}
use Rattle.act_parse.specs.declared.keyword.Block.{Block}
use Rattle.act_parse.specs.declared.keyword.Block.TheVariants as block
use Rattle.act_parse.specs.declared.wanted.Wanted.TheVariants as wanted
use Rattle.act_parse.specs.inner.Token.{is_at, is_in_word, word, after_word}
use Rattle.act_parse.specs.inner.Keyword.{keyword_of, block_name, block_of, blocks, is_block_name, block_action}
use Rattle.act_parse.specs.inner.Wanted.{begins_word, begins_block, begins_step, can_end, begins}
use Rattle.act_parse.specs.inner.Reading as reading
use Rattle.act_parse.specs.inner.Reading.{Reading, and_then, token, tokens, ended, answer, answer_of}
use Rattle.act_parse.specs.inner.Reading.Reading.{Read, Stuck}
use Rattle.act_parse.proofs.TakesTokens.{same_bytes, find_passes}
use Rattle.act_parse.proofs.TakesActions.{spaced_takes}
use Rattle.act_parse.proofs.Ends.{any_some, only_words}
use Rattle.act_parse.proofs.Begins.{at_front, any_found}
use Rattle.act_parse.proofs.ViableActions.{another_takes, reading_stops}
use Rattle.act_parse.proofs.Local.{Both, turned, both_bytes, some_byte, agree_pure, Sized, Agree, Local, pure_local, sized_pure, sized_stuck, then_local, sized_then, agree_then, at_same, like, token_local, tokens_local, ended_local}
use Rattle.act_parse.proofs.Leaf.{leaf, leaf_local, seen, run_leaf}
use Rattle.act_parse.proofs.LocalFields.{Start, start_from, start_of, started, started_local, start_begins, name_inside, step_inside, step_local}

spaced_local : Local reading.spaced_step
spaced_local = then_local (reading.step wanted.Step) (λ s rest. and_then (token (codes " ") rest) (λ _ rest. Read s rest)) step_local (λ s. then_local (token (codes " ")) (λ _ rest. Read s rest) (token_local (codes " ")) (λ u. pure_local s))

-- { Step " " }
steps_sized : (n : ℕ) (before : List Step) (text : List ℕ) → Sized (reading.steps n before text) text
steps_sized zero before text = sized_pure before text
steps_sized (suc n) before text = go (is_at (codes "}") text) (λ s mid. steps_sized n (before ++ s ∷ []) mid)
  where
    go : (b : Bool) → ((s : Step) (mid : List ℕ) → Sized (reading.steps n (before ++ s ∷ []) mid) mid) → Sized (cond b (Read before text) (and_then (reading.spaced_step text) (λ s rest. reading.steps n (before ++ s ∷ []) rest))) text
    go true later = sized_pure before text
    go false later = sized_then (reading.spaced_step text) (λ s rest. reading.steps n (before ++ s ∷ []) rest) text (spaced_local.sized text) (λ s mid e. later s mid)

fewer_bytes : (n : ℕ) (text mid : List ℕ) (s : Step) → reading.spaced_step text ≡ Read s mid → length text ≤ suc n → length mid ≤ n
fewer_bytes n text mid s e small = omega (arith, ap length (spaced_takes text s mid e).0, length-append (spaced_text s) mid, length-append (step_text s) (codes " "), small)

-- texts that are within their bounds
steps_agree : (n m : ℕ) (before : List Step) (text other rest others : List ℕ) → length text ≤ n → length other ≤ m → Both text other rest others → Agree (reading.steps n before text) (reading.steps m before other) rest others
steps_agree zero m before text other rest others small small2 both = absurd (some_byte text other rest others both small)
steps_agree (suc n) zero before text other rest others small small2 both = absurd (some_byte other text others rest (turned text other rest others both) small2)
steps_agree (suc n) (suc m) before text other rest others small small2 both =
    subst (λ (b : Bool). Agree (reading.steps (suc n) before text) (cond b (Read before other) (and_then (reading.spaced_step other) (λ s rest. reading.steps m (before ++ s ∷ []) rest))) rest others) (sym (at_same 125 text other rest others both))
    (go (is_at (codes "}") text) (λ s mid mid2 e f inner. steps_agree n m (before ++ s ∷ []) mid mid2 rest others (fewer_bytes n text mid s e small) (fewer_bytes m other mid2 s f small2) inner))
  where
    go : (b : Bool)
        → ((s : Step) (mid mid2 : List ℕ) → reading.spaced_step text ≡ Read s mid → reading.spaced_step other ≡ Read s mid2 → Both mid mid2 rest others → Agree (reading.steps n (before ++ s ∷ []) mid) (reading.steps m (before ++ s ∷ []) mid2) rest others)
        → Agree (cond b (Read before text) (and_then (reading.spaced_step text) (λ s rest. reading.steps n (before ++ s ∷ []) rest))) (cond b (Read before other) (and_then (reading.spaced_step other) (λ s rest. reading.steps m (before ++ s ∷ []) rest))) rest others
    go true later = agree_pure before text other rest others both
    go false later =
        agree_then (reading.spaced_step text) (reading.spaced_step other) (λ s rest. reading.steps n (before ++ s ∷ []) rest) (λ s rest. reading.steps m (before ++ s ∷ []) rest) rest others
        (spaced_local.agree text other rest others both) (λ s mid e. steps_sized n (before ++ s ∷ []) mid) later

all_steps_local : Local reading.all_steps
all_steps_local = then_local reading.spaced_step (λ s rest. reading.steps (suc (length rest)) (s ∷ []) rest) spaced_local more
  where
    more : (s : Step) → Local (λ rest. reading.steps (suc (length rest)) (s ∷ []) rest)
    more s = record {
      sized = λ text. steps_sized (suc (length text)) (s ∷ []) text;
      agree = λ text other rest others both. steps_agree (suc (length text)) (suc (length other)) (s ∷ []) text other rest others (omega arith) (omega arith) both;
    }

block_local : Local reading.block
block_local =
    then_local (tokens (codes " " ∷ codes "{" ∷ codes " " ∷ [])) (λ _ rest. and_then (reading.all_steps rest) (λ ss rest. ended ss (codes "}" ∷ codes ";" ∷ []) rest)) (tokens_local (codes " " ∷ codes "{" ∷ codes " " ∷ []))
    (λ u. then_local reading.all_steps (λ ss rest. ended ss (codes "}" ∷ codes ";" ∷ []) rest) all_steps_local (λ ss. ended_local ss (codes "}" ∷ codes ";" ∷ [])))

-- what an action begins with
data Lead : Type 0 where
  ByBlock : Block → Lead
  ByStart : Start → Lead

abbrev lead_from : Option Block → Option Start → Option Lead
lead_from None None = None
lead_from None (Some s) = Some (ByStart s)
lead_from (Some k) o = Some (ByBlock k)

abbrev lead_of : List ℕ → Option Lead
lead_of w = lead_from (block_of w) (start_of w)

abbrev led : Lead → List ℕ → Reading Action
led (ByBlock k) rest = and_then (reading.block rest) (λ ss rest. Read (block_action k ss) rest)
led (ByStart s) rest = and_then (started s rest) (λ s rest. Read (action_of.Step s) rest)

led_local : (l : Lead) → Local (led l)
led_local (ByBlock k) = then_local reading.block (λ ss rest. Read (block_action k ss) rest) block_local (λ ss. pure_local (block_action k ss))
led_local (ByStart s) = then_local (started s) (λ s rest. Read (action_of.Step s) rest) (started_local s) (λ s. pure_local (action_of.Step s))

lead_begins : (w : List ℕ) (l : Lead) (k : ℕ) → lead_of w ≡ Some l → begins_word wanted.Action (take k w) ≡ true
lead_begins w l k e = go (block_of w) (start_of w) refl refl e
  where
    go : (o : Option Block) (p : Option Start) → block_of w ≡ o → start_of w ≡ p → lead_from o p ≡ Some l → begins_word wanted.Action (take k w) ≡ true
    go None None is also e = absurd (cc)
    go None (Some s) is also e = or_right (begins_block (take k w)) (begins_step (take k w)) (start_begins w s k also)
    go (Some j) p is also e =
        or_left (begins_block (take k w)) (begins_step (take k w))
        (any_found (λ i. is_block_name i w) (λ i. is_at (take k w) (block_name i)) blocks j is (ap (is_at (take k w)) (same_bytes (block_name j) w (find_passes (λ i. is_block_name i w) blocks j is)) ∙ at_front k w))

block_inside : (k : Block) → list_all is_in_word (block_name k) ≡ true
block_inside block.Arp = refl
block_inside _ = refl

lead_inside : (xs : List ℕ) → begins_word wanted.Action xs ≡ true → list_all is_in_word xs ≡ true
lead_inside xs e = elim (or_cases (begins_block xs) (begins_step xs) e) as (λ _. list_all is_in_word xs ≡ true) [
  | inl word ↦ let k = any_some (λ k. is_at xs (block_name k)) blocks word in name_inside xs (block_name k.0) k.1 (block_inside k.0)
  | inr step ↦ step_inside xs step
]

by_start : (text : List ℕ) (o : Option Keyword) (p : Option Field) → field_of (word text) ≡ p
    → and_then (reading.step_by wanted.Action text o) (λ s rest. Read (action_of.Step s) rest) ≡ leaf {K = Lead} (begins wanted.Action) led text (option_map (λ s. (s, after_word text)) (lead_from None (start_from o p)))
by_start text None None is = ap (λ q. and_then (reading.step_by_field wanted.Action text q) (λ s rest. Read (action_of.Step s) rest)) is
by_start text None (Some f) is = ap (λ q. and_then (reading.step_by_field wanted.Action text q) (λ s rest. Read (action_of.Step s) rest)) is
by_start text (Some k) p is = refl

action_same : (text : List ℕ) (o : Option Block) → reading.action_by text o ≡ leaf {K = Lead} (begins wanted.Action) led text (option_map (λ s. (s, after_word text)) (lead_from o (start_of (word text))))
action_same text None = by_start text (keyword_of (word text)) (field_of (word text)) refl
action_same text (Some k) = refl

action_local : Local reading.action
action_local =
    like reading.action (λ text. leaf (begins wanted.Action) led text (seen is_in_word lead_of text)) (λ text. action_same text (block_of (word text)))
    (leaf_local (seen is_in_word lead_of) (begins wanted.Action) led
    (run_leaf is_in_word lead_of (begins wanted.Action)
    (λ w l k e some le. or_left (begins_word wanted.Action (take k w)) (can_end wanted.Action (take k w)) (lead_begins w l k e))
    (λ xs e. lead_inside xs (only_words wanted.Action xs (λ text. refl) e)))
    led_local)

another_local : Local reading.another
another_local = then_local (token (codes " ")) (λ _ rest. reading.action rest) (token_local (codes " ")) (λ u. action_local)

-- { " " Action } up to the end of the text
actions_sized : (n : ℕ) (before : List Action) (text : List ℕ) → Sized (reading.actions n before text) text
actions_sized n before [] = sized_pure before []
actions_sized zero before (b ∷ bs) = sized_stuck (b ∷ bs)
actions_sized (suc n) before (b ∷ bs) = sized_then (reading.another (b ∷ bs)) (λ a rest. reading.actions n (before ++ a ∷ []) rest) (b ∷ bs) (another_local.sized (b ∷ bs)) (λ a mid e. actions_sized n (before ++ a ∷ []) mid)

fewer_left : (n : ℕ) (text mid : List ℕ) (a : Action) → reading.another text ≡ Read a mid → length text ≤ suc n → length mid ≤ n
fewer_left n text mid a e small = omega (arith, ap length (another_takes text a mid e).0, length-append (action_text a) mid, small)

actions_agree : (n m : ℕ) (before : List Action) (text other rest others : List ℕ) → length text ≤ n → length other ≤ m → Both text other rest others → Agree (reading.actions n before text) (reading.actions m before other) rest others
actions_agree zero m before text other rest others small small2 both = absurd (some_byte text other rest others both small)
actions_agree (suc n) zero before text other rest others small small2 both = absurd (some_byte other text others rest (turned text other rest others both) small2)
actions_agree (suc n) (suc m) before [] other rest others small small2 both = absurd (some_byte [] other rest others both (omega arith))
actions_agree (suc n) (suc m) before (b ∷ bs) [] rest others small small2 both = absurd (some_byte [] (b ∷ bs) others rest (turned (b ∷ bs) [] rest others both) (omega arith))
actions_agree (suc n) (suc m) before (b ∷ bs) (c ∷ cs) rest others small small2 both =
    agree_then (reading.another (b ∷ bs)) (reading.another (c ∷ cs)) (λ a rest. reading.actions n (before ++ a ∷ []) rest) (λ a rest. reading.actions m (before ++ a ∷ []) rest) rest others
    (another_local.agree (b ∷ bs) (c ∷ cs) rest others both) (λ a mid e. actions_sized n (before ++ a ∷ []) mid)
    (λ a mid mid2 e f inner. actions_agree n m (before ++ a ∷ []) mid mid2 rest others (fewer_left n (b ∷ bs) mid a e small) (fewer_left m (c ∷ cs) mid2 a f small2) inner)

reading_agrees : (text other rest others : List ℕ) → Both text other rest others → Agree (reading.reading text) (reading.reading other) rest others
reading_agrees [] other rest others both = absurd (some_byte [] other rest others both (omega arith))
reading_agrees (b ∷ bs) [] rest others both = absurd (some_byte [] (b ∷ bs) others rest (turned (b ∷ bs) [] rest others both) (omega arith))
reading_agrees (b ∷ bs) (c ∷ cs) rest others both =
    agree_then (reading.action (b ∷ bs)) (reading.action (c ∷ cs)) (λ a rest. reading.actions (length rest) (a ∷ []) rest) (λ a rest. reading.actions (length rest) (a ∷ []) rest) rest others
    (action_local.agree (b ∷ bs) (c ∷ cs) rest others both) (λ a mid e. actions_sized (length mid) (a ∷ []) mid)
    (λ a mid mid2 e f inner. actions_agree (length mid) (length mid2) (a ∷ []) mid mid2 rest others (omega arith) (omega arith) inner)

pub stays : (text other rest others : List ℕ) (p : ℕ) → Both text other rest others → p + length rest < length text → answer text ≡ Err (Syntax p) → answer other ≡ Err (Syntax p)
stays text other rest others p both far e = go (reading.reading text) refl e
  where
    go : (r : Reading (List Action)) → reading.reading text ≡ r → answer_of (length text) r ≡ Err (Syntax p) → answer other ≡ Err (Syntax p)
    go (Read all end) is e = absurd (cc)
    go (Stuck left) is e =
        let at : length text - left ≡ p = cc in
        let v = reading_stops text left is in
        let within : left ≤ length text = omega (arith, ap length v.whole, length-append v.front v.after, v.size) in
        let d = both_bytes text other rest others both in
        let place : left ≡ length rest + suc (left - length rest - 1) = omega (arith, at, within, far) in
        let there = (reading_agrees text other rest others both).stop (left - length rest - 1) (is ∙ ap (λ (n : ℕ). Stuck n) place) in
        let same : length other - (length others + suc (left - length rest - 1)) ≡ p = omega (arith, at, within, far, d.1, d.2) in
        ap (answer_of (length other)) there ∙ ap (λ (n : ℕ). Err (Syntax n)) same
