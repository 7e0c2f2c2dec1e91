-- What is written of a well-formed list is read as that list.
use Rattle.std.proofs.Common.{◌≡◌, ℕ, suc, zero, ◌≤◌, true, false, cond, List, [], ◌∷◌, ◌++◌, length, None, Ok, codes, refl, ap, sym, subst, ◌∙◌, arith, append_assoc, length-append}
use Rattle.std.specs.List.{list_all}
use Rattle.std.proofs.lemmas.Bool.{and_parts, false≢true}
use Rattle.std.proofs.lemmas.List.{append-nil}
use Rattle.nv_base.specs.Field.{field_name, all_fields}
use Rattle.nv_base.specs.declared.field.Field.{Field}
use Rattle.nv_base.specs.declared.field.Field.TheVariants as field
use Rattle.expr_core.specs.declared.part.Bits.{Bits}
use Rattle.expr_core.specs.declared.part.Bits.TheVariants.{Whole, Bit, Range}
use Rattle.expr_core.specs.Text.{bits_text}
use Rattle.act_core.specs.Text.{joined, part_text, step_text, spaced_text, action_text, actions_text}
use Rattle.act_core.specs.WellFormed.{is_step, is_block, is_action, is_well_formed}
use Rattle.act_core.specs.declared.step.Step.{Step}
use Rattle.act_core.specs.declared.step.Step.TheVariants.{Next, Jump, Output, Drop, Set, Copy, SetOutport, Exchange, DecTtl, CtNext, CtLb, CtLbTo, CtCommit, CtSnat, CtSnatTo, CtDnat, CtDnatTo, PutArp, GetArp}
use Rattle.act_core.specs.declared.action.Action.{Action}
use Rattle.act_core.specs.declared.action.Action.TheVariants as action_of
use Rattle.act_parse.specs.inner.Token.{is_in_word, word, is_at}
use Rattle.act_parse.specs.inner.Keyword.{block_of, blocks, keywords}
use Rattle.act_parse.specs.inner.Reading as reading
use Rattle.act_parse.specs.inner.Reading.{answer, answer_of}
use Rattle.act_parse.specs.inner.Reading.Reading.{Read, Stuck}
use Rattle.act_parse.proofs.Written.{word_is, no_block}
use Rattle.act_parse.proofs.LocalTokens.{field_inside}
use Rattle.act_parse.specs.declared.wanted.Wanted.TheVariants as wanted
use Rattle.act_parse.proofs.WrittenSteps.{step_read}

-- what an action without a block begins with, before the rest
abbrev Leads : List ℕ → Type 0
Leads text = (is_at (codes "}") text ≡ false) × (block_of (word text) ≡ None)

no_brace : (f : Field) (r : List ℕ) → is_at (codes "}") (field_name f ++ r) ≡ false
no_brace field.Inport r = refl
no_brace _ r = refl

field_leads : (f : Field) (b : ℕ) (r : List ℕ) → is_in_word b ≡ false → Leads (field_name f ++ b ∷ r)
field_leads f b r apart = (no_brace f (b ∷ r), ap block_of (word_is (field_name f) b r (field_inside f) apart) ∙ no_block f)

part_leads : (f : Field) (b : Bits) (r : List ℕ) → Leads ((field_name f ++ bits_text b) ++ 32 ∷ r)
part_leads f b r = subst Leads (sym (append_assoc (field_name f) (bits_text b) (32 ∷ r))) (go b)
  where
    go : (t : Bits) → Leads (field_name f ++ (bits_text t ++ 32 ∷ r))
    go Whole = field_leads f 32 r refl
    go (Bit n) = field_leads f 91 _ refl
    go (Range m n) = field_leads f 91 _ refl

four_pieces : (a b c d e : List ℕ) → (((a ++ b) ++ c) ++ d) ++ e ≡ a ++ (b ++ (c ++ (d ++ e)))
four_pieces a b c d e = simp append_assoc refl

step_leads : (s : Step) (rest : List ℕ) → Leads (step_text s ++ rest)
unfolding blocks
step_leads Next rest = (refl, refl)
step_leads (Jump egress n) rest = (refl, refl)
step_leads Output rest = (refl, refl)
step_leads Drop rest = (refl, refl)
step_leads (Set f b c) rest = subst Leads (sym (four_pieces (part_text f b) (codes " = ") _ (codes ";") rest)) (part_leads f b _)
step_leads (Copy f b g) rest = subst Leads (sym (four_pieces (part_text f b) (codes " = ") _ (codes ";") rest)) (part_leads f b _)
step_leads (SetOutport name) rest = (refl, refl)
step_leads (Exchange f g) rest = subst Leads (sym (four_pieces (field_name f) (codes " <-> ") (field_name g) (codes ";") rest)) (field_leads f 32 _ refl)
step_leads DecTtl rest = (refl, refl)
step_leads CtNext rest = (refl, refl)
step_leads CtLb rest = (refl, refl)
step_leads (CtLbTo ts) rest = (refl, refl)
step_leads (CtCommit b) rest = (refl, refl)
step_leads CtSnat rest = (refl, refl)
step_leads (CtSnatTo a) rest = (refl, refl)
step_leads CtDnat rest = (refl, refl)
step_leads (CtDnatTo a) rest = (refl, refl)
step_leads PutArp rest = (refl, refl)
step_leads GetArp rest = (refl, refl)

spaced_read : (s : Step) (rest : List ℕ) → is_step s ≡ true → reading.spaced_step (spaced_text s ++ rest) ≡ Read s rest
spaced_read s rest good =
    ap reading.spaced_step (append_assoc (step_text s) (codes " ") rest)
    ∙ ap (λ x. reading.and_then x (λ s rest. reading.and_then (reading.token (codes " ") rest) (λ _ rest. Read s rest))) (step_read s good wanted.Step (32 ∷ rest))

-- the steps of a block after the first, and its end
abbrev tail_text : List Step → List ℕ → List ℕ
tail_text ss rest = joined spaced_text [] [] ss ++ 125 ∷ rest

steps_read : (n : ℕ) (before ss : List Step) (rest : List ℕ) → length ss ≤ n → list_all is_step ss ≡ true → reading.steps n before (tail_text ss rest) ≡ Read (before ++ ss) (125 ∷ rest)
steps_read zero before [] rest few good = ap (λ us. Read us (125 ∷ rest)) (sym (append-nil before))
steps_read (suc n) before [] rest few good = ap (λ us. Read us (125 ∷ rest)) (sym (append-nil before))
steps_read zero before (s ∷ ss) rest few good = absurd (omega (arith, few))
steps_read (suc n) before (s ∷ ss) rest few good =
    let goods = and_parts (is_step s) (list_all is_step ss) good in
    let text : (spaced_text s ++ joined spaced_text [] [] ss) ++ 125 ∷ rest ≡ spaced_text s ++ tail_text ss rest = append_assoc (spaced_text s) (joined spaced_text [] [] ss) (125 ∷ rest) in
    let leads : is_at (codes "}") (spaced_text s ++ tail_text ss rest) ≡ false = subst (λ (xs : List ℕ). is_at (codes "}") xs ≡ false) (sym (append_assoc (step_text s) (codes " ") (tail_text ss rest))) (step_leads s (32 ∷ tail_text ss rest)).0 in
    ap (reading.steps (suc n) before) text
    ∙ ap (λ b. cond b (Read before (spaced_text s ++ tail_text ss rest)) (reading.and_then (reading.spaced_step (spaced_text s ++ tail_text ss rest)) (λ s rest. reading.steps n (before ++ s ∷ []) rest))) leads
    ∙ ap (λ x. reading.and_then x (λ s rest. reading.steps n (before ++ s ∷ []) rest)) (spaced_read s (tail_text ss rest) goods.0)
    ∙ steps_read n (before ++ s ∷ []) ss rest (omega (arith, few)) goods.1
    ∙ ap (λ us. Read us (125 ∷ rest)) (append_assoc before (s ∷ []) ss)

many_bytes : (ss : List Step) (rest : List ℕ) → length ss ≤ length (tail_text ss rest)
many_bytes [] rest = omega arith
many_bytes (s ∷ ss) rest = omega (arith, many_bytes ss rest, length-append (spaced_text s ++ joined spaced_text [] [] ss) (125 ∷ rest), length-append (spaced_text s) (joined spaced_text [] [] ss), length-append (joined spaced_text [] [] ss) (125 ∷ rest), length-append (step_text s) (codes " "))

block_read : (ss : List Step) (rest : List ℕ) → is_block ss ≡ true → reading.block (codes " { " ++ (joined spaced_text [] [] ss ++ 125 ∷ 59 ∷ rest)) ≡ Read ss rest
block_read [] rest good = absurd (false≢true good)
block_read (s ∷ ss) rest good =
    let goods = and_parts (is_step s) (list_all is_step ss) good in
    let text : (spaced_text s ++ joined spaced_text [] [] ss) ++ 125 ∷ 59 ∷ rest ≡ spaced_text s ++ tail_text ss (59 ∷ rest) = append_assoc (spaced_text s) (joined spaced_text [] [] ss) (125 ∷ 59 ∷ rest) in
    ap (λ xs. reading.block (codes " { " ++ xs)) text
    ∙ ap (λ x. reading.and_then (reading.and_then x (λ s rest. reading.steps (suc (length rest)) (s ∷ []) rest)) (λ ss rest. reading.ended ss (codes "}" ∷ codes ";" ∷ []) rest)) (spaced_read s (tail_text ss (59 ∷ rest)) goods.0)
    ∙ ap (λ x. reading.and_then x (λ ss rest. reading.ended ss (codes "}" ∷ codes ";" ∷ []) rest)) (steps_read (suc (length (tail_text ss (59 ∷ rest)))) (s ∷ []) ss (59 ∷ rest) (omega (arith, many_bytes ss (59 ∷ rest))) goods.1)

pieces : (a b c d e : List ℕ) → (((a ++ b) ++ c) ++ d) ++ e ≡ a ++ (b ++ (c ++ (d ++ e)))
pieces a b c d e = simp append_assoc refl

-- a whole action, whatever follows
action_read : (a : Action) (rest : List ℕ) → is_action a ≡ true → reading.action (action_text a ++ rest) ≡ Read a rest
unfolding blocks
action_read (action_of.Step s) rest good =
    ap (reading.action_by (step_text s ++ rest)) (step_leads s rest).1
    ∙ ap (λ x. reading.and_then x (λ s rest. Read (action_of.Step s) rest)) (step_read s good wanted.Action rest)
action_read (action_of.Arp ss) rest good =
    ap reading.action (pieces (codes "arp") (codes " { ") (joined spaced_text [] [] ss) (codes "};") rest)
    ∙ ap (λ x. reading.and_then x (λ ss rest. Read (action_of.Arp ss) rest)) (block_read ss rest good)
action_read (action_of.Icmp4 ss) rest good =
    ap reading.action (pieces (codes "icmp4") (codes " { ") (joined spaced_text [] [] ss) (codes "};") rest)
    ∙ ap (λ x. reading.and_then x (λ ss rest. Read (action_of.Icmp4 ss) rest)) (block_read ss rest good)
action_read (action_of.TcpReset ss) rest good =
    ap reading.action (pieces (codes "tcp_reset") (codes " { ") (joined spaced_text [] [] ss) (codes "};") rest)
    ∙ ap (λ x. reading.and_then x (λ ss rest. Read (action_of.TcpReset ss) rest)) (block_read ss rest good)
action_read (action_of.Reject ss) rest good =
    ap reading.action (pieces (codes "reject") (codes " { ") (joined spaced_text [] [] ss) (codes "};") rest)
    ∙ ap (λ x. reading.and_then x (λ ss rest. Read (action_of.Reject ss) rest)) (block_read ss rest good)

-- the actions after the first
abbrev more_text : List Action → List ℕ
more_text more = joined action_text (codes " ") (codes " ") more

actions_read : (n : ℕ) (before more : List Action) → length more ≤ n → list_all is_action more ≡ true → reading.actions n before (more_text more) ≡ Read (before ++ more) []
actions_read n before [] few good = ap (λ us. Read us []) (sym (append-nil before))
actions_read zero before (a ∷ more) few good = absurd (omega (arith, few))
actions_read (suc n) before (a ∷ more) few good =
    let goods = and_parts (is_action a) (list_all is_action more) good in
    ap (λ x. reading.and_then x (λ a rest. reading.actions n (before ++ a ∷ []) rest)) (action_read a (more_text more) goods.0)
    ∙ actions_read n (before ++ a ∷ []) more (omega (arith, few)) goods.1
    ∙ ap (λ us. Read us []) (append_assoc before (a ∷ []) more)

many_more : (more : List Action) → length more ≤ length (more_text more)
many_more [] = omega arith
many_more (a ∷ more) = omega (arith, many_more more, length-append (action_text a) (more_text more))

-- a text that an action begins is not empty
not_empty : (text : List ℕ) (a : Action) (rest : List ℕ) → reading.action text ≡ Read a rest → reading.reading text ≡ reading.and_then (reading.action text) (λ a rest. reading.actions (length rest) (a ∷ []) rest)
unfolding blocks keywords all_fields
not_empty [] a rest e = absurd (cc)
not_empty (b ∷ bs) a rest e = refl

pub list_read : (list : List Action) → is_well_formed list ≡ true → answer (actions_text list) ≡ Ok list
list_read [] good = refl
list_read (a ∷ more) good =
    let goods = and_parts (is_action a) (list_all is_action more) good in
    let text = action_text a ++ more_text more in
    let first = action_read a (more_text more) goods.0 in
    ap (answer_of (length text)) (not_empty text a (more_text more) first
    ∙ ap (λ x. reading.and_then x (λ a rest. reading.actions (length rest) (a ∷ []) rest)) first
    ∙ actions_read (length (more_text more)) (a ∷ []) more (many_more more) goods.1)
