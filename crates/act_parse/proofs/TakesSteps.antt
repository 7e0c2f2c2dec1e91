-- What is read as an action without a block is what is written of it, and it is well-formed.
use Rattle.std.proofs.Common.{◌≡◌, ℕ, suc, zero, Bool, true, false, cond, ltb, eqb, ◌&&◌, List, [], ◌∷◌, ◌++◌, length, drop, Option, Some, None, is_some, is_none, codes, decimal as decimal_text, refl, ap, sym, subst, ◌∙◌, arith, append_assoc}
use Rattle.std.specs.List.{list_all}
use Rattle.std.specs.Fmt.{digits}
use Rattle.std.proofs.lemmas.Bool.{and_from, or_left, or_right, ltb-true}
use Rattle.nv_base.specs.Ip4.{ip4_text}
use Rattle.nv_base.specs.declared.ip4.Ip4.{Ip4}
use Rattle.expr_core.specs.Text.{truth_text}
use Rattle.act_core.specs.Text.{joined, pipeline_name, target_text, step_text}
use Rattle.act_core.specs.WellFormed.{is_address, is_target, has_one, have_ports_or_none, is_step}
use Rattle.act_core.specs.declared.step.Target.{Target}
use Rattle.act_core.specs.declared.step.Step.{Step}
use Rattle.act_core.specs.declared.step.Step.TheVariants.{Next, Jump, Output, Drop, CtNext, CtLb, CtLbTo, CtCommit, PutArp, GetArp}
use Rattle.act_parse.specs.declared.keyword.Keyword.{Keyword}
use Rattle.act_parse.specs.declared.keyword.Keyword.TheVariants as keyword
use Rattle.act_parse.specs.inner.Token.{is_at}
use Rattle.act_parse.specs.inner.Keyword.{keyword_name}
use Rattle.act_parse.specs.inner.Reading as reading
use Rattle.act_parse.specs.inner.Reading.{Reading, and_then, stuck, token, tokens, ended, decimal, ip4, finished}
use Rattle.act_parse.specs.inner.Reading.Reading.{Read, Stuck}
use Rattle.act_parse.proofs.TakesTokens.{and_then_read, read_same, at_takes, token_takes, tokens_take, ended_is, decimal_takes, ip4_takes}

-- what is before the text, and the text, are the action and the rest
abbrev pub Takes : List ℕ → List ℕ → List ℕ → Step → Type 0
Takes before text rest s = (before ++ text ≡ step_text s ++ rest) × (is_step s ≡ true)

finished_takes : (s t : Step) (before text rest : List ℕ) → finished s text ≡ Read t rest → before ++ codes ";" ≡ step_text s → is_step s ≡ true → Takes before text rest t
finished_takes s t before text rest e whole good =
    ended_is (Takes before text rest) s t (codes ";" ∷ []) text rest e (λ took. (ap (λ xs. before ++ xs) took ∙ sym (append_assoc before (codes ";") rest) ∙ ap (λ xs. xs ++ rest) whole, good))

pub pipeline_takes : (text : List ℕ) (egress : Bool) (rest : List ℕ) → reading.pipeline text ≡ Read egress rest → text ≡ pipeline_name egress ++ rest
pipeline_takes text egress rest e = go (is_at (codes "e") text) e
  where
    go : (b : Bool) → cond b (ended true (codes "egress" ∷ []) text) (ended false (codes "ingress" ∷ []) text) ≡ Read egress rest → text ≡ pipeline_name egress ++ rest
    go true e = ended_is (λ b. text ≡ pipeline_name b ++ rest) true egress (codes "egress" ∷ []) text rest e (λ took. took)
    go false e = ended_is (λ b. text ≡ pipeline_name b ++ rest) false egress (codes "ingress" ∷ []) text rest e (λ took. took)

-- pieces in a row, from the first
three_pieces : (a b c d : List ℕ) → (a ++ (b ++ c)) ++ d ≡ a ++ (b ++ (c ++ d))
three_pieces a b c d = simp append_assoc refl

five_pieces : (a b c d e f : List ℕ) → ((((a ++ b) ++ c) ++ d) ++ e) ++ f ≡ a ++ (b ++ (c ++ (d ++ (e ++ f))))
five_pieces a b c d e f = simp append_assoc refl

table_takes : (egress : Bool) (text : List ℕ) (s : Step) (rest : List ℕ) → reading.table egress text ≡ Read s rest → Takes (codes "next(pipeline=" ++ pipeline_name egress) text rest s
table_takes egress text s rest e =
    let front = and_then_read (tokens (codes "," ∷ codes " " ∷ codes "table" ∷ codes "=" ∷ []) text) (λ _ rest. and_then (decimal 0 256 rest) (λ n rest. ended (Jump egress n) (codes ")" ∷ codes ";" ∷ []) rest)) s rest e in
    let one = tokens_take (codes "," ∷ codes " " ∷ codes "table" ∷ codes "=" ∷ []) text front.1 front.0 front.2 in
    let number = and_then_read (decimal 0 256 front.1) (λ n rest. ended (Jump egress n) (codes ")" ∷ codes ";" ∷ []) rest) s rest front.3 in
    let two = decimal_takes 0 256 front.1 number.0 number.1 number.2 in
    ended_is (Takes (codes "next(pipeline=" ++ pipeline_name egress) text rest) (Jump egress number.0) s (codes ")" ∷ codes ";" ∷ []) number.1 rest number.3
    (λ took. (
      append_assoc (codes "next(pipeline=") (pipeline_name egress) text
          ∙ ap (λ xs. codes "next(pipeline=" ++ (pipeline_name egress ++ xs)) (one ∙ ap (λ xs. codes ", table=" ++ xs) (two.0 ∙ ap (λ xs. decimal_text number.0 ++ xs) took))
          ∙ sym (five_pieces (codes "next(pipeline=") (pipeline_name egress) (codes ", table=") (decimal_text number.0) (codes ");") rest),
      two.2,
    ))

jump_takes : (text : List ℕ) (s : Step) (rest : List ℕ) → reading.jump text ≡ Read s rest → Takes (codes "next(") text rest s
jump_takes text s rest e =
    let front = and_then_read (tokens (codes "pipeline" ∷ codes "=" ∷ []) text) (λ _ rest. and_then (reading.pipeline rest) reading.table) s rest e in
    let one = tokens_take (codes "pipeline" ∷ codes "=" ∷ []) text front.1 front.0 front.2 in
    let name = and_then_read (reading.pipeline front.1) reading.table s rest front.3 in
    let two = pipeline_takes front.1 name.0 name.1 name.2 in
    let three = table_takes name.0 name.1 s rest name.3 in
    (ap (λ xs. codes "next(" ++ xs) (one ∙ ap (λ xs. codes "pipeline=" ++ xs) two) ∙ sym (append_assoc (codes "next(pipeline=") (pipeline_name name.0) name.1) ∙ three.0, three.1)

-- what is read after an opening parenthesis, or what `;` ends
opened : (inner : List ℕ → Reading Step) (plain t : Step) (name text rest : List ℕ)
    → ((xs : List ℕ) → inner xs ≡ Read t rest → Takes (name ++ codes "(") xs rest t)
    → name ++ codes ";" ≡ step_text plain → is_step plain ≡ true
    → cond (is_at (codes "(") text) (inner (drop 1 text)) (finished plain text) ≡ Read t rest → Takes name text rest t
opened inner plain t name text rest takes whole good e = go (is_at (codes "(") text) refl e
  where
    go : (b : Bool) → is_at (codes "(") text ≡ b → cond b (inner (drop 1 text)) (finished plain text) ≡ Read t rest → Takes name text rest t
    go true at e =
        let more = takes (drop 1 text) e in
        (ap (λ xs. name ++ xs) (at_takes (codes "(") text at) ∙ sym (append_assoc name (codes "(") (drop 1 text)) ∙ more.0, more.1)
    go false at e = finished_takes plain t name text rest e whole good

next_takes : (text : List ℕ) (s : Step) (rest : List ℕ) → reading.next text ≡ Read s rest → Takes (codes "next") text rest s
next_takes text s rest e = opened reading.jump Next s (codes "next") text rest (λ xs f. jump_takes xs s rest f) refl refl e

pub bit : (n : ℕ) → ltb n 2 ≡ true → decimal_text n ≡ truth_text (eqb n 1)
unfolding digits
bit zero e = refl
bit (suc zero) e = refl
bit (suc (suc n)) e = absurd (omega (arith, ltb-true (suc (suc n)) 2 e))

commit_takes : (text : List ℕ) (s : Step) (rest : List ℕ) → reading.commit text ≡ Read s rest → Takes (codes "ct_commit") text rest s
commit_takes text s rest e =
    let front = and_then_read (tokens (codes " " ∷ codes "{" ∷ codes " " ∷ codes "ct_mark.blocked" ∷ codes " " ∷ codes "=" ∷ codes " " ∷ []) text) (λ _ rest. and_then (decimal 0 2 rest) (λ n rest. ended (CtCommit (eqb n 1)) (codes ";" ∷ codes " " ∷ codes "}" ∷ codes ";" ∷ []) rest)) s rest e in
    let one = tokens_take (codes " " ∷ codes "{" ∷ codes " " ∷ codes "ct_mark.blocked" ∷ codes " " ∷ codes "=" ∷ codes " " ∷ []) text front.1 front.0 front.2 in
    let number = and_then_read (decimal 0 2 front.1) (λ n rest. ended (CtCommit (eqb n 1)) (codes ";" ∷ codes " " ∷ codes "}" ∷ codes ";" ∷ []) rest) s rest front.3 in
    let two = decimal_takes 0 2 front.1 number.0 number.1 number.2 in
    ended_is (Takes (codes "ct_commit") text rest) (CtCommit (eqb number.0 1)) s (codes ";" ∷ codes " " ∷ codes "}" ∷ codes ";" ∷ []) number.1 rest number.3
    (λ took. (
      ap (λ xs. codes "ct_commit" ++ xs) (one ∙ ap (λ xs. codes " { ct_mark.blocked = " ++ xs) (two.0 ∙ ap (λ xs. xs ++ number.1) (bit number.0 two.2) ∙ ap (λ xs. truth_text (eqb number.0 1) ++ xs) took))
          ∙ sym (three_pieces (codes "ct_commit { ct_mark.blocked = ") (truth_text (eqb number.0 1)) (codes "; };") rest),
      refl,
    ))

-- an address in parentheses, if it is there
abbrev pub address_part : Option Ip4 → List ℕ
address_part None = codes ";"
address_part (Some a) = codes "(" ++ (ip4_text a ++ codes ");")

abbrev pub is_address_if : Option Ip4 → Bool
is_address_if None = true
is_address_if (Some a) = is_address a

address_takes : (text : List ℕ) (o : Option Ip4) (rest : List ℕ) → reading.address_or_none text ≡ Read o rest → (text ≡ address_part o ++ rest) × (is_address_if o ≡ true)
address_takes text o rest e = go (is_at (codes "(") text) refl e
  where
    P : Option Ip4 → Type 0
    P x = (text ≡ address_part x ++ rest) × (is_address_if x ≡ true)

    go : (b : Bool) → is_at (codes "(") text ≡ b → cond b (and_then (ip4 (drop 1 text)) (λ a rest. ended (Some a) (codes ")" ∷ codes ";" ∷ []) rest)) (ended None (codes ";" ∷ []) text) ≡ Read o rest → P o
    go true at e =
        let parts = and_then_read (ip4 (drop 1 text)) (λ a rest. ended (Some a) (codes ")" ∷ codes ";" ∷ []) rest) o rest e in
        let addr = ip4_takes (drop 1 text) parts.0 parts.1 parts.2 in
        ended_is P (Some parts.0) o (codes ")" ∷ codes ";" ∷ []) parts.1 rest parts.3
        (λ took. (at_takes (codes "(") text at ∙ ap (λ xs. codes "(" ++ xs) (addr.0 ∙ ap (λ xs. ip4_text parts.0 ++ xs) took) ∙ sym (three_pieces (codes "(") (ip4_text parts.0) (codes ");") rest), addr.1))
    go false at e = ended_is P None o (codes ";" ∷ []) text rest e (λ took. (took, refl))

translated : (of : Option Ip4 → Step) (name text : List ℕ) (s : Step) (rest : List ℕ) → ((o : Option Ip4) → name ++ address_part o ≡ step_text (of o)) → ((o : Option Ip4) → is_address_if o ≡ is_step (of o))
    → and_then (reading.address_or_none text) (λ a rest. Read (of a) rest) ≡ Read s rest → Takes name text rest s
translated of name text s rest whole good e =
    let parts = and_then_read (reading.address_or_none text) (λ a rest. Read (of a) rest) s rest e in
    let took = address_takes text parts.0 parts.1 parts.2 in
    let same = read_same _ _ _ _ parts.3 in
    subst (Takes name text rest) same.0
    (ap (λ xs. name ++ xs) (took.0 ∙ ap (λ xs. address_part parts.0 ++ xs) same.1) ∙ sym (append_assoc name (address_part parts.0) rest) ∙ ap (λ xs. xs ++ rest) (whole parts.0), sym (good parts.0) ∙ took.1)

pub snat_text : (o : Option Ip4) → codes "ct_snat" ++ address_part o ≡ step_text (reading.snat_of o)
snat_text None = refl
snat_text (Some a) = refl

pub snat_good : (o : Option Ip4) → is_address_if o ≡ is_step (reading.snat_of o)
snat_good None = refl
snat_good (Some a) = refl

pub dnat_text : (o : Option Ip4) → codes "ct_dnat" ++ address_part o ≡ step_text (reading.dnat_of o)
dnat_text None = refl
dnat_text (Some a) = refl

pub dnat_good : (o : Option Ip4) → is_address_if o ≡ is_step (reading.dnat_of o)
dnat_good None = refl
dnat_good (Some a) = refl

-- the port of a target is there where it is to be
abbrev pub has : Bool → Target → Bool
has true t = is_some t.port
has false t = is_none t.port

abbrev pub IsTarget : Bool → List ℕ → List ℕ → Target → Type 0
IsTarget has_port text rest t = (text ≡ target_text t ++ rest) × (is_target t ≡ true) × (has has_port t ≡ true)

port_takes : (has_port : Bool) (addr : Ip4) (text : List ℕ) (t : Target) (rest : List ℕ) → is_address addr ≡ true → reading.port has_port addr text ≡ Read t rest → (whole : List ℕ) → whole ≡ ip4_text addr ++ text → IsTarget has_port whole rest t
port_takes true addr text t rest good e whole is =
    let colon = and_then_read (token (codes ":") text) (λ _ rest. and_then (decimal 0 65536 rest) (λ n rest. Read (record { addr = addr; port = Some n }) rest)) t rest e in
    let one = token_takes (codes ":") text colon.1 colon.0 colon.2 in
    let number = and_then_read (decimal 0 65536 colon.1) (λ n rest. Read (record { addr = addr; port = Some n }) rest) t rest colon.3 in
    let two = decimal_takes 0 65536 colon.1 number.0 number.1 number.2 in
    let same = read_same _ _ _ _ number.3 in
    subst (IsTarget true whole rest) same.0
    (is ∙ ap (λ xs. ip4_text addr ++ xs) (one ∙ ap (λ xs. codes ":" ++ xs) (two.0 ∙ ap (λ xs. decimal_text number.0 ++ xs) same.1)) ∙ sym (three_pieces (ip4_text addr) (codes ":") (decimal_text number.0) rest), and_from _ _ good two.2, refl)
port_takes false addr text t rest good e whole is =
    let same = read_same _ _ _ _ e in
    subst (IsTarget false whole rest) same.0 (is ∙ ap (λ xs. ip4_text addr ++ xs) same.1 ∙ sym (append_assoc (ip4_text addr) [] rest), and_from _ _ good refl, refl)

pub target_takes : (has_port : Bool) (text : List ℕ) (t : Target) (rest : List ℕ) → reading.target has_port text ≡ Read t rest → IsTarget has_port text rest t
target_takes has_port text t rest e =
    let parts = and_then_read (ip4 text) (reading.port has_port) t rest e in
    let addr = ip4_takes text parts.0 parts.1 parts.2 in
    port_takes has_port parts.0 parts.1 t rest addr.1 parts.3 text addr.0

has_some : (b : Bool) (t : Target) → has b t ≡ true → is_some t.port ≡ b
has_some true t e = e
has_some false t e = go t.port e
  where
    go : (o : Option ℕ) → is_none o ≡ true → is_some o ≡ false
    go None e = refl
    go (Some n) e = absurd (cc)

pub first_target_takes : (text : List ℕ) (t : Target) (rest : List ℕ) → reading.first_target text ≡ Read t rest → IsTarget (is_some t.port) text rest t
first_target_takes text t rest e =
    let parts = and_then_read (ip4 text) (λ addr rest. reading.port (is_at (codes ":") rest) addr rest) t rest e in
    let addr = ip4_takes text parts.0 parts.1 parts.2 in
    let took = port_takes (is_at (codes ":") parts.1) parts.0 parts.1 t rest addr.1 parts.3 text addr.0 in
    let P : Bool → Type 0 = λ b. IsTarget b text rest t in
    subst P (sym (has_some (is_at (codes ":") parts.1) t took.2)) took

-- the targets after these, each after a comma
abbrev AreMore : Bool → List Target → List ℕ → List ℕ → List Target → Type 0
AreMore has_port before text rest all = (more : List Target) × (all ≡ before ++ more) × (text ≡ joined target_text (codes ",") (codes ",") more ++ rest) × (list_all is_target more ≡ true) × (list_all (has has_port) more ≡ true)

none_more : (has_port : Bool) (before all : List Target) (text rest : List ℕ) → Read before text ≡ Read all rest → AreMore has_port before text rest all
none_more has_port before all text rest e =
    let same = read_same _ _ _ _ e in
    ([], sym same.0 ∙ sym (append_nil before), same.1, refl, refl)
  where
    append_nil : (xs : List Target) → xs ++ [] ≡ xs
    append_nil [] = refl
    append_nil (x ∷ xs) = ap (λ ys. x ∷ ys) (append_nil xs)

targets_take : (n : ℕ) (has_port : Bool) (before : List Target) (text : List ℕ) (all : List Target) (rest : List ℕ) → reading.targets n has_port before text ≡ Read all rest → AreMore has_port before text rest all
targets_take zero has_port before text all rest e = none_more has_port before all text rest e
targets_take (suc n) has_port before text all rest e = go (is_at (codes ",") text) refl e (λ t left f. targets_take n has_port (before ++ t ∷ []) left all rest f)
  where
    go : (b : Bool) → is_at (codes ",") text ≡ b → cond b (and_then (reading.target has_port (drop 1 text)) (λ t rest. reading.targets n has_port (before ++ t ∷ []) rest)) (Read before text) ≡ Read all rest → ((t : Target) (left : List ℕ) → reading.targets n has_port (before ++ t ∷ []) left ≡ Read all rest → AreMore has_port (before ++ t ∷ []) left rest all) → AreMore has_port before text rest all
    go false at e later = none_more has_port before all text rest e
    go true at e later =
        let parts = and_then_read (reading.target has_port (drop 1 text)) (λ t rest. reading.targets n has_port (before ++ t ∷ []) rest) all rest e in
        let one = target_takes has_port (drop 1 text) parts.0 parts.1 parts.2 in
        let others = later parts.0 parts.1 parts.3 in (
          parts.0 ∷ others.0,
          others.1 ∙ append_assoc before (parts.0 ∷ []) others.0,
          at_takes (codes ",") text at ∙ ap (λ xs. codes "," ++ xs) (one.0 ∙ ap (λ xs. target_text parts.0 ++ xs) others.2) ∙ sym (three_pieces (codes ",") (target_text parts.0) (joined target_text (codes ",") (codes ",") others.0) rest),
          and_from _ _ one.1 others.3,
          and_from _ _ one.2 others.4,
        )

pub alike : (b : Bool) (us : List Target) → list_all (has b) us ≡ true → have_ports_or_none us ≡ true
alike true us e = or_left _ _ e
alike false us e = or_right _ _ e

pub all_targets_take : (text : List ℕ) (ts : List Target) (rest : List ℕ) → reading.all_targets text ≡ Read ts rest → (text ≡ joined target_text [] (codes ",") ts ++ rest) × (((has_one ts && list_all is_target ts) && have_ports_or_none ts) ≡ true)
all_targets_take text ts rest e =
    let parts = and_then_read (reading.first_target text) (λ t rest. reading.targets (length rest) (is_some t.port) (t ∷ []) rest) ts rest e in
    let one = first_target_takes text parts.0 parts.1 parts.2 in
    let others = targets_take (length parts.1) (is_some parts.0.port) (parts.0 ∷ []) parts.1 ts rest parts.3 in
    let P : List Target → Type 0 = λ us. (text ≡ joined target_text [] (codes ",") us ++ rest) × (((has_one us && list_all is_target us) && have_ports_or_none us) ≡ true) in
    subst P (sym others.1) (
      one.0 ∙ ap (λ xs. target_text parts.0 ++ xs) others.2 ∙ sym (append_assoc (target_text parts.0) (joined target_text (codes ",") (codes ",") others.0) rest),
      and_from _ _ (and_from _ _ one.1 others.3) (alike (is_some parts.0.port) (parts.0 ∷ others.0) (and_from _ _ one.2 others.4)),
    )

backends_take : (text : List ℕ) (s : Step) (rest : List ℕ) → reading.backends text ≡ Read s rest → Takes (codes "ct_lb(") text rest s
backends_take text s rest e =
    let front = and_then_read (tokens (codes "backends" ∷ codes "=" ∷ []) text) (λ _ rest. and_then (reading.all_targets rest) (λ ts rest. ended (CtLbTo ts) (codes ")" ∷ codes ";" ∷ []) rest)) s rest e in
    let one = tokens_take (codes "backends" ∷ codes "=" ∷ []) text front.1 front.0 front.2 in
    let list = and_then_read (reading.all_targets front.1) (λ ts rest. ended (CtLbTo ts) (codes ")" ∷ codes ";" ∷ []) rest) s rest front.3 in
    let two = all_targets_take front.1 list.0 list.1 list.2 in
    ended_is (Takes (codes "ct_lb(") text rest) (CtLbTo list.0) s (codes ")" ∷ codes ";" ∷ []) list.1 rest list.3
    (λ took. (
      ap (λ xs. codes "ct_lb(" ++ xs) (one ∙ ap (λ xs. codes "backends=" ++ xs) (two.0 ∙ ap (λ xs. joined target_text [] (codes ",") list.0 ++ xs) took))
          ∙ sym (three_pieces (codes "ct_lb(backends=") (joined target_text [] (codes ",") list.0) (codes ");") rest),
      two.1,
    ))

pub keyword_takes : (k : Keyword) (text : List ℕ) (s : Step) (rest : List ℕ) → reading.keyword_step k text ≡ Read s rest → Takes (keyword_name k) text rest s
keyword_takes keyword.Next text s rest e = next_takes text s rest e
keyword_takes keyword.Output text s rest e = finished_takes Output s (codes "output") text rest e refl refl
keyword_takes keyword.Drop text s rest e = finished_takes Drop s (codes "drop") text rest e refl refl
keyword_takes keyword.CtNext text s rest e = finished_takes CtNext s (codes "ct_next") text rest e refl refl
keyword_takes keyword.CtLb text s rest e = opened reading.backends CtLb s (codes "ct_lb") text rest (λ xs f. backends_take xs s rest f) refl refl e
keyword_takes keyword.CtCommit text s rest e = commit_takes text s rest e
keyword_takes keyword.CtSnat text s rest e = translated reading.snat_of (codes "ct_snat") text s rest snat_text snat_good e
keyword_takes keyword.CtDnat text s rest e = translated reading.dnat_of (codes "ct_dnat") text s rest dnat_text dnat_good e
keyword_takes keyword.PutArp text s rest e = ended_is (Takes (codes "put_arp") text rest) PutArp s (codes "(" ∷ codes "inport" ∷ codes "," ∷ codes " " ∷ codes "arp.spa" ∷ codes "," ∷ codes " " ∷ codes "arp.sha" ∷ codes ")" ∷ codes ";" ∷ []) text rest e (λ took. (ap (λ xs. codes "put_arp" ++ xs) took, refl))
keyword_takes keyword.GetArp text s rest e = ended_is (Takes (codes "get_arp") text rest) GetArp s (codes "(" ∷ codes "outport" ∷ codes "," ∷ codes " " ∷ codes "reg0" ∷ codes ")" ∷ codes ";" ∷ []) text rest e (λ took. (ap (λ xs. codes "get_arp" ++ xs) took, refl))
