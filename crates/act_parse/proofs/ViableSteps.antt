-- Where the reading of an action that a keyword begins stops, what is before the place goes on to an action.
use Rattle.std.proofs.Common.{◌≡◌, ℕ, suc, zero, Bool, true, false, cond, ltb, eqb, ◌&&◌, List, [], ◌∷◌, ◌++◌, length, drop, Option, Some, None, is_some, codes, decimal as decimal_text, refl, ap, sym, subst, ◌∙◌}
use Rattle.std.proofs.lemmas.Bool.{and_from}
use Rattle.std.proofs.lemmas.List.{append-nil}
use Rattle.std.specs.List.{list_all}
use Rattle.nv_base.specs.Ip4.{address, ip4_text}
use Rattle.nv_base.specs.declared.ip4.Ip4.{Ip4}
use Rattle.expr_core.specs.Text.{truth_text}
use Rattle.act_core.specs.Text.{joined, pipeline_name, target_text, step_text}
use Rattle.act_core.specs.WellFormed.{is_address, is_target, has_one, have_ports_or_none, is_step}
use Rattle.act_core.specs.declared.step.Target.{Target}
use Rattle.act_core.specs.declared.step.Step.{Step}
use Rattle.act_core.specs.declared.step.Step.TheVariants.{Next, Jump, Output, Drop, CtNext, CtLb, CtLbTo, CtCommit, PutArp, GetArp}
use Rattle.act_parse.specs.declared.keyword.Keyword.{Keyword}
use Rattle.act_parse.specs.declared.keyword.Keyword.TheVariants as keyword
use Rattle.act_parse.specs.inner.Token.{is_at}
use Rattle.act_parse.specs.inner.Keyword.{keyword_name}
use Rattle.act_parse.specs.inner.Reading as reading
use Rattle.act_parse.specs.inner.Reading.{Reading, and_then, token, ended, decimal, ip4, finished}
use Rattle.act_parse.specs.inner.Reading.Reading.{Read, Stuck}
use Rattle.act_parse.proofs.TakesTokens.{at_takes}
use Rattle.act_parse.proofs.TakesSteps.{pipeline_takes, bit, address_part, is_address_if, snat_text, snat_good, dnat_text, dnat_good, has, alike, target_takes, first_target_takes, all_targets_take}
use Rattle.act_parse.proofs.Viable.{Viable, past, among, also, sequel}
use Rattle.act_parse.proofs.Stops.{tokens_stop, ended_stops, token_stops, decimal_stops, ip4_stops}

-- this is what is written of a well-formed action without a block
abbrev pub IsStep : List ℕ → Type 0
IsStep xs = (s : Step) × (xs ≡ step_text s) × (is_step s ≡ true)

finished_stops : (s : Step) (name text : List ℕ) (left : ℕ) → finished s text ≡ Stuck left → name ++ codes ";" ≡ step_text s → is_step s ≡ true → Viable (λ xs. IsStep (name ++ xs)) text left
finished_stops s name text left e whole good = ended_stops s (codes ";" ∷ []) text left e (s, whole, good)

jump_step : (egress : Bool) (n : ℕ) → ltb n 256 ≡ true → IsStep (codes "next(pipeline=" ++ (pipeline_name egress ++ (codes ", table=" ++ (decimal_text n ++ codes ");"))))
jump_step true n good = (Jump true n, refl, good)
jump_step false n good = (Jump false n, refl, good)

table_stops : (egress : Bool) (text : List ℕ) (left : ℕ) → reading.table egress text ≡ Stuck left → Viable (λ xs. IsStep (codes "next(pipeline=" ++ (pipeline_name egress ++ xs))) text left
table_stops egress text left e =
    tokens_stop (codes "," ∷ codes " " ∷ codes "table" ∷ codes "=" ∷ []) text (decimal_text 0 ++ codes ");") (λ _ rest. and_then (decimal 0 256 rest) (λ n rest. ended (Jump egress n) (codes ")" ∷ codes ";" ∷ []) rest)) left e (jump_step egress 0 refl)
    (λ u rest f. decimal_stops 0 256 0 rest (codes ");") (λ n rest. ended (Jump egress n) (codes ")" ∷ codes ";" ∷ []) rest) left f refl refl (λ n low high. jump_step egress n high)
    (λ n rest low high g. ended_stops (Jump egress n) (codes ")" ∷ codes ";" ∷ []) rest left g (jump_step egress n high)))

-- this is the name of a pipeline
abbrev IsPipeline : List ℕ → Type 0
IsPipeline xs = (egress : Bool) × (xs ≡ pipeline_name egress)

pipeline_stops : (text : List ℕ) (left : ℕ) → reading.pipeline text ≡ Stuck left → Viable IsPipeline text left
pipeline_stops text left e = go (is_at (codes "e") text) e
  where
    go : (b : Bool) → cond b (ended true (codes "egress" ∷ []) text) (ended false (codes "ingress" ∷ []) text) ≡ Stuck left → Viable IsPipeline text left
    go true e = ended_stops true (codes "egress" ∷ []) text left e (true, refl)
    go false e = ended_stops false (codes "ingress" ∷ []) text left e (false, refl)

jump_stops : (text : List ℕ) (left : ℕ) → reading.jump text ≡ Stuck left → Viable (λ xs. IsStep (codes "next(" ++ xs)) text left
jump_stops text left e =
    tokens_stop (codes "pipeline" ∷ codes "=" ∷ []) text (codes "ingress, table=" ++ (decimal_text 0 ++ codes ");")) (λ _ rest. and_then (reading.pipeline rest) reading.table) left e (jump_step false 0 refl)
    (λ u rest f. sequel (reading.pipeline rest) reading.table left f
    (λ g. among (codes ", table=" ++ (decimal_text 0 ++ codes ");")) rest left with_table (pipeline_stops rest left g))
    (λ egress more g h. past (pipeline_name egress) more rest left (pipeline_takes rest egress more g) (table_stops egress more left h)))
  where
    with_table : (xs : List ℕ) → IsPipeline xs → IsStep (codes "next(pipeline=" ++ (xs ++ (codes ", table=" ++ (decimal_text 0 ++ codes ");"))))
    with_table xs is = subst (λ (ys : List ℕ). IsStep (codes "next(pipeline=" ++ (ys ++ (codes ", table=" ++ (decimal_text 0 ++ codes ");"))))) (sym is.1) (jump_step is.0 0 refl)

-- what is read after an opening parenthesis, or what `;` ends
opened_stops : (inner : List ℕ → Reading Step) (plain : Step) (name text : List ℕ) (left : ℕ)
    → ((xs : List ℕ) → inner xs ≡ Stuck left → Viable (λ ys. IsStep (name ++ (codes "(" ++ ys))) xs left)
    → name ++ codes ";" ≡ step_text plain → is_step plain ≡ true
    → cond (is_at (codes "(") text) (inner (drop 1 text)) (finished plain text) ≡ Stuck left → Viable (λ xs. IsStep (name ++ xs)) text left
opened_stops inner plain name text left stops whole good e = go (is_at (codes "(") text) refl e
  where
    go : (b : Bool) → is_at (codes "(") text ≡ b → cond b (inner (drop 1 text)) (finished plain text) ≡ Stuck left → Viable (λ xs. IsStep (name ++ xs)) text left
    go true at e = past (codes "(") (drop 1 text) text left (at_takes (codes "(") text at) (stops (drop 1 text) e)
    go false at e = finished_stops plain name text left e whole good

commit_step : (b : Bool) → IsStep (codes "ct_commit { ct_mark.blocked = " ++ (truth_text b ++ codes "; };"))
commit_step b = (CtCommit b, refl, refl)

commit_stops : (text : List ℕ) (left : ℕ) → reading.commit text ≡ Stuck left → Viable (λ xs. IsStep (codes "ct_commit" ++ xs)) text left
commit_stops text left e =
    tokens_stop (codes " " ∷ codes "{" ∷ codes " " ∷ codes "ct_mark.blocked" ∷ codes " " ∷ codes "=" ∷ codes " " ∷ []) text (truth_text false ++ codes "; };") (λ _ rest. and_then (decimal 0 2 rest) (λ n rest. ended (CtCommit (eqb n 1)) (codes ";" ∷ codes " " ∷ codes "}" ∷ codes ";" ∷ []) rest)) left e (commit_step false)
    (λ u rest f. decimal_stops 0 2 0 rest (codes "; };") (λ n rest. ended (CtCommit (eqb n 1)) (codes ";" ∷ codes " " ∷ codes "}" ∷ codes ";" ∷ []) rest) left f refl refl (λ n low high. blocked n high)
    (λ n rest low high g. ended_stops (CtCommit (eqb n 1)) (codes ";" ∷ codes " " ∷ codes "}" ∷ codes ";" ∷ []) rest left g (blocked n high)))
  where
    blocked : (n : ℕ) → ltb n 2 ≡ true → IsStep (codes "ct_commit { ct_mark.blocked = " ++ (decimal_text n ++ codes "; };"))
    blocked n small = (CtCommit (eqb n 1), ap (λ xs. codes "ct_commit { ct_mark.blocked = " ++ (xs ++ codes "; };")) (bit n small), refl)

-- the action of an address in parentheses, or of none
translated_stops : (of : Option Ip4 → Step) (name text : List ℕ) (left : ℕ) → ((o : Option Ip4) → name ++ address_part o ≡ step_text (of o)) → ((o : Option Ip4) → is_address_if o ≡ is_step (of o))
    → and_then (reading.address_or_none text) (λ a rest. Read (of a) rest) ≡ Stuck left → Viable (λ xs. IsStep (name ++ xs)) text left
translated_stops of name text left whole good e =
    sequel (reading.address_or_none text) (λ a rest. Read (of a) rest) left e (λ f. go (is_at (codes "(") text) refl f) (λ a rest f g. absurd (cc))
  where
    step_of : (o : Option Ip4) → is_address_if o ≡ true → IsStep (name ++ address_part o)
    step_of o is = (of o, whole o, sym (good o) ∙ is)

    go : (b : Bool) → is_at (codes "(") text ≡ b → cond b (and_then (ip4 (drop 1 text)) (λ a rest. ended (Some a) (codes ")" ∷ codes ";" ∷ []) rest)) (ended None (codes ";" ∷ []) text) ≡ Stuck left → Viable (λ xs. IsStep (name ++ xs)) text left
    go true at e = past (codes "(") (drop 1 text) text left (at_takes (codes "(") text at)
        (ip4_stops (drop 1 text) (codes ");") (λ a rest. ended (Some a) (codes ")" ∷ codes ";" ∷ []) rest) left e (λ a is. step_of (Some a) is)
        (λ a rest is f. ended_stops (Some a) (codes ")" ∷ codes ";" ∷ []) rest left f (step_of (Some a) is)))
    go false at e = ended_stops None (codes ";" ∷ []) text left e (step_of None refl)

-- this is what is written of a target, whose port is there where it is to be
abbrev IsTarget : Bool → List ℕ → Type 0
IsTarget has_port xs = (t : Target) × (xs ≡ target_text t) × (is_target t ≡ true) × (has has_port t ≡ true)

-- these are what is written of targets, each after a comma
abbrev AreMore : Bool → List ℕ → Type 0
AreMore has_port xs = (more : List Target) × (xs ≡ joined target_text (codes ",") (codes ",") more) × (list_all is_target more ≡ true) × (list_all (has has_port) more ≡ true)

-- these are what is written of the targets of an action
abbrev AreTargets : List ℕ → Type 0
AreTargets xs = (ts : List Target) × (xs ≡ joined target_text [] (codes ",") ts) × (((has_one ts && list_all is_target ts) && have_ports_or_none ts) ≡ true)

some_target : (has_port : Bool) (a : Ip4) → is_address a ≡ true → IsTarget has_port (ip4_text a ++ cond has_port (codes ":" ++ decimal_text 0) [])
some_target true a good = (record { addr = a; port = Some 0 }, refl, and_from _ _ good refl, refl)
some_target false a good = (record { addr = a; port = None }, refl, and_from _ _ good refl, refl)

port_stops : (has_port : Bool) (addr : Ip4) (text : List ℕ) (left : ℕ) → is_address addr ≡ true → reading.port has_port addr text ≡ Stuck left → Viable (λ xs. IsTarget has_port (ip4_text addr ++ xs)) text left
port_stops true addr text left good e =
    token_stops (codes ":") text (decimal_text 0) (λ _ rest. and_then (decimal 0 65536 rest) (λ n rest. Read (record { addr = addr; port = Some n }) rest)) left e (with_port 0 refl)
    (λ u rest f. decimal_stops 0 65536 0 rest [] (λ n rest. Read (record { addr = addr; port = Some n }) rest) left f refl refl
    (λ n low high. subst (λ (ys : List ℕ). IsTarget true (ip4_text addr ++ (codes ":" ++ ys))) (sym (append-nil (decimal_text n))) (with_port n high)) (λ n rest low high g. absurd (cc)))
  where
    with_port : (n : ℕ) → ltb n 65536 ≡ true → IsTarget true (ip4_text addr ++ (codes ":" ++ decimal_text n))
    with_port n small = (record { addr = addr; port = Some n }, refl, and_from _ _ good small, refl)
port_stops false addr text left good e = absurd (cc)

target_stops : (has_port : Bool) (text : List ℕ) (left : ℕ) → reading.target has_port text ≡ Stuck left → Viable (IsTarget has_port) text left
target_stops has_port text left e =
    ip4_stops text (cond has_port (codes ":" ++ decimal_text 0) []) (reading.port has_port) left e (some_target has_port)
    (λ a rest good f. port_stops has_port a rest left good f)

first_target_stops : (text : List ℕ) (left : ℕ) → reading.first_target text ≡ Stuck left → Viable (λ xs. (b : Bool) × IsTarget b xs) text left
first_target_stops text left e =
    ip4_stops text [] (λ addr rest. reading.port (is_at (codes ":") rest) addr rest) left e (λ a good. (false, some_target false a good))
    (λ a rest good f. also rest left (λ xs t. (is_at (codes ":") rest, t)) (port_stops (is_at (codes ":") rest) a rest left good f))

targets_stop : (n : ℕ) (has_port : Bool) (before : List Target) (text : List ℕ) (left : ℕ) → reading.targets n has_port before text ≡ Stuck left → Viable (AreMore has_port) text left
targets_stop zero has_port before text left e = absurd (cc)
targets_stop (suc n) has_port before text left e = go (is_at (codes ",") text) refl e (λ t rest f. targets_stop n has_port (before ++ t ∷ []) rest left f)
  where
    go : (b : Bool) → is_at (codes ",") text ≡ b → cond b (and_then (reading.target has_port (drop 1 text)) (λ t rest. reading.targets n has_port (before ++ t ∷ []) rest)) (Read before text) ≡ Stuck left
        → ((t : Target) (rest : List ℕ) → reading.targets n has_port (before ++ t ∷ []) rest ≡ Stuck left → Viable (AreMore has_port) rest left) → Viable (AreMore has_port) text left
    go false at e later = absurd (cc)
    go true at e later = past (codes ",") (drop 1 text) text left (at_takes (codes ",") text at)
        (sequel (reading.target has_port (drop 1 text)) (λ t rest. reading.targets n has_port (before ++ t ∷ []) rest) left e
        (λ f. also (drop 1 text) left (λ xs t. (t.0 ∷ [], ap (λ ys. 44 ∷ ys) (t.1 ∙ sym (append-nil (target_text t.0))), and_from _ _ t.2 refl, and_from _ _ t.3 refl)) (target_stops has_port (drop 1 text) left f))
        (λ t rest f g. let one = target_takes has_port (drop 1 text) t rest f in
        past (target_text t) rest (drop 1 text) left one.0
        (also rest left (λ xs m. (t ∷ m.0, ap (λ ys. 44 ∷ (target_text t ++ ys)) m.1, and_from _ _ one.1 m.2, and_from _ _ one.2 m.3)) (later t rest g))))

all_targets_stop : (text : List ℕ) (left : ℕ) → reading.all_targets text ≡ Stuck left → Viable AreTargets text left
all_targets_stop text left e =
    sequel (reading.first_target text) (λ t rest. reading.targets (length rest) (is_some t.port) (t ∷ []) rest) left e
    (λ f. also text left (λ xs t. (t.1.0 ∷ [], t.1.1 ∙ sym (append-nil (target_text t.1.0)), and_from _ _ (and_from _ _ t.1.2 refl) (alike t.0 (t.1.0 ∷ []) (and_from _ _ t.1.3 refl)))) (first_target_stops text left f))
    (λ t rest f g. let one = first_target_takes text t rest f in
    past (target_text t) rest text left one.0
    (also rest left (λ xs m. (t ∷ m.0, ap (λ ys. target_text t ++ ys) m.1, and_from _ _ (and_from _ _ one.1 m.2) (alike (is_some t.port) (t ∷ m.0) (and_from _ _ one.2 m.3)))) (targets_stop (length rest) (is_some t.port) (t ∷ []) rest left g)))

abbrev one_target : Target
one_target = record { addr = address 0; port = None }

balance_step : (ts : List Target) → ((has_one ts && list_all is_target ts) && have_ports_or_none ts) ≡ true → IsStep (codes "ct_lb(backends=" ++ (joined target_text [] (codes ",") ts ++ codes ");"))
balance_step ts good = (CtLbTo ts, refl, good)

backends_stop : (text : List ℕ) (left : ℕ) → reading.backends text ≡ Stuck left → Viable (λ xs. IsStep (codes "ct_lb(" ++ xs)) text left
backends_stop text left e =
    tokens_stop (codes "backends" ∷ codes "=" ∷ []) text (joined target_text [] (codes ",") (one_target ∷ []) ++ codes ");") (λ _ rest. and_then (reading.all_targets rest) (λ ts rest. ended (CtLbTo ts) (codes ")" ∷ codes ";" ∷ []) rest)) left e (balance_step (one_target ∷ []) refl)
    (λ u rest f. sequel (reading.all_targets rest) (λ ts rest. ended (CtLbTo ts) (codes ")" ∷ codes ";" ∷ []) rest) left f
    (λ g. among (codes ");") rest left (λ xs ts. (CtLbTo ts.0, ap (λ ys. codes "ct_lb(backends=" ++ (ys ++ codes ");")) ts.1, ts.2)) (all_targets_stop rest left g))
    (λ ts more g h. let took = all_targets_take rest ts more g in
    past (joined target_text [] (codes ",") ts) more rest left took.0 (ended_stops (CtLbTo ts) (codes ")" ∷ codes ";" ∷ []) more left h (balance_step ts took.1))))

pub keyword_stops : (k : Keyword) (text : List ℕ) (left : ℕ) → reading.keyword_step k text ≡ Stuck left → Viable (λ xs. IsStep (keyword_name k ++ xs)) text left
keyword_stops keyword.Next text left e = opened_stops reading.jump Next (codes "next") text left (λ xs f. jump_stops xs left f) refl refl e
keyword_stops keyword.Output text left e = finished_stops Output (codes "output") text left e refl refl
keyword_stops keyword.Drop text left e = finished_stops Drop (codes "drop") text left e refl refl
keyword_stops keyword.CtNext text left e = finished_stops CtNext (codes "ct_next") text left e refl refl
keyword_stops keyword.CtLb text left e = opened_stops reading.backends CtLb (codes "ct_lb") text left (λ xs f. backends_stop xs left f) refl refl e
keyword_stops keyword.CtCommit text left e = commit_stops text left e
keyword_stops keyword.CtSnat text left e = translated_stops reading.snat_of (codes "ct_snat") text left snat_text snat_good e
keyword_stops keyword.CtDnat text left e = translated_stops reading.dnat_of (codes "ct_dnat") text left dnat_text dnat_good e
keyword_stops keyword.PutArp text left e = ended_stops PutArp (codes "(" ∷ codes "inport" ∷ codes "," ∷ codes " " ∷ codes "arp.spa" ∷ codes "," ∷ codes " " ∷ codes "arp.sha" ∷ codes ")" ∷ codes ";" ∷ []) text left e (PutArp, refl, refl)
keyword_stops keyword.GetArp text left e = ended_stops GetArp (codes "(" ∷ codes "outport" ∷ codes "," ∷ codes " " ∷ codes "reg0" ∷ codes ")" ∷ codes ";" ∷ []) text left e (GetArp, refl, refl)
