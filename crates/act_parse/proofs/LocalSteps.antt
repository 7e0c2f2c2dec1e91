-- The readings of actions without a block look at one token after another.
use Rattle.std.proofs.Common.{◌≡◌, ℕ, suc, zero, ◌≤◌, Bool, true, false, cond, eqb, List, [], ◌∷◌, ◌++◌, length, drop, Some, None, is_some, codes, refl, ap, arith, inl}
use Rattle.std.proofs.lemmas.List.{length-drop}
use Rattle.nv_base.specs.declared.ip4.Ip4.{Ip4}
use Rattle.act_core.specs.declared.step.Target.{Target}
use Rattle.act_core.specs.declared.step.Step.{Step}
use Rattle.act_core.specs.declared.step.Step.TheVariants.{Next, Jump, Output, Drop, CtNext, CtLb, CtLbTo, CtCommit, PutArp, GetArp}
use Rattle.act_parse.specs.declared.keyword.Keyword.{Keyword}
use Rattle.act_parse.specs.declared.keyword.Keyword.TheVariants as keyword
use Rattle.act_parse.specs.inner.Token.{is_at}
use Rattle.act_parse.specs.inner.Reading as reading
use Rattle.act_parse.specs.inner.Reading.{Reading, and_then, stuck, token, tokens, ended, decimal, ip4, finished}
use Rattle.act_parse.specs.inner.Reading.Reading.{Read}
use Rattle.act_parse.proofs.Local.{Both, turned, some_byte, agree_pure, Sized, Agree, Local, pure_local, sized_pure, then_local, sized_then, agree_then, sized_choice, agree_choice, like, choice_local, pick_local, token_local, tokens_local, ended_local}
use Rattle.act_parse.proofs.LocalTokens.{decimal_local, ip4_local}
use Rattle.std.proofs.lemmas.Bool.{and_parts, eqb-true}

finished_local : (s : Step) → Local (finished s)
finished_local s = ended_local s (codes ";" ∷ [])

pipeline_local : Local reading.pipeline
pipeline_local = pick_local 101 (ended true (codes "egress" ∷ [])) (ended false (codes "ingress" ∷ [])) (ended_local true (codes "egress" ∷ [])) (ended_local false (codes "ingress" ∷ []))

table_local : (egress : Bool) → Local (reading.table egress)
table_local egress =
    then_local (tokens (codes "," ∷ codes " " ∷ codes "table" ∷ codes "=" ∷ [])) (λ _ rest. and_then (decimal 0 256 rest) (λ n rest. ended (Jump egress n) (codes ")" ∷ codes ";" ∷ []) rest))
    (tokens_local (codes "," ∷ codes " " ∷ codes "table" ∷ codes "=" ∷ []))
    (λ u. then_local (decimal 0 256) (λ n rest. ended (Jump egress n) (codes ")" ∷ codes ";" ∷ []) rest) (decimal_local 0 256 (omega arith, inl refl)) (λ n. ended_local (Jump egress n) (codes ")" ∷ codes ";" ∷ [])))

jump_local : Local reading.jump
jump_local =
    then_local (tokens (codes "pipeline" ∷ codes "=" ∷ [])) (λ _ rest. and_then (reading.pipeline rest) reading.table) (tokens_local (codes "pipeline" ∷ codes "=" ∷ []))
    (λ u. then_local reading.pipeline reading.table pipeline_local table_local)

next_local : Local reading.next
next_local = choice_local 40 reading.jump (finished Next) jump_local (finished_local Next)

port_local : (has_port : Bool) (addr : Ip4) → Local (reading.port has_port addr)
port_local true addr =
    then_local (token (codes ":")) (λ _ rest. and_then (decimal 0 65536 rest) (λ n rest. Read (record { addr = addr; port = Some n }) rest)) (token_local (codes ":"))
    (λ u. then_local (decimal 0 65536) (λ n rest. Read (record { addr = addr; port = Some n }) rest) (decimal_local 0 65536 (omega arith, inl refl)) (λ n. pure_local (record { addr = addr; port = Some n })))
port_local false addr = pure_local (record { addr = addr; port = None })

target_local : (has_port : Bool) → Local (reading.target has_port)
target_local has_port = then_local ip4 (reading.port has_port) ip4_local (port_local has_port)

abbrev numbered : Ip4 → List ℕ → Reading Target
numbered addr text = and_then (decimal 0 65536 text) (λ n rest. Read (record { addr = addr; port = Some n }) rest)

colon_there : (c : ℕ) (rest : List ℕ) → is_at (codes ":") (c ∷ rest) ≡ true → eqb 58 c ≡ true
colon_there c rest at = let same : c ≡ 58 = eqb-true c 58 (and_parts (eqb c 58) true at).0 in ap (λ (d : ℕ). eqb 58 d) same

-- a port where a colon is there
port_there : (addr : Ip4) → Local (λ rest. reading.port (is_at (codes ":") rest) addr rest)
port_there addr =
    like (λ rest. reading.port (is_at (codes ":") rest) addr rest) (λ rest. cond (is_at (codes ":") rest) (numbered addr (drop 1 rest)) (Read (record { addr = addr; port = None }) rest)) (λ rest. same rest (is_at (codes ":") rest) refl)
    (choice_local 58 (numbered addr) (λ rest. Read (record { addr = addr; port = None }) rest) (then_local (decimal 0 65536) (λ n rest. Read (record { addr = addr; port = Some n }) rest) (decimal_local 0 65536 (omega arith, inl refl)) (λ n. pure_local (record { addr = addr; port = Some n }))) (pure_local (record { addr = addr; port = None })))
  where
    same : (rest : List ℕ) (b : Bool) → is_at (codes ":") rest ≡ b → reading.port b addr rest ≡ cond b (numbered addr (drop 1 rest)) (Read (record { addr = addr; port = None }) rest)
    same [] true at = absurd (cc)
    same (c ∷ rest) true at = ap (λ (t : Bool). and_then (cond t (Read tt rest) (stuck (c ∷ rest))) (λ _ rest. and_then (decimal 0 65536 rest) (λ n rest. Read (record { addr = addr; port = Some n }) rest))) (colon_there c rest at)
    same rest false at = refl

first_target_local : Local reading.first_target
first_target_local = then_local ip4 (λ addr rest. reading.port (is_at (codes ":") rest) addr rest) ip4_local port_there

-- { "," Target }
targets_sized : (n : ℕ) (has_port : Bool) (before : List Target) (text : List ℕ) → Sized (reading.targets n has_port before text) text
targets_sized zero has_port before text = sized_pure before text
targets_sized (suc n) has_port before text =
    sized_choice 44 (λ xs. and_then (reading.target has_port xs) (λ t rest. reading.targets n has_port (before ++ t ∷ []) rest)) (λ xs. Read before xs) text
    (λ xs. sized_then (reading.target has_port xs) (λ t rest. reading.targets n has_port (before ++ t ∷ []) rest) xs ((target_local has_port).sized xs) (λ t mid e. targets_sized n has_port (before ++ t ∷ []) mid)) (sized_pure before text)

-- texts that are within their bounds
targets_agree : (n m : ℕ) (has_port : Bool) (before : List Target) (text other rest others : List ℕ) → length text ≤ n → length other ≤ m → Both text other rest others
    → Agree (reading.targets n has_port before text) (reading.targets m has_port before other) rest others
targets_agree zero m has_port before text other rest others small small2 both = absurd (some_byte text other rest others both small)
targets_agree (suc n) zero has_port before text other rest others small small2 both = absurd (some_byte other text others rest (turned text other rest others both) small2)
targets_agree (suc n) (suc m) has_port before text other rest others small small2 both =
    agree_choice 44 (λ xs. and_then (reading.target has_port xs) (λ t rest. reading.targets n has_port (before ++ t ∷ []) rest)) (λ xs. Read before xs) (λ xs. and_then (reading.target has_port xs) (λ t rest. reading.targets m has_port (before ++ t ∷ []) rest)) (λ xs. Read before xs) text other rest others both
    (λ xs. sized_then (reading.target has_port xs) (λ t rest. reading.targets n has_port (before ++ t ∷ []) rest) xs ((target_local has_port).sized xs) (λ t mid e. targets_sized n has_port (before ++ t ∷ []) mid))
    (λ next. agree_then (reading.target has_port (drop 1 text)) (reading.target has_port (drop 1 other)) (λ t rest. reading.targets n has_port (before ++ t ∷ []) rest) (λ t rest. reading.targets m has_port (before ++ t ∷ []) rest) rest others
    ((target_local has_port).agree (drop 1 text) (drop 1 other) rest others next) (λ t mid e. targets_sized n has_port (before ++ t ∷ []) mid)
    (λ t mid mid2 e f inner. targets_agree n m has_port (before ++ t ∷ []) mid mid2 rest others
    (less n text mid small (some_byte text other rest others both) (((target_local has_port).sized (drop 1 text)).read t mid e)) (less m other mid2 small2 (some_byte other text others rest (turned text other rest others both)) (((target_local has_port).sized (drop 1 other)).read t mid2 f)) inner))
    (agree_pure before text other rest others both)
  where
    less : (n : ℕ) (text mid : List ℕ) → length text ≤ suc n → (length text ≤ 0 → ⊥) → length mid ≤ length (drop 1 text) → length mid ≤ n
    less n text mid small some short = omega (arith, small, some, short, length-drop 1 text)

all_targets_local : Local reading.all_targets
all_targets_local = then_local reading.first_target (λ t rest. reading.targets (length rest) (is_some t.port) (t ∷ []) rest) first_target_local more
  where
    more : (t : Target) → Local (λ rest. reading.targets (length rest) (is_some t.port) (t ∷ []) rest)
    more t = record {
      sized = λ text. targets_sized (length text) (is_some t.port) (t ∷ []) text;
      agree = λ text other rest others both. targets_agree (length text) (length other) (is_some t.port) (t ∷ []) text other rest others (omega arith) (omega arith) both;
    }

backends_local : Local reading.backends
backends_local =
    then_local (tokens (codes "backends" ∷ codes "=" ∷ [])) (λ _ rest. and_then (reading.all_targets rest) (λ ts rest. ended (CtLbTo ts) (codes ")" ∷ codes ";" ∷ []) rest)) (tokens_local (codes "backends" ∷ codes "=" ∷ []))
    (λ u. then_local reading.all_targets (λ ts rest. ended (CtLbTo ts) (codes ")" ∷ codes ";" ∷ []) rest) all_targets_local (λ ts. ended_local (CtLbTo ts) (codes ")" ∷ codes ";" ∷ [])))

balance_local : Local reading.balance
balance_local = choice_local 40 reading.backends (finished CtLb) backends_local (finished_local CtLb)

commit_local : Local reading.commit
commit_local =
    then_local (tokens (codes " " ∷ codes "{" ∷ codes " " ∷ codes "ct_mark.blocked" ∷ codes " " ∷ codes "=" ∷ codes " " ∷ [])) (λ _ rest. and_then (decimal 0 2 rest) (λ n rest. ended (CtCommit (eqb n 1)) (codes ";" ∷ codes " " ∷ codes "}" ∷ codes ";" ∷ []) rest))
    (tokens_local (codes " " ∷ codes "{" ∷ codes " " ∷ codes "ct_mark.blocked" ∷ codes " " ∷ codes "=" ∷ codes " " ∷ []))
    (λ u. then_local (decimal 0 2) (λ n rest. ended (CtCommit (eqb n 1)) (codes ";" ∷ codes " " ∷ codes "}" ∷ codes ";" ∷ []) rest) (decimal_local 0 2 (omega arith, inl refl))
    (λ n. ended_local (CtCommit (eqb n 1)) (codes ";" ∷ codes " " ∷ codes "}" ∷ codes ";" ∷ [])))

address_local : Local reading.address_or_none
address_local =
    choice_local 40 (λ xs. and_then (ip4 xs) (λ a rest. ended (Some a) (codes ")" ∷ codes ";" ∷ []) rest)) (ended None (codes ";" ∷ []))
    (then_local ip4 (λ a rest. ended (Some a) (codes ")" ∷ codes ";" ∷ []) rest) ip4_local (λ a. ended_local (Some a) (codes ")" ∷ codes ";" ∷ []))) (ended_local None (codes ";" ∷ []))

pub keyword_local : (k : Keyword) → Local (reading.keyword_step k)
keyword_local keyword.Next = next_local
keyword_local keyword.Output = finished_local Output
keyword_local keyword.Drop = finished_local Drop
keyword_local keyword.CtNext = finished_local CtNext
keyword_local keyword.CtLb = balance_local
keyword_local keyword.CtCommit = commit_local
keyword_local keyword.CtSnat = then_local reading.address_or_none (λ a rest. Read (reading.snat_of a) rest) address_local (λ a. pure_local (reading.snat_of a))
keyword_local keyword.CtDnat = then_local reading.address_or_none (λ a rest. Read (reading.dnat_of a) rest) address_local (λ a. pure_local (reading.dnat_of a))
keyword_local keyword.PutArp =
    ended_local PutArp (codes "(" ∷ codes "inport" ∷ codes "," ∷ codes " " ∷ codes "arp.spa" ∷ codes "," ∷ codes " " ∷ codes "arp.sha" ∷ codes ")" ∷ codes ";" ∷ [])
keyword_local keyword.GetArp =
    ended_local GetArp (codes "(" ∷ codes "outport" ∷ codes "," ∷ codes " " ∷ codes "reg0" ∷ codes ")" ∷ codes ";" ∷ [])
