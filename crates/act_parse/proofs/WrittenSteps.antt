-- What is written of a well-formed action without a block is read as that action.
use Rattle.std.proofs.Common.{◌≡◌, ℕ, suc, zero, ◌^◌, ◌≤◌, Bool, true, false, cond, ltb, eqb, ◌&&◌, is_some, is_none, List, [], ◌∷◌, ◌++◌, length, Option, Some, None, codes, refl, ap, sym, subst, ◌∙◌, arith, inl, inr, decimal as decimal_text, append_assoc, length-append}
use Rattle.std.specs.Fmt.{digits}
use Rattle.std.specs.List.{list_all}
use Rattle.std.proofs.lemmas.List.{append-nil}
use Rattle.std.proofs.lemmas.Bool.{and_parts, false≢true, ltb-true, eqb-true, or_cases}
use Rattle.nv_base.specs.Name.{is_quotable}
use Rattle.nv_base.specs.Field.{field_name, field_width, all_fields}
use Rattle.nv_base.specs.Ip4.{ip4_text}
use Rattle.nv_base.specs.declared.ip4.Ip4.{Ip4}
use Rattle.nv_base.specs.declared.field.Field.{Field}
use Rattle.expr_core.specs.declared.part.Bits.{Bits}
use Rattle.expr_core.specs.Text.{const_text, truth_text}
use Rattle.expr_core.specs.declared.part.Bits.TheVariants.{Whole}
use Rattle.act_core.specs.Text.{joined, part_text, target_text, step_text}
use Rattle.act_core.specs.WellFormed.{is_address, is_target, have_ports_or_none, is_step, are_bits_of, fits}
use Rattle.act_core.specs.declared.step.Target.{Target}
use Rattle.act_core.specs.declared.step.Step.{Step}
use Rattle.act_core.specs.declared.step.Step.TheVariants.{Next, Jump, Output, Drop, Set, Copy, SetOutport, Exchange, DecTtl, CtNext, CtLb, CtLbTo, CtCommit, CtSnat, CtSnatTo, CtDnat, CtDnatTo, PutArp, GetArp}
use Rattle.act_parse.specs.inner.Token.{is_at, is_in_decimal, is_in_address}
use Rattle.act_parse.specs.declared.wanted.Wanted.{Wanted}
use Rattle.act_parse.specs.inner.Keyword.{keywords}
use Rattle.act_parse.specs.inner.Reading as reading
use Rattle.act_parse.specs.inner.Reading.Reading.{Read}
use Rattle.act_parse.proofs.Written.{zero_first, decimal_read, ip4_read, name_read, field_read, step_of_part, assigned_read, set_read, copy_read}

-- the step is read, where any or one without a block is wanted
abbrev pub IsRead : Step → Type 0
IsRead s = (w : Wanted) (rest : List ℕ) → reading.step w (step_text s ++ rest) ≡ Read s rest

table_read : (egress : Bool) (n : ℕ) (rest : List ℕ) → ltb n 256 ≡ true → reading.table egress (codes ", table=" ++ (decimal_text n ++ 41 ∷ 59 ∷ rest)) ≡ Read (Jump egress n) rest
table_read egress n rest small = rw (decimal_read 0 256 n 41 (59 ∷ rest) (zero_first n) small (omega (arith, ltb-true n 256 small)) refl) refl

jump_read : (egress : Bool) (n : ℕ) → ltb n 256 ≡ true → IsRead (Jump egress n)
unfolding keywords
jump_read true n small w rest = ap (λ xs. reading.step w (codes "next(pipeline=egress, table=" ++ xs)) (append_assoc (decimal_text n) (codes ");") rest) ∙ table_read true n rest small
jump_read false n small w rest = ap (λ xs. reading.step w (codes "next(pipeline=ingress, table=" ++ xs)) (append_assoc (decimal_text n) (codes ");") rest) ∙ table_read false n rest small

commit_read : (w : Wanted) (n : ℕ) (rest : List ℕ) → ltb n 2 ≡ true → reading.step w (codes "ct_commit { ct_mark.blocked = " ++ (decimal_text n ++ (codes "; };" ++ rest))) ≡ Read (CtCommit (eqb n 1)) rest
unfolding keywords
commit_read w n rest small = rw (decimal_read 0 2 n 59 (codes " };" ++ rest) (zero_first n) small (omega (arith, ltb-true n 2 small)) refl) refl

bit_text : (b : Bool) → truth_text b ≡ decimal_text (cond b 1 0)
unfolding digits
bit_text true = refl
bit_text false = refl

blocked_read : (b : Bool) → IsRead (CtCommit b)
blocked_read true w rest = ap (λ xs. reading.step w (codes "ct_commit { ct_mark.blocked = " ++ (xs ++ (codes "; };" ++ rest)))) (bit_text true) ∙ commit_read w 1 rest refl
blocked_read false w rest = ap (λ xs. reading.step w (codes "ct_commit { ct_mark.blocked = " ++ (xs ++ (codes "; };" ++ rest)))) (bit_text false) ∙ commit_read w 0 rest refl

snat_read : (a : Ip4) → is_address a ≡ true → IsRead (CtSnatTo a)
unfolding keywords
snat_read a good w rest =
    ap (λ xs. reading.step w (codes "ct_snat(" ++ xs)) (append_assoc (ip4_text a) (codes ");") rest)
    ∙ rw (ip4_read a 41 (59 ∷ rest) good refl) refl

dnat_read : (a : Ip4) → is_address a ≡ true → IsRead (CtDnatTo a)
unfolding keywords
dnat_read a good w rest =
    ap (λ xs. reading.step w (codes "ct_dnat(" ++ xs)) (append_assoc (ip4_text a) (codes ");") rest)
    ∙ rw (ip4_read a 41 (59 ∷ rest) good refl) refl

three_pieces : (a b c d : List ℕ) → ((a ++ b) ++ c) ++ d ≡ a ++ (b ++ (c ++ d))
three_pieces a b c d = simp append_assoc refl

-- a value after a part
part_value : (w : Wanted) (f : Field) (b : Bits) (v rest : List ℕ) (s : Step) → are_bits_of (field_width f) b ≡ true → reading.value f b (v ++ 59 ∷ rest) ≡ Read s rest
    → reading.step w ((((part_text f b ++ codes " = ") ++ v) ++ codes ";") ++ rest) ≡ Read s rest
part_value w f b v rest s good reads =
    ap (reading.step w) (pieces (part_text f b) (codes " = ") v (codes ";") rest)
    ∙ step_of_part w f b (61 ∷ 32 ∷ (v ++ 59 ∷ rest)) good ∙ assigned_read f b (v ++ 59 ∷ rest) ∙ reads
  where
    pieces : (a b c d e : List ℕ) → (((a ++ b) ++ c) ++ d) ++ e ≡ a ++ (b ++ (c ++ (d ++ e)))
    pieces a b c d e = simp append_assoc refl

exchange_read : (f g : Field) → eqb (field_width f) (field_width g) ≡ true → IsRead (Exchange f g)
exchange_read f g same w rest =
    let wide : eqb (field_width g) (field_width f) ≡ true = swapped (field_width f) (field_width g) same in
    ap (reading.step w) (pieces (field_name f) (codes " <-> ") (field_name g) (codes ";") rest)
    ∙ ap (λ xs. reading.step w (xs ++ 32 ∷ 60 ∷ 45 ∷ 62 ∷ 32 ∷ (field_name g ++ 59 ∷ rest))) (sym (nothing_more (field_name f)))
    ∙ step_of_part w f Whole (60 ∷ 45 ∷ 62 ∷ 32 ∷ (field_name g ++ 59 ∷ rest)) refl
    ∙ rw (field_read (field_width f) g 59 rest refl wide) refl
  where
    pieces : (a b c d e : List ℕ) → (((a ++ b) ++ c) ++ d) ++ e ≡ a ++ (b ++ (c ++ (d ++ e)))
    pieces a b c d e = simp append_assoc refl

    nothing_more : (xs : List ℕ) → xs ++ [] ≡ xs
    nothing_more [] = refl
    nothing_more (x ∷ xs) = ap (λ ys. x ∷ ys) (nothing_more xs)

    swapped : (m n : ℕ) → eqb m n ≡ true → eqb n m ≡ true
    swapped m n e = let one : m ≡ n = eqb-true m n e in subst (λ (k : ℕ). eqb k m ≡ true) one (subst (λ (k : ℕ). eqb m k ≡ true) (sym one) e)

outport_read : (name : List ℕ) → is_quotable name ≡ true → IsRead (SetOutport name)
unfolding keywords all_fields
outport_read name good w rest =
    ap (λ xs. reading.step w (codes "outport = \"" ++ xs)) (append_assoc name (codes "\";") rest)
    ∙ ap (λ x. reading.and_then x (λ n rest. reading.ended (SetOutport n) (codes "\"" ∷ codes ";" ∷ []) rest)) (name_read name (59 ∷ rest) good)

-- ports in all of the targets, or in none
abbrev has : Bool → Target → Bool
has true t = is_some t.port
has false t = is_none t.port

port_read : (b : Bool) (a : Ip4) (o : Option ℕ) (x : ℕ) (r : List ℕ) → is_in_decimal x ≡ false → is_in_address x ≡ false → is_target (record { addr = a; port = o }) ≡ true → has b (record { addr = a; port = o }) ≡ true
    → reading.target b (target_text (record { addr = a; port = o }) ++ x ∷ r) ≡ Read (record { addr = a; port = o }) (x ∷ r)
port_read true a (Some p) x r apart apart2 good is =
    let tests = and_parts (is_address a) (ltb p (2 ^ 16)) good in
    let text : (ip4_text a ++ 58 ∷ decimal_text p) ++ x ∷ r ≡ ip4_text a ++ 58 ∷ (decimal_text p ++ x ∷ r) = append_assoc (ip4_text a) (58 ∷ decimal_text p) (x ∷ r) in
    ap (reading.target true) text
    ∙ ap (λ y. reading.and_then y (reading.port true)) (ip4_read a 58 (decimal_text p ++ x ∷ r) tests.0 refl)
    ∙ ap (λ y. reading.and_then y (λ n rest. Read (record { addr = a; port = Some n }) rest)) (decimal_read 0 65536 p x r (zero_first p) tests.1 (omega (arith, ltb-true p (2 ^ 16) tests.1)) apart)
port_read true a None x r apart apart2 good is = absurd (false≢true is)
port_read false a (Some p) x r apart apart2 good is = absurd (false≢true is)
port_read false a None x r apart apart2 good is =
    let tests = and_parts (is_address a) true good in
    ap (reading.target false) (append_assoc (ip4_text a) [] (x ∷ r))
    ∙ ap (λ y. reading.and_then y (reading.port false)) (ip4_read a x r tests.0 apart2)

first_read : (a : Ip4) (o : Option ℕ) (x : ℕ) (r : List ℕ) → is_in_decimal x ≡ false → is_in_address x ≡ false → is_at (codes ":") (x ∷ r) ≡ false → is_target (record { addr = a; port = o }) ≡ true
    → reading.first_target (target_text (record { addr = a; port = o }) ++ x ∷ r) ≡ Read (record { addr = a; port = o }) (x ∷ r)
first_read a (Some p) x r apart apart2 other good =
    let tests = and_parts (is_address a) (ltb p (2 ^ 16)) good in
    let text : (ip4_text a ++ 58 ∷ decimal_text p) ++ x ∷ r ≡ ip4_text a ++ 58 ∷ (decimal_text p ++ x ∷ r) = append_assoc (ip4_text a) (58 ∷ decimal_text p) (x ∷ r) in
    ap reading.first_target text
    ∙ ap (λ y. reading.and_then y (λ addr rest. reading.port (is_at (codes ":") rest) addr rest)) (ip4_read a 58 (decimal_text p ++ x ∷ r) tests.0 refl)
    ∙ ap (λ y. reading.and_then y (λ n rest. Read (record { addr = a; port = Some n }) rest)) (decimal_read 0 65536 p x r (zero_first p) tests.1 (omega (arith, ltb-true p (2 ^ 16) tests.1)) apart)
first_read a None x r apart apart2 other good =
    let tests = and_parts (is_address a) true good in
    ap reading.first_target (append_assoc (ip4_text a) [] (x ∷ r))
    ∙ ap (λ y. reading.and_then y (λ addr rest. reading.port (is_at (codes ":") rest) addr rest)) (ip4_read a x r tests.0 apart2)
    ∙ rw other refl

-- the targets after the first, each after a comma, and what ends them
abbrev tail_text : List Target → List ℕ → List ℕ
tail_text ts rest = joined target_text (codes ",") (codes ",") ts ++ 41 ∷ rest

-- a target before others
before_tail : (b : Bool) (t : Target) (ts : List Target) (rest : List ℕ) → is_target t ≡ true → has b t ≡ true → reading.target b (target_text t ++ tail_text ts rest) ≡ Read t (tail_text ts rest)
before_tail b t [] rest good is = port_read b t.addr t.port 41 rest refl refl good is
before_tail b t (u ∷ us) rest good is = port_read b t.addr t.port 44 ((target_text u ++ joined target_text (codes ",") (codes ",") us) ++ 41 ∷ rest) refl refl good is

first_before : (t : Target) (ts : List Target) (rest : List ℕ) → is_target t ≡ true → reading.first_target (target_text t ++ tail_text ts rest) ≡ Read t (tail_text ts rest)
first_before t [] rest good = first_read t.addr t.port 41 rest refl refl refl good
first_before t (u ∷ us) rest good = first_read t.addr t.port 44 ((target_text u ++ joined target_text (codes ",") (codes ",") us) ++ 41 ∷ rest) refl refl refl good

tail_read : (n : ℕ) (b : Bool) (before ts : List Target) (rest : List ℕ) → length ts ≤ n → list_all is_target ts ≡ true → list_all (has b) ts ≡ true → reading.targets n b before (tail_text ts rest) ≡ Read (before ++ ts) (41 ∷ rest)
tail_read zero b before [] rest few good alike = ap (λ us. Read us (41 ∷ rest)) (sym (append-nil before))
tail_read (suc n) b before [] rest few good alike = ap (λ us. Read us (41 ∷ rest)) (sym (append-nil before))
tail_read zero b before (t ∷ ts) rest few good alike = absurd (omega (arith, few))
tail_read (suc n) b before (t ∷ ts) rest few good alike =
    let goods = and_parts (is_target t) (list_all is_target ts) good in
    let alikes = and_parts (has b t) (list_all (has b) ts) alike in
    let text : (target_text t ++ joined target_text (codes ",") (codes ",") ts) ++ 41 ∷ rest ≡ target_text t ++ tail_text ts rest = append_assoc (target_text t) (joined target_text (codes ",") (codes ",") ts) (41 ∷ rest) in
    ap (λ xs. reading.targets (suc n) b before (44 ∷ xs)) text
    ∙ ap (λ y. reading.and_then y (λ t rest. reading.targets n b (before ++ t ∷ []) rest)) (before_tail b t ts rest goods.0 alikes.0)
    ∙ tail_read n b (before ++ t ∷ []) ts rest (omega (arith, few)) goods.1 alikes.1
    ∙ ap (λ us. Read us (41 ∷ rest)) (append_assoc before (t ∷ []) ts)

many_bytes : (ts : List Target) (rest : List ℕ) → length ts ≤ length (tail_text ts rest)
many_bytes [] rest = omega arith
many_bytes (t ∷ ts) rest = omega (arith, many_bytes ts rest, length-append (target_text t ++ joined target_text (codes ",") (codes ",") ts) (41 ∷ rest), length-append (target_text t) (joined target_text (codes ",") (codes ",") ts), length-append (joined target_text (codes ",") (codes ",") ts) (41 ∷ rest))

has_of : (t : Target) (ts : List Target) → have_ports_or_none (t ∷ ts) ≡ true → list_all (has (is_some t.port)) ts ≡ true
has_of t ts e = go t.port refl e
  where
    go : (o : Option ℕ) → t.port ≡ o → have_ports_or_none (t ∷ ts) ≡ true → list_all (has (is_some t.port)) ts ≡ true
    go (Some p) is e = elim (or_cases (list_all (λ u. is_some u.port) (t ∷ ts)) (list_all (λ u. is_none u.port) (t ∷ ts)) e) as (λ _. list_all (has (is_some t.port)) ts ≡ true) [
      | inl all ↦ ap (λ (o : Option ℕ). list_all (has (is_some o)) ts) is ∙ (and_parts (is_some t.port) (list_all (λ u. is_some u.port) ts) all).1
      | inr none ↦ absurd (false≢true (sym (ap (λ (o : Option ℕ). is_none o) is) ∙ (and_parts (is_none t.port) (list_all (λ u. is_none u.port) ts) none).0))
    ]
    go None is e = elim (or_cases (list_all (λ u. is_some u.port) (t ∷ ts)) (list_all (λ u. is_none u.port) (t ∷ ts)) e) as (λ _. list_all (has (is_some t.port)) ts ≡ true) [
      | inl all ↦ absurd (false≢true (sym (ap (λ (o : Option ℕ). is_some o) is) ∙ (and_parts (is_some t.port) (list_all (λ u. is_some u.port) ts) all).0))
      | inr none ↦ ap (λ (o : Option ℕ). list_all (has (is_some o)) ts) is ∙ (and_parts (is_none t.port) (list_all (λ u. is_none u.port) ts) none).1
    ]

balance_read : (ts : List Target) → is_step (CtLbTo ts) ≡ true → IsRead (CtLbTo ts)
unfolding keywords
balance_read [] good w rest = absurd (false≢true good)
balance_read (t ∷ ts) good w rest =
    let outer = and_parts (is_target t && list_all is_target ts) (have_ports_or_none (t ∷ ts)) good in
    let goods = and_parts (is_target t) (list_all is_target ts) outer.0 in
    let text : ((target_text t ++ joined target_text (codes ",") (codes ",") ts) ++ codes ");") ++ rest ≡ target_text t ++ tail_text ts (59 ∷ rest) = three_pieces (target_text t) (joined target_text (codes ",") (codes ",") ts) (codes ");") rest in
    ap (λ xs. reading.step w (codes "ct_lb(backends=" ++ xs)) text
    ∙ ap (λ y. reading.and_then (reading.and_then y (λ t rest. reading.targets (length rest) (is_some t.port) (t ∷ []) rest)) (λ ts rest. reading.ended (CtLbTo ts) (codes ")" ∷ codes ";" ∷ []) rest)) (first_before t ts (59 ∷ rest) goods.0)
    ∙ ap (λ y. reading.and_then y (λ ts rest. reading.ended (CtLbTo ts) (codes ")" ∷ codes ";" ∷ []) rest)) (tail_read (length (tail_text ts (59 ∷ rest))) (is_some t.port) (t ∷ []) ts (59 ∷ rest) (many_bytes ts (59 ∷ rest)) goods.1 (has_of t ts outer.1))

-- each well-formed action without a block is read from its text, whatever follows
pub step_read : (s : Step) → is_step s ≡ true → IsRead s
unfolding keywords all_fields
step_read Next good w rest = refl
step_read (Jump egress n) good w rest = jump_read egress n good w rest
step_read Output good w rest = refl
step_read Drop good w rest = refl
step_read (Set f b c) good w rest =
    let tests = and_parts (are_bits_of (field_width f) b) (fits _ c) good in
    part_value w f b (const_text c) rest (Set f b c) tests.0 (set_read f b c rest tests.1)
step_read (Copy f b g) good w rest =
    let tests = and_parts (are_bits_of (field_width f) b) _ good in
    part_value w f b (field_name g) rest (Copy f b g) tests.0 (copy_read f b g rest tests.1)
step_read (SetOutport name) good w rest = outport_read name good w rest
step_read (Exchange f g) good w rest = exchange_read f g good w rest
step_read DecTtl good w rest = refl
step_read CtNext good w rest = refl
step_read CtLb good w rest = refl
step_read (CtLbTo ts) good w rest = balance_read ts good w rest
step_read (CtCommit b) good w rest = blocked_read b w rest
step_read CtSnat good w rest = refl
step_read (CtSnatTo a) good w rest = snat_read a good w rest
step_read CtDnat good w rest = refl
step_read (CtDnatTo a) good w rest = dnat_read a good w rest
step_read PutArp good w rest = refl
step_read GetArp good w rest = refl
