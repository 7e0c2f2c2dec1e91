-- What is a match by the rules is read as it.
use Rattle.std.proofs.Common.{◌≡◌, ℕ, zero, suc, ◌+◌, ◌≤◌, if◌then◌else◌, Bool, true, false, List, [], ◌∷◌, ◌++◌, length, length-append, refl, sym, ap, subst, ◌∙◌, append_assoc, append-nil, arith}
use Rattle.expr_core.specs.declared.comparison.Item.TheVariants as item_of
use Rattle.expr_core.specs.declared.comparison.Right.TheVariants as right_of
use Rattle.expr_parse.specs.declared.operator.Operator.TheVariants as operator
use Rattle.expr_parse.proofs.Words.{eq-eqb, le-leb, length-map, Formula, formulas, Leaf, Negation, Const, Item, Rel, Right, Atom, Truth, Bare}
use Rattle.expr_parse.proofs.Words.{Compare, Bits, Whole, Bit, Range, Part, Syntax, Operator, Token, Tokens, Name, Number, Text, AddrSet, Group}
use Rattle.expr_parse.proofs.Words.{Relation, Not, Open, Close, OpenBrace, CloseBrace, OpenBracket, CloseBracket, Comma, Slash, Dots, Reading, Inside}
use Rattle.expr_parse.proofs.Words.{and_then, bits, part_of, part, number, item, items, right, compared, closed, operand, unit, sign, join, chain}
use Rattle.expr_parse.proofs.Words.{joined, whole, levels, finished, level_limit, reading, Read, Fails, kinds, decimal_token as decimal, truth_number}
use Rattle.expr_parse.proofs.Words.{bits_tokens, AreBits, IsPart, item_tokens, items_tokens, IsRight, IsAtom, IsMatch, AreUnits, IsUnit, IsOperand}
use Rattle.expr_parse.proofs.Words.{IsText, alone, is_match as is_joined, last, more, plain, comparison, is_truth, is_bare, is_negation, is_enclosed}
use Rattle.expr_parse.proofs.Words.{tokens_of}
use Rattle.expr_parse.proofs.Chains.{ends, signed_step}
use Rattle.expr_parse.proofs.TokenKinds.{kinds_none, kinds_first, kinds_split, kinds_one}

-- read on after what is read
after : {S T : Type 0} (r : Reading S) (s : S) (mid : Tokens) (k : S → Tokens → Reading T) → r ≡ Read s mid → and_then r k ≡ k s mid
after r s mid k e = ap (λ x. and_then x k) e

-- what a unit ends before
record EndsUnit (rest : Tokens) : Type 0 where
  no_bits : (end : ℕ) → bits end rest ≡ Read Whole rest
  no_mask : (end : ℕ) (c : Const) → number end c rest ≡ Read (item_of.One c) rest
  no_relation : (end : ℕ) (p : Part) → compared end p rest ≡ Read (Leaf (Bare p)) rest

-- what a match ends before
record EndsMatch (rest : Tokens) : Type 0 where
  unit_ends : EndsUnit rest
  no_operator : (end : ℕ) (inside : Inside) (f : Formula Atom) → joined end inside f rest ≡ Read f rest
  chain_stops : (unit : Tokens → Reading (Formula Atom)) (o : Operator) (m : ℕ) (units : List (Formula Atom))
      → chain unit o m units rest ≡ Read (join o (formulas units)) rest

at_sign : (o : Operator) (p : ℕ) (ts : Tokens) → EndsUnit ((p, sign o) ∷ ts)
at_sign operator.And p ts = record { no_bits = λ end. refl; no_mask = λ end c. refl; no_relation = λ end q. refl }
at_sign operator.Or p ts = record { no_bits = λ end. refl; no_mask = λ end c. refl; no_relation = λ end q. refl }

stops_at_end : (unit : Tokens → Reading (Formula Atom)) (o : Operator) (m : ℕ) (units : List (Formula Atom))
    → chain unit o m units [] ≡ Read (join o (formulas units)) []
stops_at_end unit operator.And m units = ends unit operator.And m units [] refl
stops_at_end unit operator.Or m units = ends unit operator.Or m units [] refl

at_end : EndsMatch []
at_end = record {
  unit_ends = record { no_bits = λ end. refl; no_mask = λ end c. refl; no_relation = λ end q. refl };
  no_operator = λ end inside f. refl;
  chain_stops = stops_at_end;
}

stops_at_close : (p : ℕ) (ts : Tokens) (unit : Tokens → Reading (Formula Atom)) (o : Operator) (m : ℕ) (units : List (Formula Atom))
    → chain unit o m units ((p, Close) ∷ ts) ≡ Read (join o (formulas units)) ((p, Close) ∷ ts)
stops_at_close p ts unit operator.And m units = ends unit operator.And m units ((p, Close) ∷ ts) refl
stops_at_close p ts unit operator.Or m units = ends unit operator.Or m units ((p, Close) ∷ ts) refl

at_close : (p : ℕ) (ts : Tokens) → EndsMatch ((p, Close) ∷ ts)
at_close p ts = record {
  unit_ends = record { no_bits = λ end. refl; no_mask = λ end c. refl; no_relation = λ end q. refl };
  no_operator = λ end inside f. refl;
  chain_stops = stops_at_close p ts;
}

-- Parts.

bit_read : (end n a b c : ℕ) (rest : Tokens) → n ≤ 255 → bits end ((a, OpenBracket) ∷ (b, decimal n) ∷ (c, CloseBracket) ∷ rest) ≡ Read (Bit n) rest
bit_read end n a b c rest low = rw (le-leb n 255 low) refl

range_read : (end m n a b c d z : ℕ) (rest : Tokens) → m ≤ 255 → n ≤ 255
    → bits end ((a, OpenBracket) ∷ (b, decimal m) ∷ (c, Dots) ∷ (d, decimal n) ∷ (z, CloseBracket) ∷ rest) ≡ Read (Range m n) rest
range_read end m n a b c d z rest low small = rw (le-leb m 255 low, le-leb n 255 small) refl

-- the tokens of bits, with their offsets
bit_tokens : (ts : Tokens) (n : ℕ) → kinds ts ≡ bits_tokens (Bit n) → (a : ℕ) × (b : ℕ) × (c : ℕ) × (ts ≡ (a, OpenBracket) ∷ (b, decimal n) ∷ (c, CloseBracket) ∷ [])
bit_tokens ts n e =
    let f = kinds_first ts OpenBracket (decimal n ∷ CloseBracket ∷ []) e in
    let g = kinds_first f.1 (decimal n) (CloseBracket ∷ []) f.3 in
    let c = kinds_first g.1 CloseBracket [] g.3 in
    let none = kinds_none c.1 c.3 in
    (f.0, g.0, c.0, cc)

range_tokens : (ts : Tokens) (m n : ℕ) → kinds ts ≡ bits_tokens (Range m n) → (a : ℕ) × (b : ℕ) × (c : ℕ) × (d : ℕ) × (z : ℕ) × (ts ≡ (a, OpenBracket) ∷ (b, decimal m) ∷ (c, Dots) ∷ (d, decimal n) ∷ (z, CloseBracket) ∷ [])
range_tokens ts m n e =
    let f = kinds_first ts OpenBracket (decimal m ∷ Dots ∷ decimal n ∷ CloseBracket ∷ []) e in
    let g = kinds_first f.1 (decimal m) (Dots ∷ decimal n ∷ CloseBracket ∷ []) f.3 in
    let d = kinds_first g.1 Dots (decimal n ∷ CloseBracket ∷ []) g.3 in
    let l = kinds_first d.1 (decimal n) (CloseBracket ∷ []) d.3 in
    let c = kinds_first l.1 CloseBracket [] l.3 in
    let none = kinds_none c.1 c.3 in
    (f.0, g.0, d.0, l.0, c.0, cc)

bits_read : (end : ℕ) (ts : Tokens) (b : Bits) (rest : Tokens) → kinds ts ≡ bits_tokens b → AreBits b → bits end rest ≡ Read Whole rest
    → bits end (ts ++ rest) ≡ Read b rest
bits_read end ts Whole rest e low h = ap (λ xs. bits end (xs ++ rest)) (kinds_none ts e) ∙ h
bits_read end ts (Bit n) rest e low h = let t = bit_tokens ts n e in ap (λ xs. bits end (xs ++ rest)) t.3 ∙ bit_read end n t.0 t.1 t.2 rest low
bits_read end ts (Range m n) rest e low h =
    let t = range_tokens ts m n e in
    ap (λ xs. bits end (xs ++ rest)) t.5 ∙ range_read end m n t.0 t.1 t.2 t.3 t.4 rest low.0 low.1

part_read : (end : ℕ) (p : Part) (ts : Tokens) (rest : Tokens) → kinds ts ≡ bits_tokens p.bits → AreBits p.bits → bits end rest ≡ Read Whole rest
    → part end p.offset p.name (ts ++ rest) ≡ Read p rest
part_read end p ts rest e low h =
    after (bits end (ts ++ rest)) p.bits rest (λ b left. Read (part_of p.name p.offset b) left) (bits_read end ts p.bits rest e low h)

-- Right sides.

item_read : (end : ℕ) (ts : Tokens) (i : Item) (rest : Tokens) → kinds ts ≡ item_tokens i
    → ((c : Const) → number end c rest ≡ Read (item_of.One c) rest) → item end (ts ++ rest) ≡ Read i rest
item_read end ts (item_of.One c) rest e h = let f = kinds_one ts (Number c) e in ap (λ xs. item end (xs ++ rest)) f.1 ∙ h c
item_read end ts (item_of.Masked c m) rest e h =
    let f = kinds_first ts (Number c) (Slash ∷ Number m ∷ []) e in
    let g = kinds_first f.1 Slash (Number m ∷ []) f.3 in
    let l = kinds_one g.1 (Number m) g.3 in
    let all : ts ≡ (f.0, Number c) ∷ (g.0, Slash) ∷ (l.0, Number m) ∷ [] = cc in
    ap (λ xs. item end (xs ++ rest)) all
item_read end ts (item_of.Text name) rest e h = let f = kinds_one ts (Text name) e in ap (λ xs. item end (xs ++ rest)) f.1
item_read end ts (item_of.AddrSet name) rest e h = let f = kinds_one ts (AddrSet name) e in ap (λ xs. item end (xs ++ rest)) f.1
item_read end ts (item_of.Group name) rest e h = let f = kinds_one ts (Group name) e in ap (λ xs. item end (xs ++ rest)) f.1

-- the items of a set are here, the first of them unread, after those before
abbrev next_item : ℕ → ℕ → List Item → Tokens → Reading Right
next_item end m before ts = and_then (item end ts) (λ i left. items end m (before ++ i ∷ []) left)

last_read : (end m : ℕ) (before : List Item) (i : Item) (us : Tokens) (p : ℕ) (rest : Tokens) → kinds us ≡ item_tokens i → next_item end m before (us ++ (p, CloseBrace) ∷ rest) ≡ Read (right_of.Set (before ++ i ∷ [])) rest
last_read end m before i us p rest e = after (item end (us ++ (p, CloseBrace) ∷ rest)) i ((p, CloseBrace) ∷ rest)
    (λ j left. items end m (before ++ j ∷ []) left) (item_read end us i ((p, CloseBrace) ∷ rest) e (λ c. refl))

more_read : (end m : ℕ) (before : List Item) (i : Item) (us : Tokens) (p : ℕ) (ws : Tokens) → kinds us ≡ item_tokens i → next_item end (suc m) before (us ++ (p, Comma) ∷ ws) ≡ next_item end m (before ++ i ∷ []) ws
more_read end m before i us p ws e = after (item end (us ++ (p, Comma) ∷ ws)) i ((p, Comma) ∷ ws)
    (λ j left. items end (suc m) (before ++ j ∷ []) left) (item_read end us i ((p, Comma) ∷ ws) e (λ c. refl))

items_read : (js : List Item) (end m : ℕ) (before : List Item) (i : Item) (ts rest : Tokens) → kinds ts ≡ items_tokens i js ++ CloseBrace ∷ [] → length js ≤ m → next_item end m before (ts ++ rest) ≡ Read (right_of.Set (before ++ i ∷ js)) rest
items_read [] end m before i ts rest e le =
    let s = kinds_split ts (item_tokens i) (CloseBrace ∷ []) e in
    let c = kinds_one s.1 CloseBrace s.4 in
    let all : ts ++ rest ≡ s.0 ++ (c.0, CloseBrace) ∷ rest = ap (λ xs. xs ++ rest) (s.2 ∙ ap (λ xs. s.0 ++ xs) c.1) ∙ append_assoc s.0 ((c.0, CloseBrace) ∷ []) rest in
    ap (next_item end m before) all ∙ last_read end m before i s.0 c.0 rest s.3
items_read (j ∷ js) end zero before i ts rest e le = absurd (omega arith)
items_read (j ∷ js) end (suc m) before i ts rest e le =
    let s = kinds_split ts (item_tokens i) (Comma ∷ (items_tokens j js ++ CloseBrace ∷ [])) (e ∙ append_assoc (item_tokens i) (Comma ∷ items_tokens j js) (CloseBrace ∷ [])) in
    let c = kinds_first s.1 Comma (items_tokens j js ++ CloseBrace ∷ []) s.4 in
    let all : ts ++ rest ≡ s.0 ++ (c.0, Comma) ∷ (c.1 ++ rest) = ap (λ xs. xs ++ rest) (s.2 ∙ ap (λ xs. s.0 ++ xs) c.2) ∙ append_assoc s.0 ((c.0, Comma) ∷ c.1) rest in
    let le' : length js ≤ m = omega arith in
    ap (next_item end (suc m) before) all ∙ more_read end m before i s.0 c.0 (c.1 ++ rest) s.3 ∙ items_read js end m (before ++ i ∷ []) j c.1 rest c.3 le' ∙ ap (λ xs. Read (right_of.Set xs) rest) (append_assoc before (i ∷ []) (j ∷ js))

-- a set has no more items than tokens
items_long : (i : Item) (js : List Item) → length js ≤ length (items_tokens i js)
items_long i [] = omega arith
items_long i (j ∷ js) = omega (arith, items_long j js, length-append (item_tokens i) (Comma ∷ items_tokens j js))

set_long : (ts rest : Tokens) (i : Item) (js : List Item) → kinds ts ≡ items_tokens i js ++ CloseBrace ∷ [] → length js ≤ length (ts ++ rest)
set_long ts rest i js e = omega (arith, items_long i js, length-append (items_tokens i js) (CloseBrace ∷ []), length-append ts rest, length-map ts (λ (t : ℕ × Token). t.1), ap length e)

-- a right side that an item begins is that item
lone_right : (end : ℕ) (ts : Tokens) (i : Item) (rest : Tokens) → item end ts ≡ Read i rest → right end ts ≡ Read (right_of.Item i) rest
lone_right end [] i rest e = absurd cc
lone_right end ((p, OpenBrace) ∷ ts) i rest e = absurd cc
lone_right end ((p, k) ∷ ts) i rest e = ap (λ r. and_then r (λ j left. Read (right_of.Item j) left)) e

right_read : (end : ℕ) (ts : Tokens) (s : Right) (rest : Tokens) → IsRight (kinds ts) s
    → ((c : Const) → number end c rest ≡ Read (item_of.One c) rest) → right end (ts ++ rest) ≡ Read s rest
right_read end ts (right_of.Item i) rest e h = lone_right end (ts ++ rest) i rest (item_read end ts i rest e h)
right_read end ts (right_of.Set []) rest e h = absurd e
right_read end ts (right_of.Set (i ∷ js)) rest e h =
    let f = kinds_first ts OpenBrace (items_tokens i js ++ CloseBrace ∷ []) e in
    ap (λ xs. right end (xs ++ rest)) f.2 ∙ items_read js end (length (f.1 ++ rest)) [] i f.1 rest f.3 (set_long f.1 rest i js f.3)

-- Units.

-- the operand that tokens are is read, and so is the unit that is it
abbrev OperandRead : ℕ → Inside → Tokens → Formula Atom → Tokens → Type 0
OperandRead end inside ts f rest = (operand end inside (ts ++ rest) ≡ Read f rest) × (unit end inside (ts ++ rest) ≡ Read f rest)

truth_said : (end : ℕ) (inside : Inside) (p : ℕ) (b : Bool) (rest : Tokens)
    → OperandRead end inside ((p, decimal (truth_number b)) ∷ []) (Leaf (Truth b)) rest
truth_said end inside p false rest = (refl, refl)
truth_said end inside p true rest = (refl, refl)

truth_read : (end : ℕ) (inside : Inside) (ts : Tokens) (b : Bool) (rest : Tokens) → IsAtom ts (Truth b) → OperandRead end inside ts (Leaf (Truth b)) rest
truth_read end inside ts b rest e =
    let f = kinds_one ts (decimal (truth_number b)) e in
    let P : Tokens → Type 0 = λ xs. OperandRead end inside xs (Leaf (Truth b)) rest in
    subst P (sym f.1) (truth_said end inside f.0 b rest)

bare_read : (end : ℕ) (inside : Inside) (ts : Tokens) (p : Part) (rest : Tokens) → IsPart ts p → EndsUnit rest → OperandRead end inside ts (Leaf (Bare p)) rest
bare_read end inside ts p rest h stop =
    let P : Tokens → Type 0 = λ xs. OperandRead end inside xs (Leaf (Bare p)) rest in
    let name = part end p.offset p.name (h.after ++ rest) in
    let reads = part_read end p h.after rest h.bits h.numbers (stop.no_bits end) in
    subst P (sym h.whole) (after name p rest (λ q left. Read (Leaf (Bare q)) left) reads, after name p rest (compared end) reads ∙ stop.no_relation end p)

comparison_read : (end : ℕ) (inside : Inside) (ts : Tokens) (p : Part) (r : Rel) (s : Right) (rest : Tokens) → IsAtom ts (Compare p r s) → EndsUnit rest → unit end inside (ts ++ rest) ≡ Read (Leaf (Compare p r s)) rest
comparison_read end inside ts p r s rest (front, offset, back, e, left, whole) stop =
    let next : Tokens = (offset, Relation r) ∷ (back ++ rest) in
    let all : ts ++ rest ≡ (p.offset, Name p.name) ∷ (left.after ++ next) =
    ap (λ xs. xs ++ rest) e ∙ append_assoc front ((offset, Relation r) ∷ back) rest ∙ ap (λ xs. xs ++ next) left.whole in
    ap (unit end inside) all
    ∙ after (part end p.offset p.name (left.after ++ next)) p next (compared end) (part_read end p left.after next left.bits left.numbers refl)
    ∙ after (right end (back ++ rest)) s rest (λ t others. Read (Leaf (Compare p r t)) others) (right_read end back s rest whole (stop.no_mask end))

-- a level's inside is read at the next level
negated_read : (end n offset : ℕ) (ts inner : Tokens) (f : Formula Atom) (rest : Tokens) → ts ≡ (offset, Not) ∷ inner → operand end (levels end n) (inner ++ rest) ≡ Read f rest → OperandRead end (levels end (suc n)) ts (Negation f) rest
negated_read end n offset ts inner f rest e reads =
    let P : Tokens → Type 0 = λ xs. OperandRead end (levels end (suc n)) xs (Negation f) rest in
    let reads_on = after (operand end (levels end n) (inner ++ rest)) f rest (λ g left. Read (Negation g) left) reads in
    subst P (sym e) (reads_on, reads_on)

enclosed_read : (end n opening closing : ℕ) (ts inner : Tokens) (f : Formula Atom) (rest : Tokens) → ts ≡ (opening, Open) ∷ (inner ++ (closing, Close) ∷ []) → whole end (levels end n) (inner ++ (closing, Close) ∷ rest) ≡ Read f ((closing, Close) ∷ rest) → OperandRead end (levels end (suc n)) ts f rest
enclosed_read end n opening closing ts inner f rest e reads =
    let all : ts ++ rest ≡ (opening, Open) ∷ (inner ++ (closing, Close) ∷ rest) = ap (λ xs. xs ++ rest) e ∙ ap (λ xs. (opening, Open) ∷ xs) (append_assoc inner ((closing, Close) ∷ []) rest) in
    let reads_on = after (whole end (levels end n) (inner ++ (closing, Close) ∷ rest)) f ((closing, Close) ∷ rest) (closed end) reads in
    (ap (operand end (levels end (suc n))) all ∙ reads_on, ap (unit end (levels end (suc n))) all ∙ reads_on)

-- Matches.

-- what is read after a sign
abbrev next_unit : ℕ → Inside → Operator → ℕ → List (Formula Atom) → Tokens → Reading (Formula Atom)
next_unit end inside o m before ts = and_then (unit end inside ts) (λ g left. chain (unit end inside) o m (before ++ g ∷ []) left)

joined_at : (end : ℕ) (inside : Inside) (o : Operator) (f : Formula Atom) (p : ℕ) (ts : Tokens) → joined end inside f ((p, sign o) ∷ ts) ≡ next_unit end inside o (length ts) (f ∷ []) ts
joined_at end inside operator.And f p ts = refl
joined_at end inside operator.Or f p ts = refl

-- there is a unit in each chain
some_units : {n : ℕ} {o : Operator} {ts : Tokens} {fs : List (Formula Atom)} → AreUnits n o ts fs → 1 ≤ length fs
some_units (last f u) = omega arith
some_units (more front p back e u us) = omega arith

-- a chain has no more units than tokens and one
chain_long : {n : ℕ} {o : Operator} {ts : Tokens} {fs : List (Formula Atom)} → AreUnits n o ts fs → length fs ≤ length ts + 1
chain_long (last f u) = omega arith
chain_long (more {o = o} {ts = ts} front p back e u us) = omega (arith, chain_long us, length-append front ((p, sign o) ∷ back), ap length e)

-- tokens after tokens
regroup : (ts front : Tokens) (offset : ℕ) (sign : Token) (back rest : Tokens) → ts ≡ front ++ (offset, sign) ∷ back → ts ++ rest ≡ front ++ (offset, sign) ∷ (back ++ rest)
regroup ts front offset sign back rest e = ap (λ xs. xs ++ rest) e ∙ append_assoc front ((offset, sign) ∷ back) rest

-- the unit of a chain is read, and then the rest of the chain
unit_then : (end : ℕ) (inside : Inside) (o : Operator) (m : ℕ) (before : List (Formula Atom)) (f : Formula Atom) (ts mid : Tokens)
    → unit end inside ts ≡ Read f mid → next_unit end inside o m before ts ≡ chain (unit end inside) o m (before ++ f ∷ []) mid
unit_then end inside o m before f ts mid e = after (unit end inside ts) f mid (λ g left. chain (unit end inside) o m (before ++ g ∷ []) left) e

mutual
  operand_read : {n : ℕ} {ts : Tokens} {f : Formula Atom} → IsOperand n ts f → (end : ℕ) (rest : Tokens) → EndsUnit rest → OperandRead end (levels end n) ts f rest
  operand_read {ts = ts} (is_truth b h) end rest stop = truth_read end _ ts b rest h
  operand_read {ts = ts} (is_bare p h) end rest stop = bare_read end _ ts p rest h stop
  operand_read {ts = ts} (is_negation {n = n} {f = f} offset inner e h) end rest stop = negated_read end n offset ts inner f rest e (operand_read h end rest stop).0
  operand_read {ts = ts} {f = f} (is_enclosed {n = n} opening closing inner e h) end rest stop =
      enclosed_read end n opening closing ts inner f rest e (match_read h end ((closing, Close) ∷ rest) (at_close closing rest))

  unit_read : {n : ℕ} {ts : Tokens} {f : Formula Atom} → IsUnit n ts f → (end : ℕ) (rest : Tokens) → EndsUnit rest → unit end (levels end n) (ts ++ rest) ≡ Read f rest
  unit_read (plain o) end rest stop = (operand_read o end rest stop).1
  unit_read {ts = ts} (comparison p r s h) end rest stop = comparison_read end _ ts p r s rest h stop

  units_read : {n : ℕ} {o : Operator} {ts : Tokens} {fs : List (Formula Atom)} → AreUnits n o ts fs → (end m : ℕ) (before : List (Formula Atom)) (rest : Tokens) → length fs ≤ suc m → EndsMatch rest → next_unit end (levels end n) o m before (ts ++ rest) ≡ Read (join o (formulas (before ++ fs))) rest
  units_read {n = n} {o = o} {ts = ts} (last f u) end m before rest le stop = unit_then end (levels end n) o m before f (ts ++ rest) rest
      (unit_read u end rest stop.unit_ends) ∙ stop.chain_stops (unit end (levels end n)) o m (before ++ f ∷ [])
  units_read (more front p back e u us) end zero before rest le stop = absurd (omega (arith, some_units us))
  units_read {n = n} {o = o} {ts = ts} (more {f = f} {fs = fs} front p back e u us) end (suc m) before rest le stop =
      let le' : length fs ≤ suc m = omega arith in
      ap (next_unit end (levels end n) o (suc m) before) (regroup ts front p (sign o) back rest e)
      ∙ unit_then end (levels end n) o (suc m) before f (front ++ (p, sign o) ∷ (back ++ rest)) ((p, sign o) ∷ (back ++ rest))
      (unit_read u end ((p, sign o) ∷ (back ++ rest)) (at_sign o p (back ++ rest)))
      ∙ signed_step (unit end (levels end n)) o m (before ++ f ∷ []) p (back ++ rest)
      ∙ units_read us end m (before ++ f ∷ []) rest le' stop
      ∙ ap (λ xs. Read (join o (formulas xs)) rest) (append_assoc before (f ∷ []) fs)

  match_read : {n : ℕ} {ts : Tokens} {f : Formula Atom} → IsMatch n ts f → (end : ℕ) (rest : Tokens) → EndsMatch rest → whole end (levels end n) (ts ++ rest) ≡ Read f rest
  match_read {n = n} {ts = ts} {f = f} (alone u) end rest stop = after (unit end (levels end n) (ts ++ rest)) f rest (joined end (levels end n))
      (unit_read u end rest stop.unit_ends) ∙ stop.no_operator end (levels end n) f
  match_read {n = n} {ts = ts} (is_joined o f g fs (more front p back e u us)) end rest stop =
      let long : length (g ∷ fs) ≤ suc (length (back ++ rest)) = omega (arith, chain_long us, length-append back rest) in
      let next : Tokens = (p, sign o) ∷ (back ++ rest) in
      ap (whole end (levels end n)) (regroup ts front p (sign o) back rest e)
      ∙ after (unit end (levels end n) (front ++ next)) f next (joined end (levels end n)) (unit_read u end next (at_sign o p (back ++ rest)))
      ∙ joined_at end (levels end n) o f p (back ++ rest) ∙ units_read us end (length (back ++ rest)) (f ∷ []) rest long stop

pub match_is_read : (text : List ℕ) (f : Formula Atom) → IsText text f → reading text ≡ Read f []
match_is_read text f is =
    let ts : Tokens = (tokens_of text).0 in
    let end : ℕ = (tokens_of text).1 in
    let reads : whole end (levels end level_limit) ts ≡ Read f [] =
    ap (whole end (levels end level_limit)) (sym (append-nil ts)) ∙ match_read is.1 end [] at_end in
    after (whole end (levels end level_limit) ts) f [] (finished (length text) end) reads
    ∙ ap (λ b. if b then Read f [] else Fails (Syntax end)) (eq-eqb end (length text) is.0)
