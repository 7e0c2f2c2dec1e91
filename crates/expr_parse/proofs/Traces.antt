-- How the grammar is read: what a reading took is by the rules, and tokens that begin alike are read alike.
use Rattle.std.proofs.Common.{◌≡◌, ℕ, zero, suc, ◌<◌, ◌≤◌, ◌==◌, ◌&&◌, None, Bool, true, false, nat_le, if◌then◌else◌, List, [], ◌∷◌}
use Rattle.std.proofs.Common.{◌++◌, length, length-append, refl, sym, ap, subst, append_assoc, append-nil, ◌∙◌, arith}
use Rattle.std.proofs.lemmas.Bool.Decides.{nat_tests}
use Rattle.expr_core.specs.declared.constant.Form.TheVariants as form
use Rattle.expr_core.specs.declared.comparison.Item.TheVariants as item_of
use Rattle.expr_core.specs.declared.comparison.Right.TheVariants as right_of
use Rattle.expr_parse.specs.declared.operator.Operator.TheVariants as operator
use Rattle.expr_parse.proofs.Words.{eqb-true, Formula, formulas, Leaf, Negation, is_decimal, Const, Form, Item, Rel, Right, Atom, Truth, Bare}
use Rattle.expr_parse.proofs.Words.{Compare, Bits, Whole, Bit, Range, Part, MatchFault, Syntax, Mixed, TooDeep, Operator, Token, Tokens, Name, Number}
use Rattle.expr_parse.proofs.Words.{Text, AddrSet, Group, Relation, And, Or, Not, Open, Close, OpenBrace, CloseBrace, OpenBracket, CloseBracket}
use Rattle.expr_parse.proofs.Words.{Comma, Slash, Dots, Reading, and_then, bit_number, last_bit, first_bit, bits, part_of, part, mask, number, item}
use Rattle.expr_parse.proofs.Words.{items, right, compared, closed, operand, unit, sign, join, after_operator, chain_end, chain, joined, whole}
use Rattle.expr_parse.proofs.Words.{levels, finished, level_limit, match_of, reading, Read, Fails, fault_offset, tokens_of, kinds}
use Rattle.expr_parse.proofs.Words.{decimal_token as decimal, bits_tokens, AreBits, IsPart, item_tokens, items_tokens, IsRight, IsMatch, AreUnits}
use Rattle.expr_parse.proofs.Words.{IsUnit, IsOperand, IsText, alone, is_match as is_joined, last, more, plain, comparison, is_truth, is_bare}
use Rattle.expr_parse.proofs.Words.{is_negation, is_enclosed}
use Rattle.expr_parse.proofs.Chains.{ends, signed_step}
use Rattle.expr_parse.proofs.TokenKinds.{kinds_append}

-- a reader of tokens that end at an offset, with at most so many rounds
abbrev pub Reader : Type 0 → Type 0
Reader T = ℕ → ℕ → Tokens → Reading T

-- a reader without rounds
abbrev pub simple : {T : Type 0} → (ℕ → Tokens → Reading T) → Reader T
simple read = λ end n ts. read end ts

-- this is the answer, whatever follows the first token of the rest, where there are rounds enough
abbrev pub Stays : {T : Type 0} → Reader T → Tokens → Tokens → (Tokens → Reading T) → Type 0
Stays reader front [] answer = Unit {0}
Stays reader front (t ∷ rest) answer =
    (end n : ℕ) (others : Tokens) → length (front ++ t ∷ others) ≤ n → reader end n (front ++ t ∷ others) ≡ answer (t ∷ others)

-- the fault is at the first of these tokens, or at the offset where the tokens end
abbrev pub IsAt : ℕ → MatchFault → Tokens → Type 0
IsAt end f [] = fault_offset f ≡ end
IsAt end f (t ∷ ts) = fault_offset f ≡ t.0

-- what was read is before the rest, by the rule, or the fault is at the rest
pub data Traced {T : Type 0} (reader : Reader T) (Is : Tokens → T → Type 0) (end : ℕ) (ts : Tokens) : Reading T → Type 0 where
  reads : (v : T) (front rest : Tokens) → ts ≡ front ++ rest → Is front v → Stays reader front rest (λ others. Read v others)
      → Traced reader Is end ts (Read v rest)
  fails : (f : MatchFault) (front rest : Tokens) → ts ≡ front ++ rest → IsAt end f rest → Stays reader front rest (λ others. Fails f)
      → Traced reader Is end ts (Fails f)

below : (a n : ℕ) → suc a ≤ n → a ≤ n
below a n h = omega arith

same : (a : ℕ) → a ≤ a
same a = omega arith

always : {T : Type 0} (reader : Reader T) (front rest : Tokens) (answer : Tokens → Reading T)
    → ((end n : ℕ) (others : Tokens) → reader end n (front ++ others) ≡ answer others) → Stays reader front rest answer
always reader front [] answer h = tt
always reader front (t ∷ rest) answer h = λ end n others room. h end n (t ∷ others)

-- One token.

one_token : {T : Type 0} {reader : Reader T} {Is : Tokens → T → Type 0} {end : ℕ} (q : ℕ) (k : Token) (ts : Tokens) (v : T) → Is ((q, k) ∷ []) v
    → ((e n : ℕ) (others : Tokens) → reader e n ((q, k) ∷ others) ≡ Read v others) → Traced reader Is end ((q, k) ∷ ts) (Read v ts)
one_token {reader = reader} q k ts v is h = reads v ((q, k) ∷ []) ts refl is (always reader ((q, k) ∷ []) ts (λ others. Read v others) h)

-- after a token the inner reader goes on, with rounds enough
abbrev Continues : {T : Type 0} → Reader T → Reader T → ℕ × Token → Type 0
Continues reader inner t = (end n : ℕ) (ts : Tokens) → suc (length ts) ≤ n → (m : ℕ) × (length ts ≤ m) × (reader end n (t ∷ ts) ≡ inner end m ts)

token_stays : {T : Type 0} (reader inner : Reader T) (t : ℕ × Token) (front rest : Tokens) (answer : Tokens → Reading T) → Continues reader inner t
    → Stays inner front rest answer → Stays reader (t ∷ front) rest answer
token_stays reader inner t front [] answer go_on h = tt
token_stays reader inner t front (u ∷ rest) answer go_on h = λ end n others room.
    let s = go_on end n (front ++ u ∷ others) room in s.2 ∙ h end s.0 others s.1

next_round : {T : Type 0} {reader inner : Reader T} {Is : Tokens → T → Type 0} {end : ℕ} (q : ℕ) (k : Token) {ts : Tokens} {r : Reading T}
    → Traced inner (λ front v. Is ((q, k) ∷ front) v) end ts r → Continues reader inner (q, k) → Traced reader Is end ((q, k) ∷ ts) r
next_round {reader = reader} {inner = inner} q k (reads v front rest e is h) go_on =
    reads v ((q, k) ∷ front) rest (ap (λ xs. (q, k) ∷ xs) e) is (token_stays reader inner (q, k) front rest (λ others. Read v others) go_on h)
next_round {reader = reader} {inner = inner} q k (fails f front rest e at h) go_on =
    fails f ((q, k) ∷ front) rest (ap (λ xs. (q, k) ∷ xs) e) at (token_stays reader inner (q, k) front rest (λ others. Fails f) go_on h)

next_token : {T : Type 0} {reader inner : Reader T} {Is : Tokens → T → Type 0} {end : ℕ} (q : ℕ) (k : Token) {ts : Tokens} {r : Reading T}
    → Traced inner (λ front v. Is ((q, k) ∷ front) v) end ts r → ((e n : ℕ) (us : Tokens) → reader e n ((q, k) ∷ us) ≡ inner e n us)
    → Traced reader Is end ((q, k) ∷ ts) r
next_token q k traced h = next_round q k traced (λ e n us room. (n, below (length us) n room, h e n us))

-- One reading after another.

kept : {S T : Type 0} (first : Reader S) (on : ℕ → ℕ → Reading S → Reading T) (front rest : Tokens) (answer : Tokens → Reading S)
    (result : Tokens → Reading T)
    → ((end n : ℕ) (others : Tokens) → on end n (answer others) ≡ result others) → Stays first front rest answer
    → Stays (λ end n ts. on end n (first end n ts)) front rest result
kept first on front [] answer result is h = tt
kept first on front (t ∷ rest) answer result is h = λ end n others room. ap (on end n) (h end n others room) ∙ is end n (t ∷ others)

-- what is made of what is read
map_traced : {S T : Type 0} (first : Reader S) (make : S → T) {Is : Tokens → S → Type 0} {Js : Tokens → T → Type 0} {end : ℕ} {ts : Tokens} {r : Reading S}
    → Traced first Is end ts r → ((front : Tokens) (v : S) → Is front v → Js front (make v))
    → Traced (λ e n us. and_then (first e n us) (λ v rest. Read (make v) rest)) Js end ts (and_then r (λ v rest. Read (make v) rest))
map_traced first make (reads v front rest e is h) on =
    reads (make v) front rest e (on front v is)
    (kept first (λ end n r. and_then r (λ w left. Read (make w) left)) front rest (λ others. Read v others) (λ others. Read (make v) others)
    (λ end n others. refl) h)
map_traced first make (fails f front rest e at h) on =
    fails f front rest e at (kept first (λ end n r. and_then r (λ w left. Read (make w) left)) front rest (λ others. Fails f) (λ others. Fails f)
    (λ end n others. refl) h)

further : {S : Type 0} (first : Reader S) (v : S) (front back : Tokens) (t : ℕ × Token) (rest : Tokens)
    → Stays first front (back ++ t ∷ rest) (λ others. Read v others)
    → (end n : ℕ) (others : Tokens) → length (front ++ (back ++ t ∷ others)) ≤ n
    → first end n (front ++ (back ++ t ∷ others)) ≡ Read v (back ++ t ∷ others)
further first v front [] t rest h end n others room = h end n others room
further first v front (u ∷ back) t rest h end n others room = h end n (back ++ t ∷ others) room

module _ {S T : Type 0} (first : Reader S) (next : S → Reader T) where
  abbrev both : Reader T
  both = λ end n ts. and_then (first end n ts) (λ v rest. next v end n rest)

  both_stay : (v : S) (front back rest : Tokens) (answer : Tokens → Reading T) → Stays first front (back ++ rest) (λ others. Read v others)
      → Stays (next v) back rest answer → Stays both (front ++ back) rest answer
  both_stay v front back [] answer h g = tt
  both_stay v front back (t ∷ rest) answer h g = λ end n others room.
      let whole = append_assoc front back (t ∷ others) in
      let left : length (front ++ (back ++ t ∷ others)) ≤ n = omega (arith, room, ap length whole) in
      ap (both end n) whole ∙ ap (λ r. and_then r (λ w rest. next w end n rest)) (further first v front back t rest h end n others left)
      ∙ g end n others (omega (arith, left, length-append front (back ++ t ∷ others)))

  adds : (Js : Tokens → T → Type 0) (end : ℕ) (ts : Tokens) (v : S) (front rest : Tokens) {r : Reading T} → ts ≡ front ++ rest
      → Stays first front rest (λ others. Read v others)
      → Traced (next v) (λ back w. Js (front ++ back) w) end rest r → Traced both Js end ts r
  adds Js end ts v front rest e h (reads w back left d is g) =
      let P : Tokens → Type 0 = λ xs. Stays first front xs (λ others. Read v others) in
      reads w (front ++ back) left (e ∙ ap (λ xs. front ++ xs) d ∙ sym (append_assoc front back left)) is
      (both_stay v front back left (λ others. Read w others) (subst P d h) g)
  adds Js end ts v front rest e h (fails f back left d at g) =
      let P : Tokens → Type 0 = λ xs. Stays first front xs (λ others. Read v others) in
      fails f (front ++ back) left (e ∙ ap (λ xs. front ++ xs) d ∙ sym (append_assoc front back left)) at
      (both_stay v front back left (λ others. Fails f) (subst P d h) g)

  then_traced : (Is : Tokens → S → Type 0) (Js : Tokens → T → Type 0) (end n : ℕ) (ts : Tokens) {r : Reading S} → length ts ≤ n → Traced first Is end ts r
      → ((front : Tokens) (v : S) (rest : Tokens) → length rest ≤ n → Is front v
      → Traced (next v) (λ back w. Js (front ++ back) w) end rest (next v end n rest))
      → Traced both Js end ts (and_then r (λ v rest. next v end n rest))
  then_traced Is Js end n ts room (reads v front rest e is h) on =
      adds Js end ts v front rest e h (on front v rest (omega (arith, room, ap length e, length-append front rest)) is)
  then_traced Is Js end n ts room (fails f front rest e at h) on =
      fails f front rest e at (kept first (λ e n r. and_then r (λ v left. next v e n left)) front rest (λ others. Fails f) (λ others. Fails f)
      (λ e n others. refl) h)

-- Another reader that reads alike what begins with this token.

begun : (t : ℕ × Token) (ts front : Tokens) (u : ℕ × Token) (rest others : Tokens) → ◌∷◌ t ts ≡ front ++ u ∷ rest
    → (us : Tokens) × (front ++ u ∷ others ≡ t ∷ us)
begun t ts [] u rest others e = let first : u ≡ t = cc in (others, ap (λ x. x ∷ others) first)
begun t ts (s ∷ front) u rest others e = let first : s ≡ t = cc in (front ++ u ∷ others, ap (λ x. x ∷ (front ++ u ∷ others)) first)

module _ {T : Type 0} (reader inner : Reader T) (t : ℕ × Token) (alike : (end n : ℕ) (us : Tokens) → reader end n (t ∷ us) ≡ inner end n (t ∷ us)) where
  alike_stays : (ts front rest : Tokens) (answer : Tokens → Reading T) → ◌∷◌ t ts ≡ front ++ rest → Stays inner front rest answer
      → Stays reader front rest answer
  alike_stays ts front [] answer e h = tt
  alike_stays ts front (u ∷ rest) answer e h = λ end n others room.
      let b = begun t ts front u rest others e in
      ap (reader end n) b.1 ∙ alike end n b.0 ∙ ap (inner end n) (sym b.1) ∙ h end n others room

  read_alike : {Is Js : Tokens → T → Type 0} {end : ℕ} (ts : Tokens) {r : Reading T} → ((front : Tokens) (v : T) → Is front v → Js front v)
      → Traced inner Is end (t ∷ ts) r → Traced reader Js end (t ∷ ts) r
  read_alike ts on (reads v front rest e is h) = reads v front rest e (on front v is) (alike_stays ts front rest (λ others. Read v others) e h)
  read_alike ts on (fails f front rest e at h) = fails f front rest e at (alike_stays ts front rest (λ others. Fails f) e h)

-- Parts.

abbrev IsNumber : Tokens → ℕ → Type 0
IsNumber ts n = (kinds ts ≡ decimal n ∷ []) × (n ≤ 255)

digits : (end q : ℕ) (f : Form) (v : ℕ) (ts : Tokens) (b : Bool) → (is_decimal f && nat_le v 255) ≡ b
    → Traced (simple bit_number) IsNumber end ((q, Number (record { form = f; value = v })) ∷ ts) (if b then Read v ts else Fails (Syntax q))
digits end q form.Dec v ts true e =
    one_token q (decimal v) ts v (refl, grind (arith, nat_tests)) (λ d n others. ap (λ b. if b then Read v others else Fails (Syntax q)) e)
digits end q f v ts true e = absurd cc
digits end q f v ts false e = fails (Syntax q) [] ((q, Number (record { form = f; value = v })) ∷ ts) refl refl
    (λ d n others room. ap (λ b. if b then Read v others else Fails (Syntax q)) e)

bit_number_traced : (end : ℕ) (ts : Tokens) → Traced (simple bit_number) IsNumber end ts (bit_number end ts)
bit_number_traced end [] = fails (Syntax end) [] [] refl refl tt
bit_number_traced end ((q, Number c) ∷ ts) = digits end q c.form c.value ts (is_decimal c.form && nat_le c.value 255) refl
bit_number_traced end ((q, k) ∷ ts) = fails (Syntax q) [] ((q, k) ∷ ts) refl refl (λ e n others room. refl)

last_bit_traced : (Is : Tokens → Bits → Type 0) (end m n : ℕ) (ts : Tokens) → ((z : ℕ) → Is ((z, CloseBracket) ∷ []) (Range m n))
    → Traced (simple (λ e. last_bit e m n)) Is end ts (last_bit end m n ts)
last_bit_traced Is end m n [] is = fails (Syntax end) [] [] refl refl tt
last_bit_traced Is end m n ((q, CloseBracket) ∷ ts) is = one_token q CloseBracket ts (Range m n) (is q) (λ e i others. refl)
last_bit_traced Is end m n ((q, k) ∷ ts) is = fails (Syntax q) [] ((q, k) ∷ ts) refl refl (λ e i others room. refl)

first_bit_traced : (Is : Tokens → Bits → Type 0) (end m : ℕ) (ts : Tokens) → m ≤ 255
    → ((front : Tokens) (b : Bits) → OpenBracket ∷ decimal m ∷ kinds front ≡ bits_tokens b → AreBits b → Is front b)
    → Traced (simple (λ e. first_bit e m)) Is end ts (first_bit end m ts)
first_bit_traced Is end m [] low is = fails (Syntax end) [] [] refl refl tt
first_bit_traced Is end m ((q, CloseBracket) ∷ ts) low is =
    one_token q CloseBracket ts (Bit m) (is ((q, CloseBracket) ∷ []) (Bit m) refl low) (λ e i others. refl)
first_bit_traced Is end m ((q, Dots) ∷ ts) low is =
    next_token q Dots (then_traced (simple bit_number) (λ n. simple (λ e. last_bit e m n)) IsNumber _ end (length ts) ts (same (length ts))
    (bit_number_traced end ts)
    (λ front n rest room num. last_bit_traced _ end m n rest (λ z. is ((q, Dots) ∷ (front ++ (z, CloseBracket) ∷ [])) (Range m n)
    (ap (λ xs. OpenBracket ∷ decimal m ∷ Dots ∷ xs) (kinds_append front ((z, CloseBracket) ∷ []) ∙ ap (λ xs. xs ++ CloseBracket ∷ []) num.0))
    (low, num.1)))) (λ e n us. refl)
first_bit_traced Is end m ((q, k) ∷ ts) low is = fails (Syntax q) [] ((q, k) ∷ ts) refl refl (λ e i others room. refl)

bits_traced : (end : ℕ) (ts : Tokens) → Traced (simple bits) (λ front b. (kinds front ≡ bits_tokens b) × AreBits b) end ts (bits end ts)
bits_traced end [] = reads Whole [] [] refl (refl, tt) tt
bits_traced end ((q, OpenBracket) ∷ ts) =
    next_token q OpenBracket (then_traced (simple bit_number) (λ m. simple (λ e. first_bit e m)) IsNumber _ end (length ts) ts (same (length ts))
    (bit_number_traced end ts)
    (λ front m rest room num. first_bit_traced _ end m rest num.1 (λ back b e are.
    (ap (λ xs. OpenBracket ∷ xs) (kinds_append front back ∙ ap (λ xs. xs ++ kinds back) num.0) ∙ e, are)))) (λ e n us. refl)
bits_traced end ((q, k) ∷ ts) = reads Whole [] ((q, k) ∷ ts) refl (refl, tt) (λ e n others room. refl)

part_traced : (end offset : ℕ) (name : List ℕ) (ts : Tokens)
    → Traced (simple (λ e. part e offset name)) (λ front p. IsPart ((offset, Name name) ∷ front) p) end ts (part end offset name ts)
part_traced end offset name ts = map_traced (simple bits) (λ b. part_of name offset b) (bits_traced end ts)
    (λ front b is. record { after = front; whole = refl; bits = is.0; numbers = is.1 })

-- Right sides.

mask_traced : (Is : Tokens → Item → Type 0) (end : ℕ) (c : Const) (ts : Tokens)
    → ((z : ℕ) (m : Const) → Is ((z, Number m) ∷ []) (item_of.Masked c m)) → Traced (simple (λ e. mask e c)) Is end ts (mask end c ts)
mask_traced Is end c [] is = fails (Syntax end) [] [] refl refl tt
mask_traced Is end c ((q, Number m) ∷ ts) is = one_token q (Number m) ts (item_of.Masked c m) (is q m) (λ e n others. refl)
mask_traced Is end c ((q, k) ∷ ts) is = fails (Syntax q) [] ((q, k) ∷ ts) refl refl (λ e n others room. refl)

number_traced : (Is : Tokens → Item → Type 0) (end : ℕ) (c : Const) (ts : Tokens)
    → ((front : Tokens) (i : Item) → Number c ∷ kinds front ≡ item_tokens i → Is front i) → Traced (simple (λ e. number e c)) Is end ts (number end c ts)
number_traced Is end c [] is = reads (item_of.One c) [] [] refl (is [] (item_of.One c) refl) tt
number_traced Is end c ((q, Slash) ∷ ts) is =
    next_token q Slash (mask_traced _ end c ts (λ z m. is ((q, Slash) ∷ (z, Number m) ∷ []) (item_of.Masked c m) refl)) (λ e n us. refl)
number_traced Is end c ((q, k) ∷ ts) is = reads (item_of.One c) [] ((q, k) ∷ ts) refl (is [] (item_of.One c) refl) (λ e n others room. refl)

abbrev IsItem : Tokens → Item → Type 0
IsItem ts i = kinds ts ≡ item_tokens i

item_traced : (end : ℕ) (ts : Tokens) → Traced (simple item) IsItem end ts (item end ts)
item_traced end [] = fails (Syntax end) [] [] refl refl tt
item_traced end ((q, Number c) ∷ ts) = next_token q (Number c) (number_traced _ end c ts (λ front i e. e)) (λ e n us. refl)
item_traced end ((q, Text name) ∷ ts) = one_token q (Text name) ts (item_of.Text name) refl (λ e n others. refl)
item_traced end ((q, AddrSet name) ∷ ts) = one_token q (AddrSet name) ts (item_of.AddrSet name) refl (λ e n others. refl)
item_traced end ((q, Group name) ∷ ts) = one_token q (Group name) ts (item_of.Group name) refl (λ e n others. refl)
item_traced end ((q, k) ∷ ts) = fails (Syntax q) [] ((q, k) ∷ ts) refl refl (λ e n others room. refl)

-- what follows the first item of a set
abbrev others_of : List Item → List Token
others_of [] = CloseBrace ∷ []
others_of (j ∷ js) = Comma ∷ (item_tokens j ++ others_of js)

others_items : (i : Item) (js : List Item) → item_tokens i ++ others_of js ≡ items_tokens i js ++ CloseBrace ∷ []
others_items i [] = refl
others_items i (j ∷ js) = ap (λ xs. item_tokens i ++ Comma ∷ xs) (others_items j js) ∙ sym (append_assoc (item_tokens i) (Comma ∷ items_tokens j js) (CloseBrace ∷ []))

after_comma : (q : ℕ) (before : List Item)
    → Continues (λ e n us. items e n before us) (λ e n us. and_then (item e us) (λ i rest. items e n (before ++ i ∷ []) rest)) (q, Comma)
after_comma q before end zero ts room = absurd (omega arith)
after_comma q before end (suc n) ts room = (n, omega arith, refl)

items_traced : (Is : Tokens → Right → Type 0) (end m : ℕ) (before : List Item) (ts : Tokens) → length ts ≤ m
    → ((front : Tokens) (js : List Item) → kinds front ≡ others_of js → Is front (right_of.Set (before ++ js)))
    → Traced (λ e n us. items e n before us) Is end ts (items end m before ts)
items_traced Is end m before [] room is = fails (Syntax end) [] [] refl refl tt
items_traced Is end m before ((q, CloseBrace) ∷ ts) room is =
    let P : List Item → Type 0 = λ js. Is ((q, CloseBrace) ∷ []) (right_of.Set js) in
    one_token q CloseBrace ts (right_of.Set before) (subst P (append-nil before) (is ((q, CloseBrace) ∷ []) [] refl)) (λ e n others. refl)
items_traced Is end zero before ((q, Comma) ∷ ts) room is = absurd (omega arith)
items_traced Is end (suc m) before ((q, Comma) ∷ ts) room is =
    next_round q Comma (then_traced (simple item) (λ i e n us. items e n (before ++ i ∷ []) us) IsItem _ end m ts (omega arith) (item_traced end ts)
    (λ front i rest less one. items_traced _ end m (before ++ i ∷ []) rest less (λ back js each.
    let P : List Item → Type 0 = λ is. Is ((q, Comma) ∷ (front ++ back)) (right_of.Set is) in
    let tokens : kinds (front ++ back) ≡ item_tokens i ++ others_of js =
    kinds_append front back ∙ ap (λ xs. xs ++ kinds back) one ∙ ap (λ xs. item_tokens i ++ xs) each in
    subst P (sym (append_assoc before (i ∷ []) js)) (is ((q, Comma) ∷ (front ++ back)) (i ∷ js) (ap (λ xs. Comma ∷ xs) tokens))))) (after_comma q before)
items_traced Is end m before ((q, k) ∷ ts) room is = fails (Syntax q) [] ((q, k) ∷ ts) refl refl (λ e n others room. refl)

abbrev lone : ℕ → Tokens → Reading Right
lone end ts = and_then (item end ts) (λ i rest. Read (right_of.Item i) rest)

right_traced : (end : ℕ) (ts : Tokens) → Traced (simple right) (λ front s. IsRight (kinds front) s) end ts (right end ts)
right_traced end [] = fails (Syntax end) [] [] refl refl tt
right_traced end ((q, OpenBrace) ∷ ts) =
    next_round q OpenBrace (then_traced (simple item) (λ i e n us. items e n (i ∷ []) us) IsItem _ end (length ts) ts (same (length ts))
    (item_traced end ts)
    (λ front i rest room one. items_traced _ end (length ts) (i ∷ []) rest room (λ back js each.
    ap (λ xs. OpenBrace ∷ xs) (kinds_append front back ∙ ap (λ xs. xs ++ kinds back) one ∙ ap (λ xs. item_tokens i ++ xs) each
    ∙ others_items i js)))) (λ e n us room. (length us, same (length us), refl))
right_traced end ((q, k) ∷ ts) = read_alike (simple right) (simple lone) (q, k) (λ e n us. refl) ts (λ front s is. is)
    (map_traced (simple item) (λ i. right_of.Item i) (item_traced end ((q, k) ∷ ts)) (λ front i is. is))

-- Units.

compared_traced : (Is : Tokens → Formula Atom → Type 0) (end : ℕ) (p : Part) (ts : Tokens) → Is [] (Leaf (Bare p))
    → ((q : ℕ) (r : Rel) (front : Tokens) (s : Right) → IsRight (kinds front) s → Is ((q, Relation r) ∷ front) (Leaf (Compare p r s)))
    → Traced (simple (λ e. compared e p)) Is end ts (compared end p ts)
compared_traced Is end p [] bare is = reads (Leaf (Bare p)) [] [] refl bare tt
compared_traced Is end p ((q, Relation r) ∷ ts) bare is = next_token q (Relation r)
    (map_traced (simple right) (λ s. Leaf (Compare p r s)) (right_traced end ts) (λ front s whole. is q r front s whole)) (λ e n us. refl)
compared_traced Is end p ((q, k) ∷ ts) bare is = reads (Leaf (Bare p)) [] ((q, k) ∷ ts) refl bare (λ e n others room. refl)

closed_traced : (Is : Tokens → Formula Atom → Type 0) (end : ℕ) (f : Formula Atom) (ts : Tokens) → ((z : ℕ) → Is ((z, Close) ∷ []) f)
    → Traced (simple (λ e. closed e f)) Is end ts (closed end f ts)
closed_traced Is end f [] is = fails (Syntax end) [] [] refl refl tt
closed_traced Is end f ((q, Close) ∷ ts) is = one_token q Close ts f (is q) (λ e n others. refl)
closed_traced Is end f ((q, k) ∷ ts) is = fails (Syntax q) [] ((q, k) ∷ ts) refl refl (λ e n others room. refl)

module _ (n : ℕ) where
  abbrev pub operands : Reader (Formula Atom)
  operands = λ e m us. operand e (levels e n) us

  abbrev pub units : Reader (Formula Atom)
  units = λ e m us. unit e (levels e n) us

  abbrev pub matches : Reader (Formula Atom)
  matches = λ e m us. whole e (levels e n) us

-- what is inside the next level
record Level (n : ℕ) : Type 0 where
  as_operand : (end : ℕ) (ts : Tokens) → Traced (operands n) (IsOperand n) end ts (operand end (levels end n) ts)
  as_match : (end : ℕ) (ts : Tokens) → Traced (matches n) (IsMatch n) end ts (whole end (levels end n) ts)

abbrev Deeper : ℕ → Type 0
Deeper zero = Unit {0}
Deeper (suc n) = Level n

-- `0` and `1`, by what the tests say
abbrev tested : ℕ → Bool → Bool → Tokens → Reading (Formula Atom)
tested q zeroed one ts = if zeroed then Read (Leaf (Truth false)) ts else (if one then Read (Leaf (Truth true)) ts else Fails (Syntax q))

truth_traced : (n end q : ℕ) (f : Form) (v : ℕ) (ts : Tokens) (zeroed one : Bool) → (is_decimal f && (v == 0)) ≡ zeroed → (is_decimal f && (v == 1)) ≡ one
    → Traced (operands n) (IsOperand n) end ((q, Number (record { form = f; value = v })) ∷ ts) (tested q zeroed one ts)
truth_traced n end q form.Dec v ts true one d e = one_token q (decimal v) ts (Leaf (Truth false))
    (is_truth false (ap (λ m. decimal m ∷ []) (eqb-true v 0 d))) (λ a b others. λ i. tested q (d i) (e i) others)
truth_traced n end q form.Dec v ts false true d e = one_token q (decimal v) ts (Leaf (Truth true))
    (is_truth true (ap (λ m. decimal m ∷ []) (eqb-true v 1 e))) (λ a b others. λ i. tested q (d i) (e i) others)
truth_traced n end q f v ts false false d e =
    fails (Syntax q) [] ((q, Number (record { form = f; value = v })) ∷ ts) refl refl (λ a b others room. λ i. tested q (d i) (e i) others)
truth_traced n end q f v ts zeroed one d e = absurd cc

operand_traced : (n : ℕ) → Deeper n → (end : ℕ) (ts : Tokens) → Traced (operands n) (IsOperand n) end ts (operand end (levels end n) ts)
operand_traced n deeper end [] = fails (Syntax end) [] [] refl refl tt
operand_traced zero deeper end ((q, Not) ∷ ts) = fails (TooDeep q) [] ((q, Not) ∷ ts) refl refl (λ e i others room. refl)
operand_traced (suc n) deeper end ((q, Not) ∷ ts) = next_token q Not
    (map_traced (operands n) (λ f. Negation f) (deeper.as_operand end ts) (λ front f is. is_negation q front refl is)) (λ e i us. refl)
operand_traced zero deeper end ((q, Open) ∷ ts) = fails (TooDeep q) [] ((q, Open) ∷ ts) refl refl (λ e i others room. refl)
operand_traced (suc n) deeper end ((q, Open) ∷ ts) =
    next_token q Open (then_traced (matches n) (λ f. simple (λ e. closed e f)) (IsMatch n) _ end (length ts) ts (same (length ts)) (deeper.as_match end ts)
    (λ front f rest room is. closed_traced _ end f rest (λ z. is_enclosed q z front refl is))) (λ e i us. refl)
operand_traced n deeper end ((q, Number c) ∷ ts) =
    truth_traced n end q c.form c.value ts (is_decimal c.form && (c.value == 0)) (is_decimal c.form && (c.value == 1)) refl refl
operand_traced n deeper end ((q, Name name) ∷ ts) = next_token q (Name name)
    (map_traced (simple (λ e. part e q name)) (λ p. Leaf (Bare p)) (part_traced end q name ts) (λ front p is. is_bare p is)) (λ e i us. refl)
operand_traced n deeper end ((q, k) ∷ ts) = fails (Syntax q) [] ((q, k) ∷ ts) refl refl (λ e i others room. refl)

unit_traced : (n : ℕ) → Deeper n → (end : ℕ) (ts : Tokens) → Traced (units n) (IsUnit n) end ts (unit end (levels end n) ts)
unit_traced n deeper end [] = fails (Syntax end) [] [] refl refl tt
unit_traced n deeper end ((q, Name name) ∷ ts) =
    next_token q (Name name) (then_traced (simple (λ e. part e q name)) (λ p. simple (λ e. compared e p)) _ _ end (length ts) ts (same (length ts))
    (part_traced end q name ts)
    (λ front p rest room is.
    let P : Tokens → Type 0 = λ xs. IsUnit n ((q, Name name) ∷ xs) (Leaf (Bare p)) in
    compared_traced _ end p rest (subst P (sym (append-nil front)) (plain (is_bare p is)))
    (λ z r back s whole. comparison p r s ((q, Name name) ∷ front, z, back, refl, is, whole)))) (λ e i us. refl)
unit_traced n deeper end ((q, k) ∷ ts) =
    read_alike (units n) (operands n) (q, k) (λ e i us. refl) ts (λ front f is. plain is) (operand_traced n deeper end ((q, k) ∷ ts))

-- Chains.

module _ (n : ℕ) (o : Operator) where
  -- the rest of a chain, after these units
  abbrev chains : List (Formula Atom) → Reader (Formula Atom)
  chains before = λ e m us. chain (unit e (levels e n)) o m before us

  -- a chain goes on with units after a sign, or may end here
  abbrev Goes : List (Formula Atom) → (Tokens → Formula Atom → Type 0) → Type 0
  Goes before Is = (q : ℕ) (front : Tokens) (g : Formula Atom) (gs : List (Formula Atom)) → AreUnits n o front (g ∷ gs)
      → Is ((q, sign o) ∷ front) (join o (formulas (before ++ g ∷ gs)))

  record Joins (before : List (Formula Atom)) (Is : Tokens → Formula Atom → Type 0) : Type 0 where
    ends_so : Is [] (join o (formulas before))
    goes_on : Goes before Is

  joins_more : (before : List (Formula Atom)) (Is : Tokens → Formula Atom → Type 0) (q : ℕ) (front : Tokens) (f : Formula Atom) → Goes before Is
      → IsUnit n front f → Joins (before ++ f ∷ []) (λ back g. Is ((q, sign o) ∷ (front ++ back)) g)
  joins_more before Is q front f h is =
      let P : Tokens → Type 0 = λ xs. IsUnit n xs f in
      record {
        ends_so = h q (front ++ []) f [] (last f (subst P (sym (append-nil front)) is));
        goes_on = λ z back g gs us.
            let Q : List (Formula Atom) → Type 0 = λ fs. Is ((q, sign o) ∷ (front ++ (z, sign o) ∷ back)) (join o (formulas fs)) in
            subst Q (sym (append_assoc before (f ∷ []) (g ∷ gs))) (h q (front ++ (z, sign o) ∷ back) f (g ∷ gs) (more front z back refl is us));
      }

  -- a sign, a unit and the rest of the chain
  signed : Deeper n → (end m q : ℕ) (before : List (Formula Atom)) (ts : Tokens) {reader : Reader (Formula Atom)}
      {Is : Tokens → Formula Atom → Type 0} → length ts ≤ m → Goes before Is
      → ((f : Formula Atom) (rest : Tokens) (Js : Tokens → Formula Atom → Type 0) → length rest ≤ m → Joins (before ++ f ∷ []) Js
      → Traced (chains (before ++ f ∷ [])) Js end rest (chains (before ++ f ∷ []) end m rest))
      → Continues reader (both (units n) (λ f. chains (before ++ f ∷ []))) (q, sign o)
      → Traced reader Is end ((q, sign o) ∷ ts) (and_then (unit end (levels end n) ts) (λ f rest. chains (before ++ f ∷ []) end m rest))
  signed deeper end m q before ts {reader = reader} {Is = Is} room h on go_on =
      next_round q (sign o) (then_traced (units n) (λ f. chains (before ++ f ∷ [])) (IsUnit n) _ end m ts room (unit_traced n deeper end ts)
      (λ front f rest less is. on f rest _ less (joins_more before Is q front f h is))) go_on

chain_ended : (n : ℕ) (o : Operator) (end : ℕ) (before : List (Formula Atom)) (ts : Tokens) {Is : Tokens → Formula Atom → Type 0}
    → after_operator o ts ≡ None → Joins n o before Is → Traced (chains n o before) Is end ts (chain_end o before ts)
chain_ended n operator.And end before [] none h = reads _ [] [] refl h.ends_so tt
chain_ended n operator.And end before ((q, And) ∷ ts) none h = absurd cc
chain_ended n operator.And end before ((q, Or) ∷ ts) none h =
    fails (Mixed q) [] ((q, Or) ∷ ts) refl refl (λ e m others room. ends (unit e (levels e n)) operator.And m before ((q, Or) ∷ others) refl)
chain_ended n operator.And end before ((q, k) ∷ ts) none h =
    reads _ [] ((q, k) ∷ ts) refl h.ends_so (λ e m others room. ends (unit e (levels e n)) operator.And m before ((q, k) ∷ others) refl)
chain_ended n operator.Or end before [] none h = reads _ [] [] refl h.ends_so tt
chain_ended n operator.Or end before ((q, Or) ∷ ts) none h = absurd cc
chain_ended n operator.Or end before ((q, And) ∷ ts) none h =
    fails (Mixed q) [] ((q, And) ∷ ts) refl refl (λ e m others room. ends (unit e (levels e n)) operator.Or m before ((q, And) ∷ others) refl)
chain_ended n operator.Or end before ((q, k) ∷ ts) none h =
    reads _ [] ((q, k) ∷ ts) refl h.ends_so (λ e m others room. ends (unit e (levels e n)) operator.Or m before ((q, k) ∷ others) refl)

after_sign : (n : ℕ) (o : Operator) (before : List (Formula Atom)) (q : ℕ)
    → Continues (chains n o before) (both (units n) (λ f. chains n o (before ++ f ∷ []))) (q, sign o)
after_sign n o before q end zero ts room = absurd (omega arith)
after_sign n o before q end (suc m) ts room = (m, omega arith, signed_step (unit end (levels end n)) o m before q ts)

chain_traced : (n : ℕ) (deeper : Deeper n) (o : Operator) (end m : ℕ) (before : List (Formula Atom)) (ts : Tokens)
    (Is : Tokens → Formula Atom → Type 0) → length ts ≤ m → Joins n o before Is
    → Traced (chains n o before) Is end ts (chain (unit end (levels end n)) o m before ts)
chain_traced n deeper operator.And end zero before [] Is room h = chain_ended n operator.And end before [] refl h
chain_traced n deeper operator.Or end zero before [] Is room h = chain_ended n operator.Or end before [] refl h
chain_traced n deeper o end zero before (t ∷ ts) Is room h = absurd (omega arith)
chain_traced n deeper operator.And end (suc m) before ((q, And) ∷ ts) Is room h =
    signed n operator.And deeper end m q before ts (omega arith) h.goes_on
    (λ f rest Js less g. chain_traced n deeper operator.And end m (before ++ f ∷ []) rest Js less g) (after_sign n operator.And before q)
chain_traced n deeper operator.And end (suc m) before ts Is room h = chain_ended n operator.And end before ts refl h
chain_traced n deeper operator.Or end (suc m) before ((q, Or) ∷ ts) Is room h =
    signed n operator.Or deeper end m q before ts (omega arith) h.goes_on
    (λ f rest Js less g. chain_traced n deeper operator.Or end m (before ++ f ∷ []) rest Js less g) (after_sign n operator.Or before q)
chain_traced n deeper operator.Or end (suc m) before ts Is room h = chain_ended n operator.Or end before ts refl h

joined_traced : (n : ℕ) → Deeper n → (end : ℕ) (f : Formula Atom) (ts : Tokens) (Is : Tokens → Formula Atom → Type 0) → Is [] f
    → ((o : Operator) → Goes n o (f ∷ []) Is)
    → Traced (λ e m us. joined e (levels e n) f us) Is end ts (joined end (levels end n) f ts)
joined_traced n deeper end f [] Is is goes = reads f [] [] refl is tt
joined_traced n deeper end f ((q, And) ∷ ts) Is is goes =
    signed n operator.And deeper end (length ts) q (f ∷ []) ts (same (length ts)) (goes operator.And)
    (λ g rest Js less h. chain_traced n deeper operator.And end (length ts) (f ∷ g ∷ []) rest Js less h)
    (λ e m us room. (length us, same (length us), refl))
joined_traced n deeper end f ((q, Or) ∷ ts) Is is goes =
    signed n operator.Or deeper end (length ts) q (f ∷ []) ts (same (length ts)) (goes operator.Or)
    (λ g rest Js less h. chain_traced n deeper operator.Or end (length ts) (f ∷ g ∷ []) rest Js less h)
    (λ e m us room. (length us, same (length us), refl))
joined_traced n deeper end f ((q, k) ∷ ts) Is is goes = reads f [] ((q, k) ∷ ts) refl is (λ e m others room. refl)

whole_traced : (n : ℕ) → Deeper n → (end : ℕ) (ts : Tokens) → Traced (matches n) (IsMatch n) end ts (whole end (levels end n) ts)
whole_traced n deeper end ts =
    then_traced (units n) (λ f e m us. joined e (levels e n) f us) (IsUnit n) (IsMatch n) end (length ts) ts (same (length ts))
    (unit_traced n deeper end ts) (λ front f rest room is.
    let P : Tokens → Type 0 = λ xs. IsMatch n xs f in
    joined_traced n deeper end f rest _ (subst P (sym (append-nil front)) (alone is))
    (λ o q back g gs us. is_joined o f g gs (more front q back refl is us)))

level : (n : ℕ) → Deeper n
level zero = tt
level (suc n) = record { as_operand = operand_traced n (level n); as_match = whole_traced n (level n) }

-- Whole texts.

finished_at : (len end : ℕ) (v f : Formula Atom) (b : Bool) → (end == len) ≡ b → (if b then Read v [] else Fails (Syntax end)) ≡ Read f []
    → (end ≡ len) × (v ≡ f)
finished_at len end v f true t e = (eqb-true end len t, cc)
finished_at len end v f false t e = absurd cc

taken : (n len end : ℕ) (ts : Tokens) (f : Formula Atom) {r : Reading (Formula Atom)} → Traced (matches n) (IsMatch n) end ts r
    → and_then r (finished len end) ≡ Read f [] → (end ≡ len) × IsMatch n ts f
taken n len end ts f (reads v front [] e is h) d =
    let whole = finished_at len end v f (end == len) refl d in
    let P : Tokens → Type 0 = λ xs. IsMatch n xs f in
    (whole.0, subst P (sym (e ∙ append-nil front)) (subst (IsMatch n front) whole.1 is))
taken n len end ts f (reads v front (t ∷ rest) e is h) d = absurd cc
taken n len end ts f (fails g front rest e at h) d = absurd cc

pub what_is_read : (text : List ℕ) (f : Formula Atom) → reading text ≡ Read f [] → IsText text f
what_is_read text f e = taken level_limit (length text) (tokens_of text).1 (tokens_of text).0 f
    (whole_traced level_limit (level level_limit) (tokens_of text).1 (tokens_of text).0) e

-- the fault is at one of these tokens, and is that of all tokens that begin with those up to and with it
abbrev pub Decided : Tokens → MatchFault → Type 0
Decided ts f = (front : Tokens) × (t : ℕ × Token) × (rest : Tokens) × (ts ≡ front ++ t ∷ rest) × (fault_offset f ≡ t.0) ×
    ((len end : ℕ) (others : Tokens) → match_of len (front ++ t ∷ others, end) ≡ Fails f)

at_end : (end : ℕ) (v : Formula Atom) (f : MatchFault) (b : Bool) → (if b then Read v [] else Fails (Syntax end)) ≡ Fails f → fault_offset f ≡ end
at_end end v f true d = absurd cc
at_end end v f false d = let fault : Syntax end ≡ f = cc in ap fault_offset (sym fault)

decided : (len end : ℕ) (ts : Tokens) (f : MatchFault) {r : Reading (Formula Atom)} → Traced (matches level_limit) (IsMatch level_limit) end ts r
    → and_then r (finished len end) ≡ Fails f → fault_offset f < end → Decided ts f
decided len end ts f (reads v front [] e is h) d past = absurd (omega (arith, past, at_end end v f (end == len) d))
decided len end ts f (reads v front (t ∷ rest) e is h) d past =
    let fault : Syntax t.0 ≡ f = cc in (
      front,
      t,
      rest,
      e,
      ap fault_offset (sym fault),
      λ n stop others. ap (λ r. and_then r (finished n stop))
          (h stop (length (front ++ t ∷ others)) others (same (length (front ++ t ∷ others)))) ∙ ap (λ g. Fails g) fault,
    )
decided len end ts f (fails g front [] e at h) d past = let fault : g ≡ f = cc in absurd (omega (arith, past, ap fault_offset (sym fault) ∙ at))
decided len end ts f (fails g front (t ∷ rest) e at h) d past =
    let fault : g ≡ f = cc in (
      front,
      t,
      rest,
      e,
      ap fault_offset (sym fault) ∙ at,
      λ n stop others. ap (λ r. and_then r (finished n stop))
          (h stop (length (front ++ t ∷ others)) others (same (length (front ++ t ∷ others)))) ∙ ap (λ x. Fails x) fault,
    )

pub fault_decided : (len end : ℕ) (ts : Tokens) (f : MatchFault) → match_of len (ts, end) ≡ Fails f → fault_offset f < end → Decided ts f
fault_decided len end ts f d past = decided len end ts f (whole_traced level_limit (level level_limit) end ts) d past
