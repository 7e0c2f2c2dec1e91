-- The text of a tree has the tree's tokens: bits, parts, atoms and operands before a text.
use Rattle.std.proofs.Common.{◌≡◌, ℕ, suc, ◌+◌, ◌-◌, ◌<◌, ◌≤◌, Bool, true, false, cond, eqb, ◌||◌, List, [], ◌∷◌, ◌++◌, length}
use Rattle.std.proofs.Common.{take, get_or, Option, Some, None, refl, ap, sym, subst, ◌∙◌, arith, decimal, append_assoc, length-append, append-nil}
use Rattle.std.proofs.Math.Seq.{take-append_seam, take-append-add}
use Rattle.nv_base.proofs.ByteTrips.{decimal_is_clear}
use Rattle.nv_base.proofs.RoundTrips.{decimal_is_read}
use Rattle.expr_core.specs.Text.{item_text, items_text, right_text, part_text, truth_text, enclosed, formula_text, operands_text, relation_text}
use Rattle.expr_core.specs.declared.constant.Form.TheVariants as form
use Rattle.expr_core.specs.declared.comparison.Item.TheVariants as item_of
use Rattle.expr_core.specs.declared.comparison.Right.TheVariants as right_of
use Rattle.expr_parse.proofs.Words.{is_digit, All, list_all, option_map, and_parts, and_right, eqb-false, false≢true, list_all-append}
use Rattle.expr_parse.proofs.Words.{ip4_of, Ip4, mac_of, decimal_of, Bits, Whole, Bit, Range, bits_text, Digit}
use Rattle.expr_parse.proofs.Words.{class_of, Token, Number, CloseBracket, Dots, constant, constant_of, number_after_0x, spelled, is_blank, blanks}
use Rattle.expr_parse.proofs.Words.{first_token, decimal_token, bits_tokens, AreBits, Const, Item, Right, Atom, Truth, Bare, Compare, Part}
use Rattle.expr_parse.proofs.Words.{const_text, rel_text, atom_text, Name, AddrSet, Group, Relation, Slash, Comma, OpenBrace, CloseBrace}
use Rattle.expr_parse.proofs.Words.{truth_number, item_tokens, items_tokens, IsConst, IsItem, AreItems, IsRightSide, IsPartName, IsLeaf, part_tokens}
use Rattle.expr_parse.proofs.Words.{right_tokens, atom_tokens, Formula, Formulas, Leaf, Negation, Conjunction, Disjunction, Nil, Cons, is_joined}
use Rattle.expr_parse.proofs.Words.{needs_parentheses, expr_writing, expr_text, Letter, Other, begins_name, And, Or, Open, Close, is_in_name, is_name}
use Rattle.expr_parse.proofs.Words.{IsLexed, enclosed_tokens, tree_tokens, operand_tokens, more_tokens, AreTwo, IsWellFormed, AreWellFormed}
use Rattle.expr_parse.proofs.Longest.{none_from, NoneBetween, found}
use Rattle.expr_parse.proofs.Fronts.{decimal_class, apart, fronts, spelled_by}
use Rattle.expr_const.proofs.Misses.{no_decimal, no_address}
use Rattle.expr_parse.proofs.Shapes.{decimal_parts, hexadecimal_parts, mac_digits}
use Rattle.expr_parse.proofs.Lexed.{Lexed, respelled, token, constant_from, constant_word, opening_bracket, closing_bracket, dots, leads, no_blank, word, regrouped, three_pieces, blank}
use Rattle.expr_parse.proofs.Lexed.{quotes, slash, comma, opening_brace, closing_brace, relation, Stops, IsWord, name_word, set_word, group_word, nothing, opening, closing, negation, conjunction}
use Rattle.expr_parse.proofs.Lexed.{disjunction, name_class}

-- a test that one byte of a text fails
fails_at : (q : ℕ → Bool) (xs : List ℕ) (y : ℕ) (ys : List ℕ) → q y ≡ false → list_all q (xs ++ y ∷ ys) ≡ false
fails_at q xs y ys e = rw (list_all-append q xs (y ∷ ys), e, and_right (list_all q xs) false refl) refl

-- after a digit there is no mark that is neither a digit nor the dot
no_mark : (digit : ℕ → Bool) (a dot mark x : ℕ) (xs ys ds : List ℕ) → eqb dot mark ≡ false → digit mark ≡ false → list_all digit (x ∷ xs) ≡ true → x ∷ (xs ++ dot ∷ ys) ≡ a ∷ mark ∷ ds → ⊥
no_mark digit a dot mark x [] ys ds other apart all e = eqb-false dot mark other (ap (λ (l : List ℕ). get_or l 1 0) e)
no_mark digit a dot mark x (y ∷ xs) ys ds other apart all e =
    let second : y ≡ mark = ap (λ (l : List ℕ). get_or l 1 0) e in
    let rest = (and_parts (digit x) (list_all digit (y ∷ xs)) all).1 in
    let passes = (and_parts (digit y) (list_all digit xs) rest).0 in
    false≢true (sym apart ∙ subst (λ (n : ℕ). digit n ≡ true) second passes)

-- what has a dot, and is no number after `0x`, MAC or address, is no constant
missing : (text : List ℕ) → ((q : ℕ → Bool) → q 46 ≡ false → list_all q text ≡ false) → number_after_0x text ≡ None → mac_of text ≡ None → ip4_of text ≡ None → constant_of text ≡ None
missing text fails f g i = none (decimal_of text) (number_after_0x text) (mac_of text) (ip4_of text) (no_decimal text (fails (λ c. is_digit c 10) refl)) f g i
  where
    none : (d h m : Option ℕ) (a : Option Ip4) → d ≡ None → h ≡ None → m ≡ None → a ≡ None → constant_from d h m a ≡ None
    none d h m a e f g i = rw (e, f, g, i) refl

-- digits, a dot, and a front of what begins with a dot are no constant
no_constant : (x : ℕ) (xs rest : List ℕ) (j : ℕ) → list_all (λ c. is_digit c 10) (x ∷ xs) ≡ true → All (λ x. eqb x 46 ≡ false) (x ∷ xs) → constant_of (x ∷ (xs ++ 46 ∷ take j (46 ∷ rest))) ≡ None
no_constant x xs rest j digits clear = missing (x ∷ (xs ++ 46 ∷ take j (46 ∷ rest))) fails hexadecimal mac (no_address (x ∷ xs) rest j clear)
  where
    fails : (q : ℕ → Bool) → q 46 ≡ false → list_all q (x ∷ (xs ++ 46 ∷ take j (46 ∷ rest))) ≡ false
    fails q e = fails_at q (x ∷ xs) 46 (take j (46 ∷ rest)) e

    hexadecimal : number_after_0x (x ∷ (xs ++ 46 ∷ take j (46 ∷ rest))) ≡ None
    hexadecimal = none_from _ (λ n e. let parts = hexadecimal_parts (x ∷ (xs ++ 46 ∷ take j (46 ∷ rest))) n e in no_mark (λ c. is_digit c 10) 48 46 120 x xs (take j (46 ∷ rest)) parts.0 refl refl digits parts.1)

    mac : mac_of (x ∷ (xs ++ 46 ∷ take j (46 ∷ rest))) ≡ None
    mac = none_from _ (λ n e. false≢true (sym (fails (λ c. is_digit c 16 || eqb c 58) refl) ∙ mac_digits (x ∷ (xs ++ 46 ∷ take j (46 ∷ rest))) n e))

-- digits before two dots
before_dots : (x : ℕ) (xs rest : List ℕ) (t : Token) (ts : List Token) → spelled (x ∷ xs) ≡ Some t → list_all (λ c. is_digit c 10) (x ∷ xs) ≡ true → All (λ x. eqb x 46 ≡ false) (x ∷ xs) → Lexed (46 ∷ 46 ∷ rest) ts → Lexed (x ∷ (xs ++ 46 ∷ 46 ∷ rest)) (t ∷ ts)
unfolding leads
before_dots x xs rest t ts is digits clear after =
    let plain : cond (is_blank x) (1 + blanks (xs ++ 46 ∷ 46 ∷ rest)) 0 ≡ 0 = rw (no_blank x (ap leads class)) refl in
    let here : spelled (take (suc (length xs)) (x ∷ (xs ++ 46 ∷ 46 ∷ rest))) ≡ Some t = ap (λ (ys : List ℕ). spelled (x ∷ ys)) (take-append_seam xs (46 ∷ 46 ∷ rest)) ∙ is in
    let front : first_token (x ∷ (xs ++ 46 ∷ 46 ∷ rest)) ≡ Some (t, suc (length xs)) =
    found spelled (suc (length xs)) (length (x ∷ (xs ++ 46 ∷ 46 ∷ rest))) (x ∷ (xs ++ 46 ∷ 46 ∷ rest)) t (omega arith) (omega (arith, length-append xs (46 ∷ 46 ∷ rest))) here longer in
    token (x ∷ xs) (46 ∷ 46 ∷ rest) t ts plain (omega arith) front after
  where
    class : class_of x ≡ Digit
    class = decimal_class x (and_parts (is_digit x 10) (list_all (λ c. is_digit c 10) xs) digits).0

    cut : (k : ℕ) → suc (length xs) < k → take k (x ∷ (xs ++ 46 ∷ 46 ∷ rest)) ≡ x ∷ (xs ++ 46 ∷ take (k - length (x ∷ xs) - 1) (46 ∷ rest))
    cut k past =
        let far : k ≡ length (x ∷ xs) + suc (k - length (x ∷ xs) - 1) = omega (arith, past) in
        ap (λ (n : ℕ). take n (x ∷ (xs ++ 46 ∷ 46 ∷ rest))) far ∙ take-append-add (x ∷ xs) (46 ∷ 46 ∷ rest) (suc (k - length (x ∷ xs) - 1))

    longer : NoneBetween spelled (suc (length xs)) (length (x ∷ (xs ++ 46 ∷ 46 ∷ rest))) (x ∷ (xs ++ 46 ∷ 46 ∷ rest))
    longer k past high =
        fronts Digit (x ∷ (xs ++ 46 ∷ 46 ∷ rest)) k (omega arith) class (omega (arith, past))
        ∙ ap (λ (ys : List ℕ). option_map Number (constant_of ys)) (cut k past) ∙ ap (option_map Number) (no_constant x xs rest (k - length (x ∷ xs) - 1) digits clear)

-- the number of a bit before two dots
first_bit : (m : ℕ) (rest : List ℕ) (ts : List Token) → m ≤ 255 → Lexed (46 ∷ 46 ∷ rest) ts → Lexed (decimal m ++ 46 ∷ 46 ∷ rest) (decimal_token m ∷ ts)
first_bit m rest ts small after =
    let is = constant_word (constant form.Dec m) (omega (arith, small)) in
    let P : List ℕ → Type 0 = λ v. spelled v ≡ Some (decimal_token m) in
    let Q : List ℕ → Type 0 = λ v. list_all (λ c. is_digit c 10) v ≡ true in
    let R : List ℕ → Type 0 = λ v. All (λ x. eqb x 46 ≡ false) v in
    let S : List ℕ → Type 0 = λ v. Lexed (v ++ 46 ∷ 46 ∷ rest) (decimal_token m ∷ ts) in
    let digits = (decimal_parts (decimal m) m (decimal_is_read m (omega (arith, small)))).1 in
    let clear = decimal_is_clear 46 m (omega arith) (omega (arith, small)) in
    subst S (sym is.2) (before_dots is.0 is.1 rest (decimal_token m) ts (subst P is.2 is.4) (subst Q is.2 digits) (subst R is.2 clear) after)

-- the last number before the bracket
last_bit : (n : ℕ) (rest : List ℕ) (ts : List Token) → n ≤ 255 → Lexed rest ts → Lexed ((decimal n ++ 93 ∷ []) ++ rest) (decimal_token n ∷ CloseBracket ∷ ts)
last_bit n rest ts small after =
    respelled _ _ (decimal_token n ∷ CloseBracket ∷ ts) (append_assoc (decimal n) (93 ∷ []) rest) (word (decimal n) (93 ∷ rest) (decimal_token n) (CloseBracket ∷ ts) (constant_word (constant form.Dec n) (omega (arith, small))) refl (closing_bracket rest ts after))

-- pieces in a row, from the first
four_pieces : (a b c d e : List ℕ) → (((a ++ b) ++ c) ++ d) ++ e ≡ a ++ (b ++ ((c ++ d) ++ e))
four_pieces a b c d e = simp append_assoc refl

-- the bits of a part
pub bits : (b : Bits) (rest : List ℕ) (ts : List Token) → AreBits b → Lexed rest ts → Lexed (bits_text b ++ rest) (bits_tokens b ++ ts)
bits Whole rest ts are after = after
bits (Bit n) rest ts are after = opening_bracket ((decimal n ++ 93 ∷ []) ++ rest) (decimal_token n ∷ CloseBracket ∷ ts) (last_bit n rest ts are after)
bits (Range m n) rest ts are after =
    let last = last_bit n rest ts are.1 after in
    let more = dots ((decimal n ++ 93 ∷ []) ++ rest) (decimal_token n ∷ CloseBracket ∷ ts) last in
    let both = first_bit m ((decimal n ++ 93 ∷ []) ++ rest) (Dots ∷ decimal_token n ∷ CloseBracket ∷ ts) are.0 more in
    let whole : (((decimal m ++ 46 ∷ 46 ∷ []) ++ decimal n) ++ 93 ∷ []) ++ rest ≡ decimal m ++ 46 ∷ 46 ∷ ((decimal n ++ 93 ∷ []) ++ rest) = four_pieces (decimal m) (46 ∷ 46 ∷ []) (decimal n) (93 ∷ []) rest in
    opening_bracket ((((decimal m ++ 46 ∷ 46 ∷ []) ++ decimal n) ++ 93 ∷ []) ++ rest) (decimal_token m ∷ Dots ∷ decimal_token n ∷ CloseBracket ∷ ts) (respelled _ _ (decimal_token m ∷ Dots ∷ decimal_token n ∷ CloseBracket ∷ ts) whole both)

-- Items, right sides, parts and comparisons before a text.

number : (c : Const) (rest : List ℕ) (ts : List Token) → IsConst c → Stops rest → Lexed rest ts → Lexed (const_text c ++ rest) (Number c ∷ ts)
number c rest ts small stop after = word (const_text c) rest (Number c) ts (constant_word c small) stop after

item : (i : Item) (rest : List ℕ) (ts : List Token) → IsItem i → Stops rest → Lexed rest ts → Lexed (item_text i ++ rest) (item_tokens i ++ ts)
item (item_of.One c) rest ts is stop after = number c rest ts is stop after
item (item_of.Masked c m) rest ts is stop after =
    respelled _ _ (Number c ∷ Slash ∷ Number m ∷ ts) (three_pieces (const_text c) (47 ∷ []) (const_text m) rest)
    (number c (47 ∷ (const_text m ++ rest)) (Slash ∷ Number m ∷ ts) is.0 refl (slash (const_text m ++ rest) (Number m ∷ ts) (number m rest ts is.1 stop after)))
item (item_of.Text name) rest ts is stop after = quotes name rest ts is after
item (item_of.AddrSet name) rest ts is stop after = word (36 ∷ name) rest (AddrSet name) ts (set_word name is) stop after
item (item_of.Group name) rest ts is stop after = word (64 ∷ name) rest (Group name) ts (group_word name is) stop after

-- an item and those after it
items : (i : Item) (is : List Item) (rest : List ℕ) (ts : List Token) → IsItem i → AreItems is → Stops rest → Lexed rest ts → Lexed (item_text i ++ (items_text (44 ∷ 32 ∷ []) is ++ rest)) (items_tokens i is ++ ts)
items i [] rest ts one all stop after = item i rest ts one stop after
items i (j ∷ js) rest ts one all stop after =
    let more = items j js rest ts all.0 all.1 stop after in
    let front = item i (44 ∷ 32 ∷ (item_text j ++ (items_text (44 ∷ 32 ∷ []) js ++ rest))) (Comma ∷ (items_tokens j js ++ ts)) one refl (comma _ _ more) in
    regrouped _ _ _ _ (ap (λ (xs : List ℕ). item_text i ++ 44 ∷ 32 ∷ xs) (append_assoc (item_text j) (items_text (44 ∷ 32 ∷ []) js) rest)) (append_assoc (item_tokens i) (Comma ∷ items_tokens j js) ts) front

right : (s : Right) (rest : List ℕ) (ts : List Token) → IsRightSide s → Stops rest → Lexed rest ts → Lexed (right_text s ++ rest) (right_tokens s ++ ts)
right (right_of.Item i) rest ts is stop after = item i rest ts is stop after
right (right_of.Set []) rest ts is stop after = absurd is
right (right_of.Set (i ∷ is)) rest ts all stop after =
    let inner = items i is (125 ∷ rest) (CloseBrace ∷ ts) all.0 all.1 refl (closing_brace rest ts after) in
    regrouped _ _ _ _ (ap (λ (xs : List ℕ). 123 ∷ xs) (three_pieces (item_text i) (items_text (44 ∷ 32 ∷ []) is) (125 ∷ []) rest)) (ap (λ (us : List Token). OpenBrace ∷ us) (append_assoc (items_tokens i is) (CloseBrace ∷ []) ts)) (opening_brace _ _ inner)

-- no name continues with the bits of its part
bits_stop : (b : Bits) (rest : List ℕ) → Stops rest → Stops (bits_text b ++ rest)
bits_stop Whole rest stop = stop
bits_stop (Bit n) rest stop = refl
bits_stop (Range m n) rest stop = refl

part : (p : Part) (rest : List ℕ) (ts : List Token) → IsPartName p → Stops rest → Lexed rest ts → Lexed (part_text p ++ rest) (part_tokens p ++ ts)
part p rest ts is stop after =
    respelled _ _ (Name p.name ∷ (bits_tokens p.bits ++ ts)) (append_assoc p.name (bits_text p.bits) rest)
    (word p.name (bits_text p.bits ++ rest) (Name p.name) (bits_tokens p.bits ++ ts) (name_word p.name is.0) (bits_stop p.bits rest stop) (bits p.bits rest ts is.1 after))

truth_word : (b : Bool) → IsWord (truth_text b) (decimal_token (truth_number b))
unfolding leads
truth_word true = (49, [], refl, refl, spelled_by Digit 49 [] refl)
truth_word false = (48, [], refl, refl, spelled_by Digit 48 [] refl)

pub atom : (a : Atom) (rest : List ℕ) (ts : List Token) → IsLeaf a → Stops rest → Lexed rest ts → Lexed (atom_text a ++ rest) (atom_tokens a ++ ts)
atom (Truth b) rest ts is stop after = word (truth_text b) rest (decimal_token (truth_number b)) ts (truth_word b) stop after
atom (Bare p) rest ts is stop after = part p rest ts is stop after
atom (Compare p r s) rest ts is stop after =
    let side = right s rest ts is.1 stop after in
    let sign = relation r (right_text s ++ rest) (right_tokens s ++ ts) side in
    let front = part p (32 ∷ (rel_text r ++ 32 ∷ (right_text s ++ rest))) (Relation r ∷ (right_tokens s ++ ts)) is.0 refl (blank _ _ sign) in
    regrouped _ _ _ _ (pieces (part_text p) (32 ∷ []) (rel_text r) (32 ∷ []) (right_text s) rest) (append_assoc (part_tokens p) (Relation r ∷ right_tokens s) ts) front
  where
    pieces : (a b c d e f : List ℕ) → (a ++ (((b ++ c) ++ d) ++ e)) ++ f ≡ a ++ (b ++ (c ++ (d ++ (e ++ f))))
    pieces a b c d e f = simp append_assoc refl

-- The text of a tree has the tree's tokens.

-- what begins with another byte than `=`
abbrev Begins : List ℕ → Type 0
Begins text = (x : ℕ) × (xs : List ℕ) × (text ≡ x ∷ xs) × (eqb 61 x ≡ false)

and_more : (text more : List ℕ) → Begins text → Begins (text ++ more)
and_more text more b = (b.0, b.1 ++ more, ap (λ (xs : List ℕ). xs ++ more) b.2, b.3)

first_byte : (text rest : List ℕ) → Begins text → eqb 61 (get_or (text ++ rest) 0 0) ≡ false
first_byte text rest b = let P : List ℕ → Type 0 = λ xs. eqb 61 (get_or (xs ++ rest) 0 0) ≡ false in subst P (sym b.2) b.3

name_begins : (name : List ℕ) → is_name name ≡ true → Begins name
name_begins [] e = absurd cc
name_begins (x ∷ xs) e = (x, xs, refl, apart 61 x (λ same. differ (same ∙ name_class x (and_parts (begins_name x) (list_all is_in_name xs) e).0)))
  where
    differ : Other ≡ Letter → ⊥
    differ e = cc

atom_begins : (a : Atom) → IsLeaf a → Begins (atom_text a)
atom_begins (Truth true) is = (49, [], refl, refl)
atom_begins (Truth false) is = (48, [], refl, refl)
atom_begins (Bare p) is = and_more p.name (bits_text p.bits) (name_begins p.name is.0)
atom_begins (Compare p r s) is = and_more (p.name ++ bits_text p.bits) (relation_text r s) (and_more p.name (bits_text p.bits) (name_begins p.name is.0.0))

enclosed_begins : (b : Bool) (text : List ℕ) → Begins text → Begins (enclosed b text)
enclosed_begins true text begins = (40, text ++ 41 ∷ [], refl, refl)
enclosed_begins false text begins = and_more text [] begins

mutual
  tree_begins : (f : Formula Atom) → IsWellFormed IsLeaf f → Begins (formula_text expr_writing f)
  tree_begins (Leaf a) is = atom_begins a is
  tree_begins (Negation f) is = (33, enclosed (needs_parentheses expr_writing f) (formula_text expr_writing f), refl, refl)
  tree_begins (Conjunction fs) is = operands_begin (32 ∷ 38 ∷ 38 ∷ 32 ∷ []) fs is.0 is.1
  tree_begins (Disjunction fs) is = operands_begin (32 ∷ 124 ∷ 124 ∷ 32 ∷ []) fs is.0 is.1

  operands_begin : (operator : List ℕ) (fs : Formulas Atom) → AreTwo fs → AreWellFormed IsLeaf fs → Begins (operands_text expr_writing [] operator fs)
  operands_begin operator Nil two all = absurd two
  operands_begin operator (Cons f fs) two all = and_more (enclosed (is_joined f) (formula_text expr_writing f)) (operands_text expr_writing operator operator fs) (enclosed_begins (is_joined f) (formula_text expr_writing f) (tree_begins f all.0))

-- a text has these tokens before any rest with which no word continues
abbrev Lexes : List ℕ → List Token → Type 0
Lexes text us = (rest : List ℕ) (ts : List Token) → Stops rest → Lexed rest ts → Lexed (text ++ rest) (us ++ ts)

in_parentheses : (b : Bool) (text : List ℕ) (us : List Token) → Lexes text us → Lexes (enclosed b text) (enclosed_tokens b us)
in_parentheses true text us lexes rest ts stop after =
    regrouped _ _ _ _ (ap (λ (xs : List ℕ). 40 ∷ xs) (append_assoc text (41 ∷ []) rest)) (ap (λ (vs : List Token). Open ∷ vs) (append_assoc us (Close ∷ []) ts))
    (opening _ _ (lexes (41 ∷ rest) (Close ∷ ts) refl (closing rest ts after)))
in_parentheses false text us lexes rest ts stop after = respelled _ _ _ (append_assoc text [] rest) (lexes rest ts stop after)

-- the text of an operator, with a space on each side
record IsOperator (text : List ℕ) (sign : Token) : Type 0 where
  stops : (rest : List ℕ) → Stops (text ++ rest)
  lexes : (rest : List ℕ) (ts : List Token) → Lexed rest ts → Lexed (text ++ rest) (sign ∷ ts)

both : IsOperator (32 ∷ 38 ∷ 38 ∷ 32 ∷ []) And
both = record { stops = λ rest. refl; lexes = conjunction }

either : IsOperator (32 ∷ 124 ∷ 124 ∷ 32 ∷ []) Or
either = record { stops = λ rest. refl; lexes = disjunction }

operands_stop : (operator : List ℕ) (sign : Token) (fs : Formulas Atom) (rest : List ℕ) → IsOperator operator sign → Stops rest → Stops (operands_text expr_writing operator operator fs ++ rest)
operands_stop operator sign Nil rest is stop = stop
operands_stop operator sign (Cons f fs) rest is stop =
    let P : List ℕ → Type 0 = λ xs. Stops xs in
    subst P (sym (three_pieces operator (enclosed (is_joined f) (formula_text expr_writing f)) (operands_text expr_writing operator operator fs) rest)) (is.stops _)

-- an operand before what follows it
operand : (b : Bool) (text more rest : List ℕ) (us vs ts : List Token) → Lexes text us → Stops (more ++ rest) → Lexed (more ++ rest) (vs ++ ts) → Lexed ((enclosed b text ++ more) ++ rest) ((enclosed_tokens b us ++ vs) ++ ts)
operand b text more rest us vs ts lexes stop after =
    regrouped _ _ _ _ (append_assoc (enclosed b text) more rest) (append_assoc (enclosed_tokens b us) vs ts) (in_parentheses b text us lexes (more ++ rest) (vs ++ ts) stop after)

mutual
  tree : (f : Formula Atom) → IsWellFormed IsLeaf f → Lexes (formula_text expr_writing f) (tree_tokens f)
  tree (Leaf a) is rest ts stop after = atom a rest ts is stop after
  tree (Negation f) is rest ts stop after =
      let b = needs_parentheses expr_writing f in
      negation _ _ (first_byte (enclosed b (formula_text expr_writing f)) rest (enclosed_begins b (formula_text expr_writing f) (tree_begins f is)))
      (in_parentheses b (formula_text expr_writing f) (tree_tokens f) (tree f is) rest ts stop after)
  tree (Conjunction fs) is rest ts stop after = operands (32 ∷ 38 ∷ 38 ∷ 32 ∷ []) And both fs is.1 rest ts stop after
  tree (Disjunction fs) is rest ts stop after = operands (32 ∷ 124 ∷ 124 ∷ 32 ∷ []) Or either fs is.1 rest ts stop after

  operands : (operator : List ℕ) (sign : Token) → IsOperator operator sign → (fs : Formulas Atom) → AreWellFormed IsLeaf fs → Lexes (operands_text expr_writing [] operator fs) (operand_tokens sign fs)
  operands operator sign o Nil all rest ts stop after = after
  operands operator sign o (Cons f fs) all rest ts stop after =
      operand (is_joined f) (formula_text expr_writing f) (operands_text expr_writing operator operator fs) rest (tree_tokens f) (more_tokens sign fs) ts
      (tree f all.0) (operands_stop operator sign fs rest o stop) (more operator sign o fs all.1 rest ts stop after)

  -- the operands after the first
  more : (operator : List ℕ) (sign : Token) → IsOperator operator sign → (fs : Formulas Atom) → AreWellFormed IsLeaf fs → Lexes (operands_text expr_writing operator operator fs) (more_tokens sign fs)
  more operator sign o Nil all rest ts stop after = after
  more operator sign o (Cons f fs) all rest ts stop after =
      respelled _ _ _ (pieces operator (enclosed (is_joined f) (formula_text expr_writing f)) (operands_text expr_writing operator operator fs) rest)
      (o.lexes _ _ (operand (is_joined f) (formula_text expr_writing f) (operands_text expr_writing operator operator fs) rest (tree_tokens f) (more_tokens sign fs) ts
      (tree f all.0) (operands_stop operator sign fs rest o stop) (more operator sign o fs all.1 rest ts stop after)))
    where
      pieces : (a b c d : List ℕ) → ((a ++ b) ++ c) ++ d ≡ a ++ ((b ++ c) ++ d)
      pieces a b c d = simp append_assoc refl

pub tree_lexed : (f : Formula Atom) → IsWellFormed IsLeaf f → IsLexed f
tree_lexed f is =
    let lexed : Lexed (expr_text f) (tree_tokens f) = regrouped (expr_text f) (expr_text f ++ []) (tree_tokens f) (tree_tokens f ++ []) (sym (append-nil (expr_text f))) (sym (append-nil (tree_tokens f))) (tree f is [] [] tt nothing) in
    let here = lexed (length (expr_text f) + 1) 0 (omega arith) in
    let all : 0 + length (expr_text f) ≡ length (expr_text f) = omega arith in
    record { whole = here.1 ∙ all; tokens = here.0 }
