-- What the tokens of a text are, from any offset on: a blank, a word, a sign or a text in quotes before a text.
use Rattle.std.proofs.Common.{◌≡◌, ℕ, suc, zero, ◌+◌, ◌<◌, List, [], ◌∷◌, ◌++◌, length, drop, Some, refl, ap, sym, subst, ◌∙◌, arith, append_assoc}
use Rattle.std.proofs.Common.{length-append, ◌≤◌, Bool, true, false, cond, ◌||◌, ◌&&◌, take, None, eqb, get_or, not, Option}
use Rattle.std.proofs.lemmas.List.{drop_at}
use Rattle.std.proofs.Math.Seq.{get_or-append_seam, take-append_seam}
use Rattle.expr_core.specs.declared.comparison.Rel.TheVariants.{Eq, Ne, Lt, Le, Gt, Ge}
use Rattle.nv_base.specs.Name.{is_name_byte}
use Rattle.expr_core.specs.declared.constant.Form.TheVariants.{Dec, Hex, Mac, Ip4 as Address}
use Rattle.expr_core.specs.declared.constant.Form.TheVariants as form
use Rattle.expr_parse.proofs.Words.{Token, blanks, first_token, in_front, tokens_at, tokens_from, kinds, list_all, option_map, and_parts, or_left}
use Rattle.expr_parse.proofs.Words.{or_right, false≢true, length-take-le, get_or-take, list_all_at, mac_of, Class, Letter, Digit, Quote, Dollar, At}
use Rattle.expr_parse.proofs.Words.{Other, begins_name, class_of, Name, Number, AddrSet, Group, constant, constant_of, is_in_name, is_name}
use Rattle.expr_parse.proofs.Words.{name_after, spelled, is_in_constant, is_blank, Rel, rel_text, Relation, And, Or, Not, Open, Close, OpenBrace}
use Rattle.expr_parse.proofs.Words.{CloseBrace, OpenBracket, CloseBracket, Comma, Slash, Dots, sign_among, signs, prefix_len, eqb-true, Text}
use Rattle.expr_parse.proofs.Words.{is_quotable, false_from_ne_true}
use Rattle.expr_parse.proofs.Words.{Ip4, Const, const_text, or_else, IsConst}
use Rattle.expr_parse.proofs.Lexing.{standing}
use Rattle.expr_parse.proofs.Longest.{none_from, guarded, mapped, chosen, NoneBetween, found}
use Rattle.expr_parse.proofs.Fronts.{apart, numbered, never_numbered, constant_begins, spelled_by, kind, fronts}
use Rattle.expr_const.proofs.ConstantFronts.{constant_spelt, mac_byte}
use Rattle.expr_const.proofs.Misses.{mac_fails, spells}
use Rattle.expr_parse.proofs.TokenFronts.{name_all, with_name, pair_found, single_found, is_plain, quotable_bytes, some_text, without_name}
use Rattle.expr_parse.proofs.Shapes.{weaker, mac_digits}

-- from each offset on, these are the tokens of the text, and they reach its end
abbrev pub Lexed : List ℕ → List Token → Type 0
Lexed text ts = (n offset : ℕ) → length text < n → (kinds (tokens_from n offset text).0 ≡ ts) × ((tokens_from n offset text).1 ≡ offset + length text)

-- the same of another way to write the text and the tokens
pub respelled : (xs ys : List ℕ) (ts : List Token) → xs ≡ ys → Lexed ys ts → Lexed xs ts
respelled xs ys ts e lexed = let P : List ℕ → Type 0 = λ zs. Lexed zs ts in subst P (sym e) lexed

pub regrouped : (xs ys : List ℕ) (ts us : List Token) → xs ≡ ys → ts ≡ us → Lexed ys us → Lexed xs ts
regrouped xs ys ts us e f lexed = let P : List Token → Type 0 = λ vs. Lexed xs vs in subst P (sym f) (respelled xs ys us e lexed)

-- pieces in a row, from the first
pub three_pieces : (a b c d : List ℕ) → ((a ++ b) ++ c) ++ d ≡ a ++ (b ++ (c ++ d))
three_pieces a b c d = simp append_assoc refl

pub nothing : Lexed [] []
nothing zero offset room = absurd (omega arith)
nothing (suc n) offset room = (refl, omega arith)

-- a space
pub blank : (rest : List ℕ) (ts : List Token) → Lexed rest ts → Lexed (32 ∷ rest) ts
blank rest ts lexed zero offset room = absurd (omega arith)
blank rest ts lexed (suc n) offset room =
    let one : 1 + blanks rest ≡ suc (blanks rest) = omega arith in
    let far : offset + suc (blanks rest) ≡ offset + 1 + blanks rest = omega arith in
    let same : tokens_from (suc n) offset (32 ∷ rest) ≡ tokens_from (suc n) (offset + 1) rest =
    ap (λ (b : ℕ). standing n (offset + b) (drop b (32 ∷ rest))) one ∙ ap (λ (p : ℕ). standing n p (drop (blanks rest) rest)) far in
    let after = lexed (suc n) (offset + 1) (omega (arith, room)) in
    rw same (after.0, omega (arith, after.1))

-- a token
pub token : (text rest : List ℕ) (t : Token) (ts : List Token) → blanks (text ++ rest) ≡ 0 → 0 < length text → first_token (text ++ rest) ≡ Some (t, length text) → Lexed rest ts → Lexed (text ++ rest) (t ∷ ts)
token text rest t ts plain some first lexed zero offset room = absurd (omega arith)
token text rest t ts plain some first lexed (suc n) offset room =
    let here : offset + 0 ≡ offset = omega arith in
    let same : tokens_from (suc n) offset (text ++ rest) ≡ in_front offset t (tokens_from n (offset + length text) rest) =
    ap (λ (b : ℕ). standing n (offset + b) (drop b (text ++ rest))) plain
    ∙ ap (λ (p : ℕ). standing n p (text ++ rest)) here
    ∙ ap (tokens_at (tokens_from n) offset (text ++ rest)) first
    ∙ ap (λ (xs : List ℕ). in_front offset t (tokens_from n (offset + length text) xs)) (drop_at text rest (length text) refl) in
    let after = lexed n (offset + length text) (omega (arith, room, length-append text rest)) in
    rw same (ap (λ (more : List Token). t ∷ more) after.0, omega (arith, after.1, length-append text rest))

-- A name, a constant, `$name` or `@name` before a byte that cannot lengthen it.

-- a byte that may be in a name or in a constant
abbrev pub is_word_byte : ℕ → Bool
is_word_byte b = is_in_name b || is_in_constant b

-- no word continues with what is here
abbrev pub Stops : List ℕ → Type 0
Stops [] = Unit {0}
Stops (b ∷ bs) = is_word_byte b ≡ false

-- a word begins with a byte of this class
unfoldable pub leads : Class → Bool
leads Quote = false
leads Other = false
leads _ = true

-- after its first byte a word has nothing but such bytes
after_first : (x : ℕ) (xs : List ℕ) → list_all is_word_byte (x ∷ xs) ≡ true → list_all is_word_byte xs ≡ true
after_first x xs all = (and_parts (is_word_byte x) (list_all is_word_byte xs) all).1

name_bytes : (xs : List ℕ) → is_name xs ≡ true → list_all is_word_byte xs ≡ true
name_bytes xs e = weaker is_in_name is_word_byte (λ b h. or_left (is_in_name b) (is_in_constant b) h) xs (name_all xs e)

constant_bytes : (xs : List ℕ) → list_all is_in_constant xs ≡ true → list_all is_word_byte xs ≡ true
constant_bytes xs e = weaker is_in_constant is_word_byte (λ b h. or_right (is_in_name b) (is_in_constant b) h) xs e

letter_bytes : (x : ℕ) (xs : List ℕ) (t : Token) → kind Letter (x ∷ xs) ≡ Some t → list_all is_word_byte xs ≡ true
letter_bytes x xs t e =
    chosen _ _ t e (λ name. after_first x xs (name_bytes (x ∷ xs) (guarded (is_name (x ∷ xs)) (Some (Name (x ∷ xs))) t name).0)) (λ mac.
    let c = mapped Number (option_map (constant form.Mac) (mac_of (x ∷ xs))) t mac in
    let n = mapped (constant form.Mac) (mac_of (x ∷ xs)) c.0 c.1 in
    after_first x xs (constant_bytes (x ∷ xs) (weaker _ is_in_constant mac_byte (x ∷ xs) (mac_digits (x ∷ xs) n.0 n.1))))

digit_bytes : (x : ℕ) (xs : List ℕ) (t : Token) → kind Digit (x ∷ xs) ≡ Some t → list_all is_word_byte xs ≡ true
digit_bytes x xs t e = let c = mapped Number (constant_of (x ∷ xs)) t e in after_first x xs (constant_bytes (x ∷ xs) (constant_spelt (x ∷ xs) c.0 c.1).0)

marked_bytes : (mark : ℕ) (wrap : List ℕ → Token) (x : ℕ) (xs : List ℕ) (t : Token) → option_map wrap (name_after mark (x ∷ xs)) ≡ Some t → list_all is_word_byte xs ≡ true
marked_bytes mark wrap x xs t e =
    let name = mapped wrap (name_after mark (x ∷ xs)) t e in
    name_bytes xs (and_parts (eqb x mark) (is_name xs) (guarded (eqb x mark && is_name xs) (Some xs) name.0 name.1).0).1

word_bytes : (x : ℕ) (xs : List ℕ) (t : Token) → leads (class_of x) ≡ true → spelled (x ∷ xs) ≡ Some t → list_all is_word_byte xs ≡ true
unfolding leads
word_bytes x xs t first e = go (class_of x) refl first
  where
    go : (c : Class) → class_of x ≡ c → leads c ≡ true → list_all is_word_byte xs ≡ true
    go Letter is h = letter_bytes x xs t (sym (spelled_by Letter x xs is) ∙ e)
    go Digit is h = digit_bytes x xs t (sym (spelled_by Digit x xs is) ∙ e)
    go Quote is h = absurd cc
    go Dollar is h = marked_bytes 36 AddrSet x xs t (sym (spelled_by Dollar x xs is) ∙ e)
    go At is h = marked_bytes 64 Group x xs t (sym (spelled_by At x xs is) ∙ e)
    go Other is h = absurd cc

-- so no front reaches beyond the byte at which a word stops
no_longer : (x : ℕ) (xs rest : List ℕ) → leads (class_of x) ≡ true → Stops rest → NoneBetween spelled (suc (length xs)) (length (x ∷ (xs ++ rest))) (x ∷ (xs ++ rest))
no_longer x xs [] first stop k past high = absurd (omega (arith, past, high, length-append xs []))
no_longer x xs (b ∷ bs) first stop zero past high = absurd (omega arith)
no_longer x xs (b ∷ bs) first stop (suc j) past high = none_from (spelled (x ∷ take j (xs ++ b ∷ bs))) (λ t e. false≢true (sym stopped ∙ word_bytes x (take j (xs ++ b ∷ bs)) t first e))
  where
    within : j ≤ length (xs ++ b ∷ bs)
    within = omega (arith, high)

    here : length xs < length (take j (xs ++ b ∷ bs))
    here = rw (length-take-le j (xs ++ b ∷ bs) within) (omega (arith, past))

    stopped : list_all is_word_byte (take j (xs ++ b ∷ bs)) ≡ false
    stopped = list_all_at is_word_byte (take j (xs ++ b ∷ bs)) (length xs) 0 here (rw (get_or-take j (xs ++ b ∷ bs) (length xs) 0 (omega (arith, past)), get_or-append_seam xs b bs 0) stop)

-- a word and its token
abbrev pub IsWord : List ℕ → Token → Type 0
IsWord w t = (x : ℕ) × (xs : List ℕ) × (w ≡ x ∷ xs) × (leads (class_of x) ≡ true) × (spelled w ≡ Some t)

pub no_blank : (x : ℕ) → leads (class_of x) ≡ true → is_blank x ≡ false
unfolding leads
no_blank x first = rw (apart x 32 (λ e. bad 32 refl e), apart x 9 (λ e. bad 9 refl e)) refl
  where
    bad : (y : ℕ) → class_of y ≡ Other → class_of x ≡ class_of y → ⊥
    bad y is e = let other : class_of x ≡ Other = e ∙ is in let wrong = rw other at first in cc

lead : (x : ℕ) (xs rest : List ℕ) (t : Token) (ts : List Token) → leads (class_of x) ≡ true → spelled (x ∷ xs) ≡ Some t → Stops rest → Lexed rest ts → Lexed (x ∷ (xs ++ rest)) (t ∷ ts)
lead x xs rest t ts first is stop after =
    let plain : cond (is_blank x) (1 + blanks (xs ++ rest)) 0 ≡ 0 = rw (no_blank x first) refl in
    let here : spelled (take (suc (length xs)) (x ∷ (xs ++ rest))) ≡ Some t = ap (λ (ys : List ℕ). spelled (x ∷ ys)) (take-append_seam xs rest) ∙ is in
    let front : first_token (x ∷ (xs ++ rest)) ≡ Some (t, suc (length xs)) = found spelled (suc (length xs)) (length (x ∷ (xs ++ rest))) (x ∷ (xs ++ rest)) t (omega arith) (omega (arith, length-append xs rest)) here (no_longer x xs rest first stop) in
    token (x ∷ xs) rest t ts plain (omega arith) front after

-- a word before a byte that cannot lengthen it
pub word : (w rest : List ℕ) (t : Token) (ts : List Token) → IsWord w t → Stops rest → Lexed rest ts → Lexed (w ++ rest) (t ∷ ts)
word w rest t ts is stop after =
    let P : List ℕ → Type 0 = λ v. spelled v ≡ Some t in
    let Q : List ℕ → Type 0 = λ v. Lexed (v ++ rest) (t ∷ ts) in
    subst Q (sym is.2) (lead is.0 is.1 rest t ts is.3 (subst P is.2 is.4) stop after)

-- names
pub name_class : (x : ℕ) → begins_name x ≡ true → class_of x ≡ Letter
name_class x e = rw e refl

pub name_word : (name : List ℕ) → is_name name ≡ true → IsWord name (Name name)
unfolding leads
name_word [] e = absurd cc
name_word (x ∷ xs) e =
    let is = name_class x (and_parts (begins_name x) (list_all is_in_name xs) e).0 in
    let here = spelled_by Letter x xs is ∙ with_name (is_name (x ∷ xs)) (Name (x ∷ xs)) (option_map (constant form.Mac) (mac_of (x ∷ xs))) e in
    (x, xs, refl, ap leads is, here)

pub set_word : (name : List ℕ) → is_name name ≡ true → IsWord (36 ∷ name) (AddrSet name)
unfolding leads
set_word name e =
    let here : name_after 36 (36 ∷ name) ≡ Some name = rw e refl in
    (36, name, refl, refl, spelled_by Dollar 36 name refl ∙ ap (option_map AddrSet) here)

pub group_word : (name : List ℕ) → is_name name ≡ true → IsWord (64 ∷ name) (Group name)
unfolding leads
group_word name e =
    let here : name_after 64 (64 ∷ name) ≡ Some name = rw e refl in
    (64, name, refl, refl, spelled_by At 64 name refl ∙ ap (option_map Group) here)

-- A sign before a text.

-- a sign of one byte, which makes none with the byte after it
single : (b : ℕ) (rest : List ℕ) (t : Token) (ts : List Token) → class_of b ≡ Other → is_blank b ≡ false → None ≡ sign_among signs (b ∷ get_or rest 0 0 ∷ []) → Some t ≡ sign_among signs (b ∷ []) → Lexed rest ts → Lexed (b ∷ rest) (t ∷ ts)
single b rest t ts other plain alone is after =
    token (b ∷ []) rest t ts (rw plain refl) (omega arith) (sym (single_found (b ∷ rest) t (omega arith) other (λ long. alone) is)) after

-- a sign of two bytes
pair : (a b : ℕ) (rest : List ℕ) (t : Token) (ts : List Token) → class_of a ≡ Other → is_blank a ≡ false → Some t ≡ sign_among signs (a ∷ b ∷ []) → Lexed rest ts → Lexed (a ∷ b ∷ rest) (t ∷ ts)
pair a b rest t ts other plain is after =
    token (a ∷ b ∷ []) rest t ts (rw plain refl) (omega arith) (sym (pair_found (a ∷ b ∷ rest) t (omega arith) other is)) after

pub opening : (rest : List ℕ) (ts : List Token) → Lexed rest ts → Lexed (40 ∷ rest) (Open ∷ ts)
opening rest ts after = single 40 rest Open ts refl refl refl refl after

pub closing : (rest : List ℕ) (ts : List Token) → Lexed rest ts → Lexed (41 ∷ rest) (Close ∷ ts)
closing rest ts after = single 41 rest Close ts refl refl refl refl after

pub opening_brace : (rest : List ℕ) (ts : List Token) → Lexed rest ts → Lexed (123 ∷ rest) (OpenBrace ∷ ts)
opening_brace rest ts after = single 123 rest OpenBrace ts refl refl refl refl after

pub closing_brace : (rest : List ℕ) (ts : List Token) → Lexed rest ts → Lexed (125 ∷ rest) (CloseBrace ∷ ts)
closing_brace rest ts after = single 125 rest CloseBrace ts refl refl refl refl after

pub opening_bracket : (rest : List ℕ) (ts : List Token) → Lexed rest ts → Lexed (91 ∷ rest) (OpenBracket ∷ ts)
opening_bracket rest ts after = single 91 rest OpenBracket ts refl refl refl refl after

pub closing_bracket : (rest : List ℕ) (ts : List Token) → Lexed rest ts → Lexed (93 ∷ rest) (CloseBracket ∷ ts)
closing_bracket rest ts after = single 93 rest CloseBracket ts refl refl refl refl after

pub slash : (rest : List ℕ) (ts : List Token) → Lexed rest ts → Lexed (47 ∷ rest) (Slash ∷ ts)
slash rest ts after = single 47 rest Slash ts refl refl refl refl after

pub dots : (rest : List ℕ) (ts : List Token) → Lexed rest ts → Lexed (46 ∷ 46 ∷ rest) (Dots ∷ ts)
dots rest ts after = pair 46 46 rest Dots ts refl refl refl after

-- a comma and a space
pub comma : (rest : List ℕ) (ts : List Token) → Lexed rest ts → Lexed (44 ∷ 32 ∷ rest) (Comma ∷ ts)
comma rest ts after = single 44 (32 ∷ rest) Comma ts refl refl refl refl (blank rest ts after)

-- `!` before anything but `=`
pub negation : (rest : List ℕ) (ts : List Token) → eqb 61 (get_or rest 0 0) ≡ false → Lexed rest ts → Lexed (33 ∷ rest) (Not ∷ ts)
negation rest ts other after = single 33 rest Not ts refl refl (rw other refl) refl after

-- the operators, with a space on each side
pub conjunction : (rest : List ℕ) (ts : List Token) → Lexed rest ts → Lexed (32 ∷ 38 ∷ 38 ∷ 32 ∷ rest) (And ∷ ts)
conjunction rest ts after = blank (38 ∷ 38 ∷ 32 ∷ rest) (And ∷ ts) (pair 38 38 (32 ∷ rest) And ts refl refl refl (blank rest ts after))

pub disjunction : (rest : List ℕ) (ts : List Token) → Lexed rest ts → Lexed (32 ∷ 124 ∷ 124 ∷ 32 ∷ rest) (Or ∷ ts)
disjunction rest ts after = blank (124 ∷ 124 ∷ 32 ∷ rest) (Or ∷ ts) (pair 124 124 (32 ∷ rest) Or ts refl refl refl (blank rest ts after))

-- a relation and a space
pub relation : (r : Rel) (rest : List ℕ) (ts : List Token) → Lexed rest ts → Lexed (rel_text r ++ 32 ∷ rest) (Relation r ∷ ts)
relation Eq rest ts after = pair 61 61 (32 ∷ rest) (Relation Eq) ts refl refl refl (blank rest ts after)
relation Ne rest ts after = pair 33 61 (32 ∷ rest) (Relation Ne) ts refl refl refl (blank rest ts after)
relation Lt rest ts after = single 60 (32 ∷ rest) (Relation Lt) ts refl refl refl refl (blank rest ts after)
relation Le rest ts after = pair 60 61 (32 ∷ rest) (Relation Le) ts refl refl refl (blank rest ts after)
relation Gt rest ts after = single 62 (32 ∷ rest) (Relation Gt) ts refl refl refl refl (blank rest ts after)
relation Ge rest ts after = pair 62 61 (32 ∷ rest) (Relation Ge) ts refl refl refl (blank rest ts after)

-- A name between double quotes before a text.

-- bytes that pass, and then one that fails
run : (p : ℕ → Bool) (xs : List ℕ) (y : ℕ) (ys : List ℕ) → list_all p xs ≡ true → p y ≡ false → prefix_len p (xs ++ y ∷ ys) ≡ length xs
run p [] y ys all fails = rw fails refl
run p (x ∷ xs) y ys all fails = let parts = and_parts (p x) (list_all p xs) all in rw (parts.0, run p xs y ys parts.1 fails) (omega arith)

plain_byte : (b : ℕ) → is_name_byte b ≡ true → is_plain b ≡ true
plain_byte b h = go (eqb b 34) refl
  where
    go : (t : Bool) → eqb b 34 ≡ t → not t ≡ true
    go true e = let wrong = rw (eqb-true b 34 e) at h in absurd cc
    go false e = refl

before_quote : (name rest : List ℕ) → is_quotable name ≡ true → prefix_len is_plain (name ++ 34 ∷ rest) ≡ length name
before_quote name rest may = run is_plain name 34 rest (weaker is_name_byte is_plain plain_byte name (quotable_bytes name may)) refl

pub quotes : (name rest : List ℕ) (ts : List Token) → is_quotable name ≡ true → Lexed rest ts → Lexed ((34 ∷ (name ++ 34 ∷ [])) ++ rest) (Text name ∷ ts)
quotes name rest ts may after =
    let long : length (34 ∷ (name ++ 34 ∷ [])) ≡ suc (suc (length name)) = omega (arith, length-append name (34 ∷ [])) in
    let run = before_quote name rest may in
    let within : prefix_len is_plain (name ++ 34 ∷ rest) < length (name ++ 34 ∷ rest) = omega (arith, run, length-append name (34 ∷ rest)) in
    let front : take (prefix_len is_plain (name ++ 34 ∷ rest)) (name ++ 34 ∷ rest) ≡ name = ap (λ (n : ℕ). take n (name ++ 34 ∷ rest)) run ∙ take-append_seam name (34 ∷ rest) in
    let here : first_token (34 ∷ (name ++ 34 ∷ rest)) ≡ Some (Text name, suc (suc (length name))) =
    some_text 34 (name ++ 34 ∷ rest) refl (λ k low. fronts Quote (34 ∷ (name ++ 34 ∷ rest)) k (omega arith) refl low) within (ap is_quotable front ∙ may)
    ∙ ap (λ (xs : List ℕ). Some (Text xs, suc (suc (prefix_len is_plain (name ++ 34 ∷ rest))))) front ∙ ap (λ (n : ℕ). Some (Text name, suc (suc n))) run in
    let first : first_token ((34 ∷ (name ++ 34 ∷ [])) ++ rest) ≡ Some (Text name, length (34 ∷ (name ++ 34 ∷ []))) =
    ap (λ (xs : List ℕ). first_token (34 ∷ xs)) (append_assoc name (34 ∷ []) rest) ∙ here ∙ ap (λ (n : ℕ). Some (Text name, n)) (sym long) in
    token (34 ∷ (name ++ 34 ∷ [])) rest (Text name) ts refl (omega arith) first after

-- A written constant is a word that spells it.

-- the constant by its form
abbrev pub constant_from : Option ℕ → Option ℕ → Option ℕ → Option Ip4 → Option Const
constant_from d h m a = or_else (option_map (constant Dec) d) (or_else (option_map (constant Hex) h) (or_else (option_map (constant Mac) m) (option_map (λ a. constant Address a.0) a)))

-- a text that spells a constant is a word
spelt_word : (w : List ℕ) (c : Const) → constant_of w ≡ Some c → IsWord w (Number c)
unfolding leads numbered
spelt_word [] c e = absurd cc
spelt_word (x ∷ xs) c e = go (class_of x) refl
  where
    no_other : (class_of x ≡ Digit → ⊥) → (class_of x ≡ Letter → ⊥) → ⊥
    no_other digit letter = let none : Some (Number c) ≡ None = sym (ap (option_map Number) e) ∙ never_numbered x xs digit letter in cc

    go : (k : Class) → class_of x ≡ k → IsWord (x ∷ xs) (Number c)
    go Digit is = (x, xs, refl, ap leads is, spelled_by Digit x xs is ∙ ap (option_map Number) e)
    go Letter is =
        let mac : option_map (constant Mac) (mac_of (x ∷ xs)) ≡ Some c = sym (constant_begins x xs (λ e. cc)) ∙ e in
        let n = mapped (constant Mac) (mac_of (x ∷ xs)) c mac in
        let fails = mac_fails is_in_name (x ∷ xs) n.0 refl n.1 in
        let no_name : is_name (x ∷ xs) ≡ false = false_from_ne_true _ (λ name. false≢true (sym fails ∙ name_all (x ∷ xs) name)) in
        let here = without_name (is_name (x ∷ xs)) (Name (x ∷ xs)) (option_map (constant Mac) (mac_of (x ∷ xs))) no_name in
        (x, xs, refl, ap leads is, spelled_by Letter x xs is ∙ here ∙ ap (option_map Number) mac)
    go _ is = absurd (no_other (λ e. cc) (λ e. cc))

pub constant_word : (c : Const) → IsConst c → IsWord (const_text c) (Number c)
constant_word c small = spelt_word (const_text c) c (spells c.form c.value small)
