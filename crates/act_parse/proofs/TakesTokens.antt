-- What a reading took from the front of the text: tokens, constants and names.
use Rattle.std.proofs.Common.{◌≡◌, ℕ, ◌%◌, ◌^◌, ◌<◌, Bool, true, false, cond, ltb, leb, nat_eq, ◌&&◌, List, [], ◌∷◌, ◌++◌, length, take, drop, Option, Some, None, decimal as decimal_text, refl, ap, sym, subst, ◌∙◌, arith, append_assoc, eqb}
use Rattle.std.specs.List.{find}
use Rattle.std.specs.Cmp.Lexicographic.{pointwise}
use Rattle.std.proofs.lemmas.Bool.{and_parts, ltb-true, eqb-true}
use Rattle.std.proofs.lemmas.List.{take-append-drop}
use Rattle.std.proofs.lemmas.Option.{cond_some}
use Rattle.nv_base.specs.inner.Exact as tells
use Rattle.nv_base.specs.Ip4.{address, ip4_text}
use Rattle.nv_base.specs.declared.ip4.Ip4.{Ip4}
use Rattle.expr_core.specs.Text.{const_text, number_in}
use Rattle.expr_core.specs.Width.{is_decimal, is_address}
use Rattle.expr_core.specs.declared.constant.Const.{Const}
use Rattle.expr_core.specs.declared.constant.Form.{Form}
use Rattle.expr_core.specs.declared.constant.Form.TheVariants as form
use Rattle.nv_base.specs.Name.{is_quotable}
use Rattle.act_core.specs.WellFormed as formed
use Rattle.expr_const.specs.Constant.{constant_of}
use Rattle.act_parse.specs.inner.Token.{is_at, run, after_run, word, after_word, is_in_word, is_in_decimal, is_in_address, as_written, constant, decimal_within, decimal_of, address_from, address_of, name_of}
use Rattle.act_parse.specs.declared.wanted.Wanted.{Wanted}
use Rattle.act_parse.specs.declared.wanted.Wanted.TheVariants as wanted
use Rattle.act_parse.specs.inner.Reading.{Reading, and_then, token, tokens, ended, found, decimal, ip4}
use Rattle.act_parse.specs.inner.Reading.Reading.{Read, Stuck}

-- equal byte by byte
pub same_bytes : (a b : List ℕ) → pointwise nat_eq a b ≡ true → a ≡ b
same_bytes = tells.list _ tells.number

-- a reading that goes on to the end has read both parts
pub and_then_read : {S T : Type 0} (r : Reading S) (k : S → List ℕ → Reading T) (v : T) (rest : List ℕ) → and_then r k ≡ Read v rest → (s : S) × (mid : List ℕ) × (r ≡ Read s mid) × (k s mid ≡ Read v rest)
and_then_read (Read s mid) k v rest e = (s, mid, refl, e)
and_then_read (Stuck n) k v rest e = absurd (cc)

-- what was read under a test
pub tested_read : {T : Type 0} (b : Bool) (r : Reading T) (n : ℕ) (v : T) (rest : List ℕ) → cond b r (Stuck n) ≡ Read v rest → (b ≡ true) × (r ≡ Read v rest)
tested_read true r n v rest e = (refl, e)
tested_read false r n v rest e = absurd (cc)

-- a reading of one value and one rest
pub read_same : {T : Type 0} (v w : T) (a b : List ℕ) → Read v a ≡ Read w b → (v ≡ w) × (a ≡ b)
read_same v w a b e = (cc, cc)

-- the text begins with what is at its front
pub at_takes : (t text : List ℕ) → is_at t text ≡ true → text ≡ t ++ drop (length t) text
at_takes t text at = sym (take-append-drop (length t) text) ∙ ap (λ xs. xs ++ drop (length t) text) (same_bytes (take (length t) text) t at)

pub token_takes : (t text rest : List ℕ) (u : Unit {0}) → token t text ≡ Read u rest → text ≡ t ++ rest
token_takes [] text rest u e = (read_same _ _ _ _ e).1
token_takes (x ∷ t) [] rest u e = absurd (cc)
token_takes (x ∷ t) (b ∷ bs) rest u e =
    let passed = tested_read (eqb x b) (token t bs) _ u rest e in
    ap (λ (c : ℕ). c ∷ bs) (sym (eqb-true x b passed.0)) ∙ ap (λ xs. x ∷ xs) (token_takes t bs rest u passed.1)

-- tokens, one after the other
abbrev pub tokens_text : List (List ℕ) → List ℕ
tokens_text [] = []
tokens_text (t ∷ ts) = t ++ tokens_text ts

pub tokens_take : (ts : List (List ℕ)) (text rest : List ℕ) (u : Unit {0}) → tokens ts text ≡ Read u rest → text ≡ tokens_text ts ++ rest
tokens_take [] text rest u e = (read_same _ _ _ _ e).1
tokens_take (t ∷ ts) text rest u e =
    let parts = and_then_read (token t text) (λ _ rest. tokens ts rest) u rest e in
    token_takes t text parts.1 parts.0 parts.2 ∙ ap (λ xs. t ++ xs) (tokens_take ts parts.1 rest u parts.3) ∙ sym (append_assoc t (tokens_text ts) rest)

-- what holds of a value that tokens end holds of what was read
pub ended_is : {T : Type 0} (P : T → Type 0) (v w : T) (ts : List (List ℕ)) (text rest : List ℕ) → ended v ts text ≡ Read w rest → (text ≡ tokens_text ts ++ rest → P v) → P w
ended_is P v w ts text rest e holds =
    let parts = and_then_read (tokens ts text) (λ _ rest. Read v rest) w rest e in
    let same = read_same _ _ _ _ parts.3 in
    let took = tokens_take ts text parts.1 parts.0 parts.2 ∙ ap (λ xs. tokens_text ts ++ xs) same.1 in
    subst P same.0 (holds took)

-- a text is its longest front of which each byte passes, and what follows it
pub run_takes : (inside : ℕ → Bool) (text : List ℕ) → text ≡ run inside text ++ after_run inside text
run_takes inside text = sym (take-append-drop _ text)

-- what was found
pub found_read : {T : Type 0} (w : Wanted) (text rest end : List ℕ) (o : Option T) (v : T) → found w text rest o ≡ Read v end → (o ≡ Some v) × (rest ≡ end)
found_read {T} w text rest end None v e = absurd (cc)
found_read {T} w text rest end (Some x) v e = let same = read_same _ _ _ _ e in (ap (λ (y : T). Some y) same.0, same.1)

-- a constant is written so
pub constant_takes : (text : List ℕ) (c : Const) → constant text ≡ Some c → text ≡ const_text c
constant_takes text c e = go (constant_of text) e
  where
    go : (o : Option Const) → as_written text o ≡ Some c → text ≡ const_text c
    go None e = absurd (cc)
    go (Some d) e =
        let inner = cond_some (pointwise nat_eq text (const_text d)) d c e in
        same_bytes text (const_text d) inner.0 ∙ ap const_text inner.1

decimal_form : (f : Form) (n : ℕ) → is_decimal f ≡ true → number_in f n ≡ decimal_text n
decimal_form form.Dec n e = refl
decimal_form form.Hex n e = absurd (cc)
decimal_form form.Mac n e = absurd (cc)
decimal_form form.Ip4 n e = absurd (cc)

address_form : (f : Form) (n : ℕ) → is_address f ≡ true → n < 2 ^ 32 → number_in f n ≡ ip4_text (address n)
address_form form.Dec n e small = absurd (cc)
address_form form.Hex n e small = absurd (cc)
address_form form.Mac n e small = absurd (cc)
address_form form.Ip4 n e small = let same : n % 2 ^ 32 ≡ n = omega (arith, small) in ap (λ m. ip4_text (address m)) same

pub decimal_of_takes : (first limit : ℕ) (text : List ℕ) (n : ℕ) → decimal_of first limit text ≡ Some n → (text ≡ decimal_text n) × (leb first n ≡ true) × (ltb n limit ≡ true)
decimal_of_takes first limit text n e = go (constant text) refl e
  where
    go : (o : Option Const) → constant text ≡ o → decimal_within first limit o ≡ Some n → (text ≡ decimal_text n) × (leb first n ≡ true) × (ltb n limit ≡ true)
    go None is e = absurd (cc)
    go (Some c) is e =
        let passed = cond_some (is_decimal c.form && (leb first c.value && ltb c.value limit)) c.value n e in
        let outer = and_parts _ _ passed.0 in
        let inner = and_parts _ _ outer.1 in
        let P : ℕ → Type 0 = λ m. (text ≡ decimal_text m) × (leb first m ≡ true) × (ltb m limit ≡ true) in
        subst P passed.1 (constant_takes text c is ∙ decimal_form c.form c.value outer.0, inner.0, inner.1)

pub decimal_takes : (first limit : ℕ) (text : List ℕ) (n : ℕ) (rest : List ℕ) → decimal first limit text ≡ Read n rest → (text ≡ decimal_text n ++ rest) × (leb first n ≡ true) × (ltb n limit ≡ true)
decimal_takes first limit text n rest e =
    let passed = found_read (wanted.Decimal first limit) text (after_run is_in_decimal text) rest (decimal_of first limit (run is_in_decimal text)) n e in
    let took = decimal_of_takes first limit (run is_in_decimal text) n passed.0 in
    (run_takes is_in_decimal text ∙ ap (λ xs. xs ++ after_run is_in_decimal text) took.0 ∙ ap (λ xs. decimal_text n ++ xs) passed.1, took.1, took.2)

pub address_of_takes : (text : List ℕ) (a : Ip4) → address_of text ≡ Some a → (text ≡ ip4_text a) × (formed.is_address a ≡ true)
address_of_takes text a e = go (constant text) refl e
  where
    go : (o : Option Const) → constant text ≡ o → address_from o ≡ Some a → (text ≡ ip4_text a) × (formed.is_address a ≡ true)
    go None is e = absurd (cc)
    go (Some c) is e =
        let passed = cond_some (is_address c.form && ltb c.value (2 ^ 32)) (address c.value) a e in
        let tests = and_parts _ _ passed.0 in
        let P : Ip4 → Type 0 = λ b. (text ≡ ip4_text b) × (formed.is_address b ≡ true) in
        subst P passed.1 (constant_takes text c is ∙ address_form c.form c.value tests.0 (ltb-true _ _ tests.1), tests.1)

pub ip4_takes : (text : List ℕ) (a : Ip4) (rest : List ℕ) → ip4 text ≡ Read a rest → (text ≡ ip4_text a ++ rest) × (formed.is_address a ≡ true)
ip4_takes text a rest e =
    let passed = found_read wanted.Address text (after_run is_in_address text) rest (address_of (run is_in_address text)) a e in
    let took = address_of_takes (run is_in_address text) a passed.0 in
    (run_takes is_in_address text ∙ ap (λ xs. xs ++ after_run is_in_address text) took.0 ∙ ap (λ xs. ip4_text a ++ xs) passed.1, took.1)

pub name_of_takes : (text name : List ℕ) → name_of text ≡ Some name → (text ≡ name) × (is_quotable name ≡ true)
name_of_takes text name e =
    let passed = cond_some (is_quotable text) text name e in
    (passed.1, ap is_quotable (sym passed.1) ∙ passed.0)

-- a text is its first word and what follows it
pub word_takes : (text : List ℕ) → text ≡ word text ++ after_word text
word_takes text = run_takes is_in_word text

pub find_passes : {X : Type 0} (p : X → Bool) (xs : List X) (x : X) → find p xs ≡ Some x → p x ≡ true
find_passes p [] x e = absurd (cc)
find_passes {X} p (y ∷ ys) x e = go (p y) refl e (find_passes p ys x)
  where
    go : (b : Bool) → p y ≡ b → cond b (Some y) (find p ys) ≡ Some x → (find p ys ≡ Some x → p x ≡ true) → p x ≡ true
    go true is e rest = let same : y ≡ x = cc in subst (λ z. p z ≡ true) same is
    go false is e rest = rest e
