-- Where the readings of bytes, decimals and addresses stop, what is before the place goes on.
use Rattle.std.proofs.Common.{◌≡◌, ℕ, Bool, true, false, cond, ltb, leb, eqb, List, [], ◌∷◌, ◌++◌, length, Option, Some, None, decimal as decimal_text, refl, ap, sym, subst, ◌∙◌, append_assoc}
use Rattle.std.proofs.lemmas.Bool.{eqb-true}
use Rattle.nv_base.specs.Ip4.{address, ip4_text}
use Rattle.nv_base.specs.declared.ip4.Ip4.{Ip4}
use Rattle.act_core.specs.WellFormed as formed
use Rattle.act_parse.specs.declared.wanted.Wanted.{Wanted}
use Rattle.act_parse.specs.declared.wanted.Wanted.TheVariants as wanted
use Rattle.act_parse.specs.inner.Token.{run, after_run, is_in_decimal, is_in_address, decimal_of, address_of}
use Rattle.act_parse.specs.inner.Wanted.{begins}
use Rattle.act_parse.specs.inner.Reading.{Reading, and_then, stuck, lost, token, tokens, ended, found, decimal, ip4}
use Rattle.act_parse.specs.inner.Reading.Reading.{Read, Stuck}
use Rattle.act_parse.proofs.TakesTokens.{token_takes, tokens_text, tokens_take, decimal_takes, ip4_takes}
use Rattle.act_parse.proofs.Viable.{Viable, here, past, among, also, sequel}
use Rattle.act_parse.proofs.Leaf.{leaf_stops}
use Rattle.act_parse.proofs.Ends.{decimal_ends, address_ends}

-- the reading stops where what is wanted is not there
pub lost_stops : {T : Type 0} {Kind : List ℕ → Type 0} (w : Wanted) (text : List ℕ) (left : ℕ) → ((xs : List ℕ) → begins w xs ≡ true → (more : List ℕ) × Kind (xs ++ more)) → ((more : List ℕ) × Kind more)
    → lost {T = T} w text ≡ Stuck left → Viable Kind text left
lost_stops {T} w text left goes_on some e = leaf_stops {T = T} (begins w) text left goes_on some e

abbrev none : List ℕ
none = []

-- bytes, as far as the text has them
pub token_viable : (t text : List ℕ) (left : ℕ) → token t text ≡ Stuck left → Viable (λ xs. xs ≡ t) text left
token_viable [] text left e = absurd (cc)
token_viable (x ∷ t) [] left e = let all : left ≡ length none = cc in here [] (x ∷ t) left all refl
token_viable (x ∷ t) (b ∷ bs) left e = go (eqb x b) refl (token_viable t bs left) e
  where
    go : (p : Bool) → eqb x b ≡ p → (token t bs ≡ Stuck left → Viable (λ xs. xs ≡ t) bs left) → cond p (token t bs) (stuck (b ∷ bs)) ≡ Stuck left → Viable (λ xs. xs ≡ x ∷ t) (b ∷ bs) left
    go true is later e = past (x ∷ []) bs (b ∷ bs) left (ap (λ (c : ℕ). c ∷ bs) (sym (eqb-true x b is))) (also bs left (λ xs same. ap (λ ys. x ∷ ys) same) (later e))
    go false is later e = let all : left ≡ length (b ∷ bs) = cc in here (b ∷ bs) (x ∷ t) left all refl

-- bytes that begin a text of a kind
token_begins : {Kind : List ℕ → Type 0} (t text more : List ℕ) (left : ℕ) → token t text ≡ Stuck left → Kind (t ++ more) → Viable Kind text left
token_begins {Kind} t text more left e good = among more text left (λ xs same. subst (λ ys. Kind (ys ++ more)) (sym same) good) (token_viable t text left e)

-- where nothing was found
pub found_stops : {T : Type 0} {Kind : List ℕ → Type 0} (w : Wanted) (text rest : List ℕ) (o : Option T) (left : ℕ) → ((xs : List ℕ) → begins w xs ≡ true → (more : List ℕ) × Kind (xs ++ more)) → ((more : List ℕ) × Kind more)
    → found w text rest o ≡ Stuck left → Viable Kind text left
found_stops w text rest None left goes_on some e = lost_stops w text left goes_on some e
found_stops w text rest (Some v) left goes_on some e = absurd (cc)

-- tokens in a row, and what may follow them
row_stops : (ts : List (List ℕ)) (Kind : List ℕ → Type 0) (text more : List ℕ) (left : ℕ) → tokens ts text ≡ Stuck left → Kind (tokens_text ts ++ more) → Viable Kind text left
row_stops [] Kind text more left e good = absurd (cc)
row_stops (t ∷ ts) Kind text more left e good =
    sequel (token t text) (λ _ rest. tokens ts rest) left e
    (λ f. token_begins t text (tokens_text ts ++ more) left f (subst Kind (append_assoc t (tokens_text ts) more) good))
    (λ u rest f g. past t rest text left (token_takes t text rest u f) (row_stops ts (λ xs. Kind (t ++ xs)) rest more left g (subst Kind (append_assoc t (tokens_text ts) more) good)))

-- tokens in a row, and a reading after them
pub tokens_stop : {T : Type 0} {Kind : List ℕ → Type 0} (ts : List (List ℕ)) (text more : List ℕ) (k : Unit {0} → List ℕ → Reading T) (left : ℕ) → and_then (tokens ts text) k ≡ Stuck left
    → Kind (tokens_text ts ++ more) → ((u : Unit {0}) (rest : List ℕ) → k u rest ≡ Stuck left → Viable (λ xs. Kind (tokens_text ts ++ xs)) rest left) → Viable Kind text left
tokens_stop {T} {Kind} ts text more k left e good later =
    sequel (tokens ts text) k left e
    (λ f. row_stops ts Kind text more left f good)
    (λ u rest f g. past (tokens_text ts) rest text left (tokens_take ts text rest u f) (later u rest g))

-- a value that tokens end
pub ended_stops : {T : Type 0} {Kind : List ℕ → Type 0} (v : T) (ts : List (List ℕ)) (text : List ℕ) (left : ℕ) → ended v ts text ≡ Stuck left → Kind (tokens_text ts ++ []) → Viable Kind text left
ended_stops v ts text left e good = tokens_stop ts text [] (λ _ rest. Read v rest) left e good (λ u rest f. absurd (cc))

-- bytes, and a reading after them
pub token_stops : {T : Type 0} {Kind : List ℕ → Type 0} (t text more : List ℕ) (k : Unit {0} → List ℕ → Reading T) (left : ℕ) → and_then (token t text) k ≡ Stuck left
    → Kind (t ++ more) → ((u : Unit {0}) (rest : List ℕ) → k u rest ≡ Stuck left → Viable (λ xs. Kind (t ++ xs)) rest left) → Viable Kind text left
token_stops t text more k left e good later =
    sequel (token t text) k left e
    (λ f. token_begins t text more left f good)
    (λ u rest f g. past t rest text left (token_takes t text rest u f) (later u rest g))

-- a decimal, and a reading after it: some decimal is there, and each goes on
pub decimal_stops : {T : Type 0} {Kind : List ℕ → Type 0} (first limit some : ℕ) (text more : List ℕ) (k : ℕ → List ℕ → Reading T) (left : ℕ) → and_then (decimal first limit text) k ≡ Stuck left
    → leb first some ≡ true → ltb some limit ≡ true
    → ((n : ℕ) → leb first n ≡ true → ltb n limit ≡ true → Kind (decimal_text n ++ more))
    → ((n : ℕ) (rest : List ℕ) → leb first n ≡ true → ltb n limit ≡ true → k n rest ≡ Stuck left → Viable (λ xs. Kind (decimal_text n ++ xs)) rest left) → Viable Kind text left
decimal_stops {T} {Kind} first limit some text more k left e low high good later =
    sequel (decimal first limit text) k left e
    (λ f. found_stops (wanted.Decimal first limit) text (after_run is_in_decimal text) (decimal_of first limit (run is_in_decimal text)) left
    (λ xs starts. let d = decimal_ends first limit xs starts in (d.1 ++ more, subst Kind (ap (λ ys. ys ++ more) (sym d.2) ∙ append_assoc xs d.1 more) (good d.0 d.3 d.4)))
    (decimal_text some ++ more, good some low high) f)
    (λ n rest f g. let took = decimal_takes first limit text n rest f in past (decimal_text n) rest text left took.0 (later n rest took.1 took.2 g))

-- an address, and a reading after it
pub ip4_stops : {T : Type 0} {Kind : List ℕ → Type 0} (text more : List ℕ) (k : Ip4 → List ℕ → Reading T) (left : ℕ) → and_then (ip4 text) k ≡ Stuck left
    → ((a : Ip4) → formed.is_address a ≡ true → Kind (ip4_text a ++ more)) → ((a : Ip4) (rest : List ℕ) → formed.is_address a ≡ true → k a rest ≡ Stuck left → Viable (λ xs. Kind (ip4_text a ++ xs)) rest left) → Viable Kind text left
ip4_stops {T} {Kind} text more k left e good later =
    sequel (ip4 text) k left e
    (λ f. found_stops wanted.Address text (after_run is_in_address text) (address_of (run is_in_address text)) left
    (λ xs starts. let d = address_ends xs starts in (d.1 ++ more, subst Kind (ap (λ ys. ys ++ more) (sym d.2) ∙ append_assoc xs d.1 more) (good d.0 d.3)))
    (ip4_text (address 0) ++ more, good (address 0) refl) f)
    (λ a rest f g. let took = ip4_takes text a rest f in past (ip4_text a) rest text left took.0 (later a rest took.1 g))
