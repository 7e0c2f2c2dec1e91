-- Reading a text, token by token.
use Rattle.std.proofs.Common.{◌≡◌, ℕ, suc, zero, ◌+◌, ◌-◌, ◌<◌, ◌≤◌, List, [], ◌∷◌, ◌++◌, length, map, take, drop, Option, Some, None, ap, sym, ◌∙◌, arith, append_assoc}
use Rattle.std.proofs.lemmas.List.{append-nil, drop-drop, length-drop, map_push}
use Rattle.expr_parse.proofs.Words.{take_rest, prefix_len-le-length, TokenAt, Token, Tokens, token_of, token_at, spelled, is_blank, blanks}
use Rattle.expr_parse.proofs.Words.{first_token, in_front, tokens_at, tokens_from, tokens_of}
use Rattle.expr_parse.proofs.Longest.{bounds}

-- blanks are within the text
pub blanks_within : (text : List ℕ) (offset b : ℕ) → offset ≤ length text → b ≡ blanks (take (length text - offset) (drop offset text)) → (b ≡ blanks (drop offset text)) × (offset + b ≤ length text)
blanks_within text offset b within is =
    let same : b ≡ blanks (drop offset text) = is ∙ ap blanks (take_rest text offset) in
    (same, omega (arith, same, prefix_len-le-length is_blank (drop offset text), length-drop offset text))

-- a token that is found is within the text
pub token_within : (text : List ℕ) (offset m : ℕ) (t : Token) → offset ≤ length text → Some (t, m) ≡ first_token (take (length text - offset) (drop offset text)) → (Some (t, m) ≡ first_token (drop offset text)) × (0 < m) × (offset + m ≤ length text)
token_within text offset m t within is =
    let same : Some (t, m) ≡ first_token (drop offset text) = is ∙ ap first_token (take_rest text offset) in
    let room = bounds spelled (length (drop offset text)) (drop offset text) t m (sym same) in
    (same, room.0, omega (arith, room.1, length-drop offset text))

-- the tokens before, and the tokens from an offset on
abbrev pub after : List TokenAt → Tokens × ℕ → Tokens × ℕ
after placed others = (map token_at placed ++ others.0, others.1)

-- what is at an offset where no blank is, with at most so many tokens after the first
abbrev pub standing : ℕ → ℕ → List ℕ → Tokens × ℕ
standing n offset text = tokens_at (tokens_from n) offset text (first_token text)

pub begins : (placed : List TokenAt) (text : List ℕ) (offset : ℕ) → placed ≡ [] → offset ≡ 0 + blanks text → after placed (standing (length text) offset (drop offset text)) ≡ tokens_of text
begins placed text offset none is =
    let more : length text + 1 ≡ suc (length text) = omega arith in
    let here : 0 + blanks text ≡ blanks text = omega arith in
    rw (none, is ∙ here) (sym (ap (λ (n : ℕ). tokens_from n 0 text) more ∙ ap (λ (n : ℕ). standing (length text) n (drop (blanks text) text)) here))

on : (placed : List TokenAt) (p : TokenAt) (text : List ℕ) (offset n m : ℕ) → Some (token_of p.token, m) ≡ first_token (drop offset text) → p.offset ≡ offset → 0 < n
    → after (placed ++ p ∷ []) (standing (n - 1) (offset + m + blanks (drop (offset + m) text)) (drop (offset + m + blanks (drop (offset + m) text)) text)) ≡ after placed (standing n offset (drop offset text))
on placed p text offset zero m is here some = absurd (omega arith)
on placed p text offset (suc n) m is here some =
    let less : suc n - 1 ≡ n = omega arith in
    let rest : standing n (offset + m + blanks (drop (offset + m) text)) (drop (offset + m + blanks (drop (offset + m) text)) text) ≡ tokens_from (suc n) (offset + m) (drop (offset + m) text) =
    ap (λ (xs : List ℕ). standing n (offset + m + blanks (drop (offset + m) text)) xs) (sym (drop-drop (blanks (drop (offset + m) text)) (offset + m) text)) in
    let found : in_front offset (token_of p.token) (tokens_from (suc n) (offset + m) (drop (offset + m) text)) ≡ standing (suc n) offset (drop offset text) =
    ap (λ (xs : List ℕ). in_front offset (token_of p.token) (tokens_from (suc n) (offset + m) xs)) (sym (drop-drop m offset text)) ∙ ap (tokens_at (tokens_from (suc n)) offset (drop offset text)) is in
    rw less (ap (after (placed ++ p ∷ [])) rest ∙ pushed (tokens_from (suc n) (offset + m) (drop (offset + m) text)) ∙ ap (after placed) found)
  where
    pushed : (others : Tokens × ℕ) → after (placed ++ p ∷ []) others ≡ after placed (in_front offset (token_of p.token) others)
    pushed others = ap (λ (ts : Tokens). (ts, others.1)) (ap (λ (ts : Tokens). ts ++ others.0) (map_push token_at placed p) ∙ append_assoc (map token_at placed) (token_at p ∷ []) others.0 ∙ ap (λ (q : ℕ). map token_at placed ++ (q, token_of p.token) ∷ others.0) here)

pub goes_on : (placed more : List TokenAt) (p : TokenAt) (text : List ℕ) (offset next n m : ℕ) → Some (token_of p.token, m) ≡ first_token (drop offset text) → p.offset ≡ offset → 0 < n → more ≡ placed ++ p ∷ [] → next ≡ offset + m + blanks (drop (offset + m) text)
    → after more (standing (n - 1) next (drop next text)) ≡ after placed (standing n offset (drop offset text))
goes_on placed more p text offset next n m is here some pushed at = rw (pushed, at) (on placed p text offset n m is here some)

pub ends : (placed : List TokenAt) (text : List ℕ) (offset n : ℕ) → None ≡ first_token (drop offset text) → (map token_at placed, offset) ≡ after placed (standing n offset (drop offset text))
ends placed text offset n missing = ap (λ (ts : Tokens). (ts, offset)) (sym (append-nil (map token_at placed))) ∙ ap (λ (f : Option (Token × ℕ)). after placed (tokens_at (tokens_from n) offset (drop offset text) f)) missing
