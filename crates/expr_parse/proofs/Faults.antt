-- A fault at a token is that of every text that begins with the same tokens.
use Rattle.std.proofs.Common.{◌≡◌, ℕ, zero, suc, ◌+◌, ◌<◌, ◌≤◌, if◌then◌else◌, Option, Some, None, List, [], ◌∷◌, ◌++◌, drop, length, ap, sym, subst, append_assoc, ◌∙◌, arith}
use Rattle.expr_parse.proofs.Words.{le-leb, MatchFault, Token, Tokens, Formula, Atom, level_limit, Reading, match_of, reading, Read, Fails, IsMatch}
use Rattle.expr_parse.proofs.Words.{blanks, first_token, tokens_at, tokens_from, tokens_of, fault_offset, up_to, BeginsWith}
use Rattle.expr_parse.proofs.ReadsMatch.{match_is_read}
use Rattle.expr_parse.proofs.Traces.{what_is_read, fault_decided}

-- no token's offset is before this one, or before that of the token before it
abbrev InOrder : ℕ → Tokens → Type 0
InOrder p [] = Unit {0}
InOrder p (t ∷ ts) = (p ≤ t.0) × InOrder t.0 ts

found_in_order : (p offset : ℕ) (tokens : ℕ → List ℕ → Tokens × ℕ) (text : List ℕ) (found : Option (Token × ℕ)) → p ≤ offset
    → ((q at : ℕ) (rest : List ℕ) → q ≤ at → InOrder q (tokens at rest).0)
    → InOrder p (tokens_at tokens offset text found).0
found_in_order p offset tokens text None le all = tt
found_in_order p offset tokens text (Some found) le all = (le, all offset (offset + found.1) (drop found.1 text) (omega arith))

in_order : (n p offset : ℕ) (text : List ℕ) → p ≤ offset → InOrder p (tokens_from n offset text).0
in_order zero p offset text le = tt
in_order (suc n) p offset text le = found_in_order p (offset + blanks text) (tokens_from n) (drop (blanks text) text)
    (first_token (drop (blanks text) text)) (omega arith) (λ q at rest h. in_order n q at rest h)

before : (p : ℕ) (front : Tokens) (t : ℕ × Token) (rest : Tokens) → InOrder p (front ++ t ∷ rest) → p ≤ t.0
before p [] t rest h = h.0
before p (u ∷ front) t rest h = omega (arith, h.0, before u.0 front t rest h.1)

-- the tokens up to a token's offset begin with those up to the token
up_to_kept : (p : ℕ) (front : Tokens) (t : ℕ × Token) (rest : Tokens) → InOrder p (front ++ t ∷ rest)
    → up_to t.0 (front ++ t ∷ rest) ≡ front ++ t ∷ up_to t.0 rest
up_to_kept p [] t rest h = ap (λ b. if b then t ∷ up_to t.0 rest else []) (le-leb t.0 t.0 (omega arith))
up_to_kept p (u ∷ front) t rest h =
    ap (λ b. if b then u ∷ up_to t.0 (front ++ t ∷ rest) else []) (le-leb u.0 t.0 (before u.0 front t rest h.1))
    ∙ ap (λ xs. u ∷ xs) (up_to_kept u.0 front t rest h.1)

pub fault_stays : (text : List ℕ) (f : MatchFault) → reading text ≡ Fails f → fault_offset f < (tokens_of text).1 → (other : List ℕ) → BeginsWith other (up_to (fault_offset f) (tokens_of text).0) → reading other ≡ Fails f
fault_stays text f e past other begins =
    let d = fault_decided (length text) (tokens_of text).1 (tokens_of text).0 f e past in
    let order : InOrder 0 (d.0 ++ d.1 ∷ d.2) = subst (InOrder 0) d.3 (in_order (length text + 1) 0 0 text (omega arith)) in
    let first : up_to (fault_offset f) (tokens_of text).0 ≡ d.0 ++ d.1 ∷ up_to d.1.0 d.2 =
    ap (λ p. up_to p (tokens_of text).0) d.4 ∙ ap (up_to d.1.0) d.3 ∙ up_to_kept 0 d.0 d.1 d.2 order in
    let theirs : (tokens_of other).0 ≡ d.0 ++ d.1 ∷ (up_to d.1.0 d.2 ++ begins.0) =
    begins.1 ∙ ap (λ xs. xs ++ begins.0) first ∙ append_assoc d.0 (d.1 ∷ up_to d.1.0 d.2) begins.0 in
    ap (λ ts. match_of (length other) (ts, (tokens_of other).1)) theirs ∙ d.5 (length other) (tokens_of other).1 (up_to d.1.0 d.2 ++ begins.0)

-- a fault at one of the first tokens is the text's
pub certain : (text : List ℕ) (first : Tokens) (others : Tokens × ℕ) (end : ℕ) (f : MatchFault) → (first ++ others.0, others.1) ≡ tokens_of text → fault_offset f < end → match_of (length text) (first, end) ≡ Fails f → reading text ≡ Fails f
certain text first others end f is past e =
    let d = fault_decided (length text) end first f e past in
    let whole : first ++ others.0 ≡ d.0 ++ d.1 ∷ (d.2 ++ others.0) = ap (λ xs. xs ++ others.0) d.3 ∙ append_assoc d.0 (d.1 ∷ d.2) others.0 in
    sym (ap (match_of (length text)) is) ∙ ap (λ ts. match_of (length text) (ts, others.1)) whole ∙ d.5 (length text) others.1 (d.2 ++ others.0)

no_fault : (f : MatchFault) (g : Formula Atom) (r : Reading (Formula Atom)) → r ≡ Fails f → r ≡ Read g [] → ⊥
no_fault f g r e h = absurd cc

pub no_match : (text other : List ℕ) (fault : MatchFault) (f : Formula Atom) → reading text ≡ Fails fault → (tokens_of text).1 ≡ length text
    → (tokens_of other).0 ≡ (tokens_of text).0 → reading other ≡ Read f [] → ⊥
no_match text other fault f e whole same reads =
    let P : Tokens → Type 0 = λ ts. IsMatch level_limit ts f in
    no_fault fault f (reading text) e (match_is_read text f (whole, subst P same (what_is_read other f reads).1))
