-- How far the reading of units that one operator joins, or of a set, has come, and how a reading that began fails.
use Rattle.std.proofs.Common.{◌≡◌, ◌<◌, ◌≤◌, ℕ, zero, suc, List, [], ◌∷◌, ◌++◌, length, Some, None, ap, ◌∙◌, sym, arith, refl, Result, Ok, Err, false, ◌==◌}
use Rattle.std.specs.Borrow.{Bor}
use Rattle.std.proofs.lemmas.Bool.{ne_eqb}
use Rattle.std.specs.Result.{IsErrAnd, IfErr}
use Rattle.expr_parse.specs.Grammar.{is_memory, finished}
use Rattle.expr_parse.specs.inner.Gives.{Reads, fault_at}
use Rattle.expr_parse.specs.declared.operator.Operator.TheVariants as operator
use Rattle.expr_parse.specs.declared.token.Token.TheVariants as token
use Rattle.expr_parse.proofs.Words.{length-map, Formula, Atom, MatchFault, Operator, TokenAt, Tokens, token_at, seen, Item, Right, Reading, and_then}
use Rattle.expr_parse.proofs.Words.{item, items, sign, after_operator, chain_end, one_more, chain, Read, Fails}

-- the operator's sign is the next token
sign_after : (o : Operator) (p : ℕ) (ts : Tokens) → after_operator o ((p, sign o) ∷ ts) ≡ Some ts
sign_after operator.And p ts = refl
sign_after operator.Or p ts = refl

module _ (unit : Tokens → Reading (Formula Atom)) (o : Operator) where
  -- the chain after its first unit and the first operator
  abbrev pub from_second : Formula Atom → Tokens → Reading (Formula Atom)
  from_second first ts = and_then (unit ts) (λ f after. chain unit o (length ts) (first ∷ f ∷ []) after)

  -- what is left is the rest of the chain, whose units so far are these
  abbrev pub SoFar : Formula Atom → List TokenAt → List (Formula Atom) → List TokenAt → Type 0
  SoFar first tokens units left = (length left ≤ length tokens) × ((n : ℕ) × (length left ≤ n) × (chain unit o n units (seen left) ≡ from_second first (seen tokens)))

  pub begins : (first second : Formula Atom) (tokens left : List TokenAt) (none one two : List (Formula Atom)) → none ≡ [] → one ≡ none ++ first ∷ [] → two ≡ one ++ second ∷ [] → length left ≤ length tokens → unit (seen tokens) ≡ Read second (seen left) → SoFar first tokens two left
  begins first second tokens left none one two e p q shorter reads =
      let both : two ≡ first ∷ second ∷ [] = q ∙ ap (λ xs. xs ++ second ∷ []) (p ∙ ap (λ xs. xs ++ first ∷ []) e) in
      let same : length (seen tokens) ≡ length tokens = length-map tokens token_at in
      let whole : chain unit o (length (seen tokens)) two (seen left) ≡ from_second first (seen tokens) = ap (λ us. chain unit o (length (seen tokens)) us (seen left)) both ∙ sym (ap (λ r. and_then r (λ f after. chain unit o (length (seen tokens)) (first ∷ f ∷ []) after)) reads) in
      (shorter, (length (seen tokens), omega arith, whole))

  -- a step of the chain
  step : (n : ℕ) (units : List (Formula Atom)) (f : Formula Atom) (left rest after : Tokens) → after_operator o left ≡ Some rest → unit rest ≡ Read f after → chain unit o (suc n) units left ≡ chain unit o n (units ++ f ∷ []) after
  step n units f left rest after there reads =
      ap (one_more unit (λ g more. chain unit o n (units ++ g ∷ []) more) (chain_end o units left)) there ∙ ap (λ r. and_then r (λ g more. chain unit o n (units ++ g ∷ []) more)) reads

  pub signed_step : (n : ℕ) (units : List (Formula Atom)) (p : ℕ) (ts : Tokens)
      → chain unit o (suc n) units ((p, sign o) ∷ ts) ≡ and_then (unit ts) (λ g more. chain unit o n (units ++ g ∷ []) more)
  signed_step n units p ts =
      ap (one_more unit (λ g more. chain unit o n (units ++ g ∷ []) more) (chain_end o units ((p, sign o) ∷ ts))) (sign_after o p ts)

  pub goes_on : (first : Formula Atom) (units more : List (Formula Atom)) (f : Formula Atom) (tokens left rest after : List TokenAt) → SoFar first tokens units left → after_operator o (seen left) ≡ Some (seen rest) → length rest < length left → unit (seen rest) ≡ Read f (seen after) → length after ≤ length rest → more ≡ units ++ f ∷ [] → SoFar first tokens more after
  goes_on first units more f tokens left rest after (shorter, (zero, few, goes)) there less reads fewer pushed = absurd (omega arith)
  goes_on first units more f tokens left rest after (shorter, (suc n, few, goes)) there less reads fewer pushed =
      (omega arith, (n, omega arith, ap (λ us. chain unit o n us (seen after)) pushed ∙ sym (step n units f (seen left) (seen rest) (seen after) there reads) ∙ goes))

  -- a fault of the next unit is the chain's
  pub fails : (first : Formula Atom) (units : List (Formula Atom)) (fault : MatchFault) (tokens left rest : List TokenAt) → SoFar first tokens units left → after_operator o (seen left) ≡ Some (seen rest) → length rest < length left → unit (seen rest) ≡ Fails fault → from_second first (seen tokens) ≡ Fails fault
  fails first units fault tokens left rest (shorter, (zero, few, goes)) there less reads = absurd (omega arith)
  fails first units fault tokens left rest (shorter, (suc n, few, goes)) there less reads =
      sym goes ∙ ap (one_more unit (λ g more. chain unit o n (units ++ g ∷ []) more) (chain_end o units (seen left))) there ∙ ap (λ r. and_then r (λ g more. chain unit o n (units ++ g ∷ []) more)) reads

  -- a chain ends where its operator is not the next token
  pub ends : (n : ℕ) (units : List (Formula Atom)) (left : Tokens) → after_operator o left ≡ None → chain unit o n units left ≡ chain_end o units left
  ends zero units left gone = refl
  ends (suc n) units left gone = ap (one_more unit (λ g more. chain unit o n (units ++ g ∷ []) more) (chain_end o units left)) gone

  pub ended : (first : Formula Atom) (units : List (Formula Atom)) (tokens left : List TokenAt) → SoFar first tokens units left → after_operator o (seen left) ≡ None → chain_end o units (seen left) ≡ from_second first (seen tokens)
  ended first units tokens left (shorter, (n, few, goes)) gone = sym (ends n units (seen left) gone) ∙ goes

-- the set that is here
abbrev pub set : ℕ → Tokens → Reading Right
set end ts = and_then (item end ts) (λ i after. items end (length ts) (i ∷ []) after)

-- what is left is the rest of the set, whose items so far are these
abbrev pub SetSoFar : ℕ → List TokenAt → List Item → List TokenAt → Type 0
SetSoFar end tokens before left = (length left ≤ length tokens) × ((n : ℕ) × (length left ≤ n) × (items end n before (seen left) ≡ set end (seen tokens)))

pub begins_set : (end : ℕ) (tokens left : List TokenAt) (first : Item) (none before : List Item) → none ≡ [] → before ≡ none ++ first ∷ [] → length left ≤ length tokens → item end (seen tokens) ≡ Read first (seen left) → SetSoFar end tokens before left
begins_set end tokens left first none before e p shorter reads =
    let one : before ≡ first ∷ [] = p ∙ ap (λ xs. xs ++ first ∷ []) e in
    let same : length (seen tokens) ≡ length tokens = length-map tokens token_at in
    let goes : items end (length (seen tokens)) before (seen left) ≡ set end (seen tokens) = ap (λ xs. items end (length (seen tokens)) xs (seen left)) one ∙ sym (ap (λ r. and_then r (λ i after. items end (length (seen tokens)) (i ∷ []) after)) reads) in
    (shorter, (length (seen tokens), omega arith, goes))

-- where reading a first part failed, the whole fails in the same way
pub fails_after : {S T : Type 0} (r : Result (T × Bor (List TokenAt)) MatchFault) (fault : MatchFault) (first : Reading S) (go_on : S → Tokens → Reading T) → IsErrAnd r (λ y. y ≡ fault)
    → (is_memory fault ≡ false → first ≡ Fails fault) → Reads r (and_then first go_on)
fails_after (Ok x) fault first go_on h failed = absurd h
fails_after (Err y) fault first go_on h failed = rw h (λ other. rw (failed other) refl)

-- after a comma and one item more
set_step : (end : ℕ) (tokens left rest after : List TokenAt) (p : ℕ) (next : Item) (before more : List Item) (n : ℕ)
    → length left ≤ length tokens → length left ≤ n → items end n before (seen left) ≡ set end (seen tokens)
    → left ≡ record { offset = p; token = token.Comma } ∷ rest → item end (seen rest) ≡ Read next (seen after) → length after ≤ length rest → more ≡ before ++ next ∷ []
    → SetSoFar end tokens more after
set_step end tokens left rest after p next before more zero short fits goes there reads fewer is = absurd (omega (arith, fits, ap length there))
set_step end tokens left rest after p next before more (suc n) short fits goes there reads fewer is =
    let long = ap length there in
    (omega (arith, long, short, fewer), (n, omega (arith, long, fits, fewer), rw is (rw (there, reads) at goes)))

pub set_goes_on : (end : ℕ) (tokens left rest after : List TokenAt) (p : ℕ) (next : Item) (before more : List Item)
    → SetSoFar end tokens before left → left ≡ record { offset = p; token = token.Comma } ∷ rest
    → item end (seen rest) ≡ Read next (seen after) → length after ≤ length rest → more ≡ before ++ next ∷ []
    → SetSoFar end tokens more after
set_goes_on end tokens left rest after p next before more so_far = set_step end tokens left rest after p next before more so_far.1.0 so_far.0 so_far.1.1 so_far.1.2

pub match_fails : {S T U : Type 0} (r : Result U MatchFault) (fault : MatchFault) (first : Reading S) (go_on : S → Tokens → Reading T) → IsErrAnd r (λ y. y ≡ fault)
    → (is_memory fault ≡ false → first ≡ Fails fault) → IfErr r (λ f. is_memory f ≡ false → and_then first go_on ≡ Fails f)
match_fails (Ok x) fault first go_on h failed = absurd h
match_fails (Err y) fault first go_on h failed = rw h (λ other. rw (failed other) refl)

-- where tokens are left, or the text goes on, the match is not finished
pub not_finished : (len end : ℕ) (f : Formula Atom) (left : List TokenAt) → (left ≡ [] → end ≡ len → ⊥) → finished len end f (seen left) ≡ Fails (fault_at end (seen left))
not_finished len end f [] never =
    let other : (end == len) ≡ false = ne_eqb end len (never refl) in
    rw other refl
not_finished len end f (t ∷ ts) never = refl
