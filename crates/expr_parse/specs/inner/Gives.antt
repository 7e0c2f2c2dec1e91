-- What the readers of tokens answer.
use Rattle.std.specs.Prelude.{◌≡◌, false, ℕ, List, [], ◌∷◌, map, Result, Ok, Err}
use Rattle.std.specs.Borrow.{Bor}
use Rattle.expr_parse.specs.declared.fault.MatchFault.{MatchFault}
use Rattle.expr_parse.specs.declared.fault.MatchFault.TheVariants.{Syntax}
use Rattle.expr_parse.specs.declared.token.TokenAt.{TokenAt}
use Rattle.expr_parse.specs.Token.{Tokens}
use Rattle.expr_parse.specs.inner.Borrowed.{token_at}
use Rattle.expr_parse.specs.Grammar.{Reading, is_memory}
use Rattle.expr_parse.specs.Grammar.Reading.{Read, Fails}

-- the tokens of a slice
abbrev pub seen : List TokenAt → Tokens
seen ts = map token_at ts

-- the fault at the first of these tokens, or at the offset where the tokens end
abbrev pub fault_at : ℕ → Tokens → MatchFault
fault_at end [] = Syntax end
fault_at end (t ∷ ts) = Syntax t.0

-- The answer is what the reading comes to: a value and the tokens after it, or the fault, unless memory ran out.
abbrev pub Reads : {T : Type 0} → Result (T × Bor (List TokenAt)) MatchFault → Reading T → Type 0
Reads (Ok x) reading = reading ≡ Read x.0 (seen x.1.now)
Reads (Err fault) reading = is_memory fault ≡ false → reading ≡ Fails fault
