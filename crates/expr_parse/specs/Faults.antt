-- What a fault says of every text that begins with the same tokens.
use Rattle.std.specs.Prelude.{◌≡◌, ℕ, nat_le, List, [], ◌∷◌, ◌++◌, if◌then◌else◌}
use Rattle.expr_parse.specs.declared.fault.MatchFault.{MatchFault}
use Rattle.expr_parse.specs.declared.fault.MatchFault.TheVariants.{Syntax, Mixed, TooDeep, Memory}
use Rattle.expr_parse.specs.Token.{Tokens}
use Rattle.expr_parse.specs.Tokens.{tokens_of}

-- the offset of a fault: out of memory has none, and no text is read as it
abbrev pub fault_offset : MatchFault → ℕ
fault_offset (Syntax p) = p
fault_offset (Mixed p) = p
fault_offset (TooDeep p) = p
fault_offset Memory = 0

-- the first tokens, up to and with the one at this offset
abbrev pub up_to : ℕ → Tokens → Tokens
up_to p [] = []
up_to p (t ∷ ts) = if nat_le t.0 p then t ∷ up_to p ts else []

-- the tokens of a text begin with these
abbrev pub BeginsWith : List ℕ → Tokens → Type 0
BeginsWith text first = (others : Tokens) × ((tokens_of text).0 ≡ first ++ others)
