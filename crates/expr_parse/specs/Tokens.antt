-- The tokens of a text: the longest that fits at each offset, with blanks between.
use Rattle.std.specs.Prelude.{ℕ, zero, suc, ◌+◌, ◌==◌, ◌||◌, Bool, List, [], ◌∷◌, length, take, drop, Option, Some, None}
use Rattle.std.specs.List.{prefix_len}
use Rattle.std.specs.Option.{option_map}
use Rattle.expr_const.specs.Constant.{or_else}
use Rattle.expr_parse.specs.Token.{Token, Tokens}
use Rattle.expr_parse.specs.Spelling.{spelled}

-- a space or a tab
abbrev pub is_blank : ℕ → Bool
is_blank byte = (byte == 32) || (byte == 9)

-- how many blanks the text begins with
abbrev pub blanks : List ℕ → ℕ
blanks text = prefix_len is_blank text

-- the token of the longest front of at most so many bytes that is one, and how many bytes it takes
abbrev pub longest : (List ℕ → Option Token) → ℕ → List ℕ → Option (Token × ℕ)
longest token zero text = None
longest token (suc n) text = or_else (option_map (λ t. (t, suc n)) (token (take (suc n) text))) (longest token n text)

-- the longest token at the front of the text
abbrev pub first_token : List ℕ → Option (Token × ℕ)
first_token text = longest spelled (length text) text

-- a token before others
abbrev pub in_front : ℕ → Token → Tokens × ℕ → Tokens × ℕ
in_front offset token others = ((offset, token) ∷ others.0, others.1)

-- the tokens from an offset on: the one found there, and those after it
abbrev pub tokens_at : (ℕ → List ℕ → Tokens × ℕ) → ℕ → List ℕ → Option (Token × ℕ) → Tokens × ℕ
tokens_at after offset text None = ([], offset)
tokens_at after offset text (Some found) = in_front offset found.0 (after (offset + found.1) (drop found.1 text))

-- the first tokens, at most so many, of the text at this offset, and the offset where they end
abbrev pub tokens_from : ℕ → ℕ → List ℕ → Tokens × ℕ
tokens_from zero offset text = ([], offset)
tokens_from (suc n) offset text = tokens_at (tokens_from n) (offset + blanks text) (drop (blanks text) text) (first_token (drop (blanks text) text))

-- the tokens of a text, and the offset of the first byte that begins none, or of the end
abbrev pub tokens_of : List ℕ → Tokens × ℕ
tokens_of text = tokens_from (length text + 1) 0 text
