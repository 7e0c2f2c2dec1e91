-- What is kept of a line says what the line does.
use Rattle.std.proofs.Common.{◌≡◌, ℕ, ◌+◌, ◌-◌, ◌<◌, ◌≤◌, ◌⊎◌, inl, inr, Bool, true, false, cond, List, [], ◌++◌, length, take, eqb, Ok, Err, refl, sym, ap, ◌∙◌, arith}
use Rattle.std.specs.Prelude.{not}
use Rattle.std.specs.Str.{is_utf8}
use Rattle.std.proofs.lemmas.Bool.{cases_lt, lt-ltb, eqb-true}
use Rattle.std.proofs.lemmas.Str.{is_utf8-from_IsUtf8, IsUtf8-nil}
use Rattle.std.proofs.lemmas.List.{append-nil, length-append, length-take, length-take-le, take_all, take-append-le, nil_from_length}
use Rattle.std.proofs.Math.Seq.{take-append-add}
use Rattle.nb_records.specs.declared.refusal.Refusal.TheVariants.{NotUtf8, LineTooLong}
use Rattle.nb_words.specs.Commands.{line_limit, says_nothing, commands_of}
use Rattle.nb_words.specs.Words.{words_of}
use Rattle.nb_read.specs.Then.{and_then}
use Rattle.nb_cmds.specs.Lines.{said, read_line}
use Rattle.nb_cmds.specs.declared.line.Line.TheVariants.{Nothing}
use Rattle.nv_reply.specs.Session.{Session}
use Rattle.nv_reply.specs.Reply.{answered, reply, reply_to}
use Rattle.nv_input.specs.inner.StateAfter.{IsKeptAfter, kept_limit, and_kept}
use Rattle.nv_input.proofs.StateAfter.{stands_first}

-- a line of too many bytes
read_long : (line : List ℕ) → line_limit < length line → read_line line ≡ Err LineTooLong
read_long line long =
    ap (λ b. and_then (cond b (Err LineTooLong) (cond (not (is_utf8 line)) (Err NotUtf8) (cond (says_nothing line) (Ok []) (commands_of (words_of line))))) said) (lt-ltb line_limit (length line) long)

-- fewer bytes than are kept
all_kept : (line : List ℕ) → length line < kept_limit → take kept_limit line ≡ line
all_kept line short = take_all kept_limit line (omega (arith, short))

read_kept : (line : List ℕ) → read_line (take kept_limit line) ≡ read_line line
read_kept line = by (cases_lt (length line) kept_limit)
  where
    by : (length line < kept_limit) ⊎ (kept_limit ≤ length line) → read_line (take kept_limit line) ≡ read_line line
    by (inl short) = ap read_line (all_kept line short)
    by (inr long) = read_long (take kept_limit line) (omega (arith, length-take-le kept_limit line long)) ∙ sym (read_long line (omega (arith, long)))

-- the reply to a line is that to what is kept of it
pub reply_kept : (session : Session) (line kept : List ℕ) → kept ≡ take kept_limit line → reply session kept ≡ reply session line
unfolding reply
reply_kept session line kept is = ap (λ read. answered session read (reply_to session)) (ap read_line is ∙ read_kept line)

-- more bytes of a line that is kept
pub kept_more : (line kept bytes : List ℕ) → kept ≡ take kept_limit line → and_kept kept bytes ≡ take kept_limit (line ++ bytes)
kept_more line kept bytes is = ap (λ k. and_kept k bytes) is ∙ by (cases_lt (length line) kept_limit)
  where
    by : (length line < kept_limit) ⊎ (kept_limit ≤ length line) → and_kept (take kept_limit line) bytes ≡ take kept_limit (line ++ bytes)
    by (inl short) =
        let room : length line + (kept_limit - length line) ≡ kept_limit = omega (arith, short) in
        ap (λ k. and_kept k bytes) (all_kept line short) ∙ sym (take-append-add line bytes (kept_limit - length line)) ∙ ap (λ n. take n (line ++ bytes)) room
    by (inr long) =
        let full : kept_limit - length (take kept_limit line) ≡ 0 = omega (arith, length-take-le kept_limit line long) in
        ap (λ n. take kept_limit line ++ take n bytes) full ∙ append-nil (take kept_limit line) ∙ sym (take-append-le kept_limit line bytes long)

-- and no more is kept than there was
pub kept_longer : (kept bytes : List ℕ) → length (and_kept kept bytes) ≤ length kept + length bytes
kept_longer kept bytes = omega (arith, length-append kept (take (kept_limit - length kept) bytes), length-take (kept_limit - length kept) bytes)

-- before the first byte
pub kept_first : (first : Session) → IsKeptAfter first first [] false []
kept_first first = record { line = []; stands = stands_first first; kept_is = refl }

-- an empty line
pub read_nothing : read_line [] ≡ Ok Nothing
read_nothing = ap (λ b. and_then (cond (not b) (Err NotUtf8) (Ok [])) said) (is_utf8-from_IsUtf8 [] IsUtf8-nil)

pub reply_nothing : (session : Session) → reply session [] ≡ record { text = []; refused = false; after = session }
unfolding reply
reply_nothing session = ap (λ read. answered session read (reply_to session)) read_nothing

-- no bytes, where a test says so
pub none_there : (bytes : List ℕ) (test : Bool) → test ≡ eqb (length bytes) 0 → test ≡ true → bytes ≡ []
none_there bytes test is holds = nil_from_length bytes (eqb-true (length bytes) 0 (sym is ∙ holds))

-- an empty line, of which nothing was kept
pub reply_empty : (session : Session) (kept bytes : List ℕ) → kept ≡ [] → bytes ≡ [] → reply session (and_kept kept bytes) ≡ record { text = []; refused = false; after = session }
reply_empty session kept bytes none empty = rw (none, empty) (reply_nothing session)
