-- How the output of an input goes on with the input.
use Rattle.std.proofs.Common.{◌≡◌, ℕ, ◌-◌, Bool, true, false, List, [], ◌∷◌, ◌++◌, length, take, refl, sym, ap, ◌∙◌, subst, append_assoc}
use Rattle.std.specs.Prelude.{if◌then◌else◌}
use Rattle.std.proofs.lemmas.List.{append-nil}
use Rattle.clap.specs.Words.{Text}
use Rattle.nv_options.specs.Options.{accepts}
use Rattle.nv_reply.specs.Session.{Session}
use Rattle.nv_input.specs.Opening.{written_for}
use Rattle.nv_reply.specs.Reply.{reply, replies, session_after, some_refused}
use Rattle.nv_input.specs.Lines.{is_newline, lines_of, complete_lines}
use Rattle.nv_serve.specs.Output.{opened, output, complete_output, usage_line}
use Rattle.nv_io.specs.Passed.{IsPrefix}
use Rattle.nv_input.specs.inner.StateAfter.{IsStateAfter}
use Rattle.nv_input.proofs.Splits.{split_has_first, take-butlast}
use Rattle.nv_input.proofs.Kept.{reply_nothing}
use Rattle.nv_input.proofs.StateAfter.{written_prefix, stands_more, written_end}

-- a list with a first element has a last
has_last : {X : Type 0} (x : X) (xs : List X) → (init : List X) × (last : X) × (x ∷ xs ≡ init ++ last ∷ [])
has_last x [] = ([], x, refl)
has_last x (y ∷ ys) = let more = has_last y ys in (x ∷ more.0, more.1, ap (λ rest. x ∷ rest) more.2)

-- the last line of an input
last_line : (input : List ℕ) → (line : List ℕ) × (lines_of input ≡ complete_lines input ++ line ∷ [])
last_line input =
    let first = split_has_first is_newline input in
    let parts = has_last first.first first.others in
    let lines : lines_of input ≡ parts.0 ++ parts.1 ∷ [] = first.is ∙ parts.2 in
    let complete : complete_lines input ≡ parts.0 = ap (λ all. take (length all - 1) all) lines ∙ take-butlast parts.0 parts.1 in
    (parts.1, lines ∙ ap (λ all. all ++ parts.1 ∷ []) (sym complete))

-- an empty line has no reply
nothing_said : (session : Session) → (reply session []).text ≡ []
nothing_said session = ap (λ r. r.text) (reply_nothing session)

module _ (first : Session) where
  -- the state after an input
  state_after : (input : List ℕ) → IsStateAfter first (session_after first (complete_lines input)) (last_line input).0 (some_refused first (complete_lines input)) input
  state_after input = record { line_is = (last_line input).1; session_is = refl; refused_is = refl }

  -- the replies to an input's complete lines begin those to all lines of each input that begins with it
  replies_begin : (input more : List ℕ) → IsPrefix (replies first (complete_lines input)) (replies first (lines_of (input ++ more)))
  replies_begin input more = written_prefix first _ _ _ input (state_after input) more

  -- at a line's end these are all replies
  at_line_end : (input : List ℕ) → replies first (lines_of (input ++ 10 ∷ [])) ≡ replies first (complete_lines (input ++ 10 ∷ []))
  at_line_end input =
      written_end first _ _ _ (input ++ 10 ∷ []) (stands_more first _ _ _ input (state_after input))
      ∙ ap (λ text. replies first (complete_lines (input ++ 10 ∷ [])) ++ text) (nothing_said (reply (session_after first (complete_lines input)) (last_line input).0).after)
      ∙ append-nil (replies first (complete_lines (input ++ 10 ∷ [])))

  replies_go_on : (input more : List ℕ) → IsPrefix (replies first (lines_of (input ++ 10 ∷ []))) (replies first (lines_of ((input ++ 10 ∷ []) ++ more)))
  replies_go_on input more = subst (λ text. IsPrefix text (replies first (lines_of ((input ++ 10 ∷ []) ++ more)))) (sym (at_line_end input)) (replies_begin (input ++ 10 ∷ []) more)

-- a text that is due where the arguments are accepted
pub due_begins : (words : List Text) (input part : List ℕ) → accepts words ≡ true → IsPrefix part (written_for (opened words) (lines_of input)) → IsPrefix part (output words input)
due_begins words input part accepted begins = subst (λ due. IsPrefix part due) (sym (ap (λ b. if b then written_for (opened words) (lines_of input) else usage_line) accepted)) begins

-- what begins a text does so after another
after_front : (front part whole : List ℕ) → IsPrefix part whole → IsPrefix (front ++ part) (front ++ whole)
after_front front part whole (rest, is) = (rest, ap (λ t. front ++ t) is ∙ sym (append_assoc front part rest))

pub begins : (words : List Text) (input more : List ℕ) → accepts words ≡ true → IsPrefix (complete_output words input) (output words (input ++ more))
begins words input more accepted =
    let first = opened words in
    due_begins words (input ++ more) (complete_output words input) accepted
    (after_front first.text (replies first.session (complete_lines input)) (replies first.session (lines_of (input ++ more))) (replies_begin first.session input more))

pub goes_on : (words : List Text) (input more : List ℕ) → IsPrefix (output words (input ++ 10 ∷ [])) (output words ((input ++ 10 ∷ []) ++ more))
goes_on words input more = by (accepts words)
  where
    due : Bool → List ℕ → List ℕ
    due accepted input = if accepted then written_for (opened words) (lines_of input) else usage_line

    by : (accepted : Bool) → IsPrefix (due accepted (input ++ 10 ∷ [])) (due accepted ((input ++ 10 ∷ []) ++ more))
    by true =
        let first = opened words in
        after_front first.text (replies first.session (lines_of (input ++ 10 ∷ []))) (replies first.session (lines_of ((input ++ 10 ∷ []) ++ more))) (replies_go_on first.session input more)
    by false = ([], sym (append-nil usage_line))
