-- The state of the program after more of its input.
use Rattle.std.proofs.Common.{◌≡◌, ℕ, ◌-◌, Bool, true, false, ◌||◌, List, [], ◌∷◌, ◌++◌, length, take, refl, sym, ap, ◌∙◌, append_assoc}
use Rattle.std.proofs.lemmas.List.{append-nil}
use Rattle.std.specs.List.{slice_split}
use Rattle.nv_reply.specs.Session.{Session}
use Rattle.nv_reply.specs.Reply.{reply, replies, some_refused, session_after}
use Rattle.nv_input.specs.Lines.{is_newline, lines_of, complete_lines}
use Rattle.nv_input.specs.inner.StateAfter.{IsStateAfter}
use Rattle.nv_input.proofs.Splits.{joined, joined-last, split-append, take-butlast}

-- one list of lines after another
pub replies-append : (session : Session) (xs ys : List (List ℕ)) → replies session (xs ++ ys) ≡ replies session xs ++ replies (session_after session xs) ys
replies-append session [] ys = refl
replies-append session (x ∷ xs) ys =
    ap (λ more. (reply session x).text ++ more) (replies-append (reply session x).after xs ys)
    ∙ sym (append_assoc (reply session x).text (replies (reply session x).after xs) (replies (session_after (reply session x).after xs) ys))

pub session_after-append : (session : Session) (xs ys : List (List ℕ)) → session_after session (xs ++ ys) ≡ session_after (session_after session xs) ys
session_after-append session [] ys = refl
session_after-append session (x ∷ xs) ys = session_after-append (reply session x).after xs ys

or_assoc : (a b c : Bool) → (a || (b || c)) ≡ ((a || b) || c)
or_assoc true b c = refl
or_assoc false b c = refl

pub some_refused-append : (session : Session) (xs ys : List (List ℕ)) → some_refused session (xs ++ ys) ≡ (some_refused session xs || some_refused (session_after session xs) ys)
some_refused-append session [] ys = refl
some_refused-append session (x ∷ xs) ys =
    ap (λ more. (reply session x).refused || more) (some_refused-append (reply session x).after xs ys)
    ∙ or_assoc (reply session x).refused (some_refused (reply session x).after xs) (some_refused (session_after (reply session x).after xs) ys)

pub or_false : (a : Bool) → (a || false) ≡ a
or_false true = refl
or_false false = refl

-- before the first byte
pub stands_first : (first : Session) → IsStateAfter first first [] false []
stands_first first = record { line_is = refl; session_is = refl; refused_is = refl }

module _ (first session : Session) (line : List ℕ) (refused : Bool) (before : List ℕ) (stands : IsStateAfter first session line refused before) where
  -- the lines of these bytes and of more
  lines-append : (more : List ℕ) → lines_of (before ++ more) ≡ complete_lines before ++ joined (line ∷ []) (lines_of more)
  lines-append more =
      split-append is_newline before more ∙ ap (λ parts. joined parts (lines_of more)) stands.line_is
      ∙ joined-last (complete_lines before) line (lines_of more)

  -- the complete lines, where the lines are known
  whole_from_lines : (input : List ℕ) (whole : List (List ℕ)) (last : List ℕ) → lines_of input ≡ whole ++ last ∷ [] → complete_lines input ≡ whole
  whole_from_lines input whole last e = ap (λ parts. take (length parts - 1) parts) e ∙ take-butlast whole last

  -- bytes without a newline go on with the line
  pub lines-same : (bytes : List ℕ) → slice_split is_newline bytes ≡ bytes ∷ [] → lines_of (before ++ bytes) ≡ complete_lines before ++ (line ++ bytes) ∷ []
  lines-same bytes one = lines-append bytes ∙ ap (λ parts. complete_lines before ++ joined (line ∷ []) parts) one

  pub whole-same : (bytes : List ℕ) → slice_split is_newline bytes ≡ bytes ∷ [] → complete_lines (before ++ bytes) ≡ complete_lines before
  whole-same bytes one = whole_from_lines (before ++ bytes) (complete_lines before) (line ++ bytes) (lines-same bytes one)

  pub stands_same : (bytes : List ℕ) → slice_split is_newline bytes ≡ bytes ∷ [] → IsStateAfter first session (line ++ bytes) refused (before ++ bytes)
  stands_same bytes one = record {
    line_is = lines-same bytes one ∙ ap (λ whole. whole ++ (line ++ bytes) ∷ []) (sym (whole-same bytes one));
    session_is = stands.session_is ∙ ap (session_after first) (sym (whole-same bytes one));
    refused_is = stands.refused_is ∙ ap (some_refused first) (sym (whole-same bytes one));
  }

  pub written_same : (bytes : List ℕ) → slice_split is_newline bytes ≡ bytes ∷ [] → replies first (complete_lines (before ++ bytes)) ≡ replies first (complete_lines before)
  written_same bytes one = ap (replies first) (whole-same bytes one)

  -- the line that has no end yet, after the complete lines
  replies-line : replies first (complete_lines before ++ line ∷ []) ≡ replies first (complete_lines before) ++ (reply session line).text
  replies-line =
      replies-append first (complete_lines before) (line ∷ [])
      ∙ ap (λ text. replies first (complete_lines before) ++ text) (append-nil (reply (session_after first (complete_lines before)) line).text ∙ ap (λ session. (reply session line).text) (sym stands.session_is))

  some_refused-line : some_refused first (complete_lines before ++ line ∷ []) ≡ (refused || (reply session line).refused)
  some_refused-line =
      some_refused-append first (complete_lines before) (line ∷ [])
      ∙ ap (λ last. some_refused first (complete_lines before) || last) (or_false (reply (session_after first (complete_lines before)) line).refused ∙ ap (λ session. (reply session line).refused) (sym stands.session_is))
      ∙ ap (λ some. some || (reply session line).refused) (sym stands.refused_is)

  -- a newline ends the line
  lines-more : lines_of (before ++ 10 ∷ []) ≡ (complete_lines before ++ line ∷ []) ++ [] ∷ []
  lines-more = lines-append (10 ∷ []) ∙ ap (λ l. complete_lines before ++ l ∷ [] ∷ []) (append-nil line) ∙ sym (append_assoc (complete_lines before) (line ∷ []) ([] ∷ []))

  whole-more : complete_lines (before ++ 10 ∷ []) ≡ complete_lines before ++ line ∷ []
  whole-more = whole_from_lines (before ++ 10 ∷ []) (complete_lines before ++ line ∷ []) [] lines-more

  pub stands_more : IsStateAfter first (reply session line).after [] (refused || (reply session line).refused) (before ++ 10 ∷ [])
  stands_more = record {
    line_is = lines-more ∙ ap (λ whole. whole ++ [] ∷ []) (sym whole-more);
    session_is =
        ap (λ session. (reply session line).after) stands.session_is
        ∙ sym (session_after-append first (complete_lines before) (line ∷ []))
        ∙ ap (session_after first) (sym whole-more);
    refused_is = sym some_refused-line ∙ ap (some_refused first) (sym whole-more);
  }

  -- the reply to the line that has no end yet
  pub written_more : replies first (complete_lines (before ++ 10 ∷ [])) ≡ replies first (complete_lines before) ++ (reply session line).text
  written_more = ap (replies first) whole-more ∙ replies-line

  -- at the end of the input the last line is run
  pub written_end : replies first (lines_of before) ≡ replies first (complete_lines before) ++ (reply session line).text
  written_end = ap (replies first) stands.line_is ∙ replies-line

  pub refused_end : some_refused first (lines_of before) ≡ (refused || (reply session line).refused)
  refused_end = ap (some_refused first) stands.line_is ∙ some_refused-line

  -- what was written for the complete lines begins the output of any input that goes on from here
  pub written_prefix : (more : List ℕ) → (rest : List ℕ) × (replies first (lines_of (before ++ more)) ≡ replies first (complete_lines before) ++ rest)
  written_prefix more =
      (replies (session_after first (complete_lines before)) (joined (line ∷ []) (lines_of more)), ap (replies first) (lines-append more) ∙ replies-append first (complete_lines before) (joined (line ∷ []) (lines_of more)))
