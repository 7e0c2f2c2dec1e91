-- A line has no more edits than bytes.
use Rattle.std.proofs.Common.{◌≡◌, ◌≤◌, ◌<◌, ◌+◌, ℕ, Bool, true, false, not, List, [], ◌∷◌, ◌++◌, length, length-append, nat_lt, Option, Some, None, Result, Ok, Err, IfOk, arith, refl, if◌then◌else◌}
use Rattle.std.specs.List.{slice_get, slice_split, onto_first}
use Rattle.std.specs.Str.{is_utf8}
use Rattle.std.proofs.lemmas.List.Splits.{length-slice_split}
use Rattle.std.proofs.lemmas.List.Sums.{count_by-le-length}
use Rattle.std.proofs.lemmas.Result.{IfOk-at_ok, IfOk-weaker}
use Rattle.nb_records.specs.declared.edit.Edit.{Edit}
use Rattle.nb_records.specs.declared.refusal.Refusal.{Refusal}
use Rattle.nb_records.specs.declared.refusal.Refusal.TheVariants.{LineTooLong, NotUtf8}
use Rattle.nb_words.specs.Commands.{commands_of, is_between, line_limit, numbered, read_commands, says_nothing}
use Rattle.nb_words.specs.Words.{words_of}
use Rattle.nb_words.specs.declared.command.Command.{Command}
use Rattle.nb_words.specs.declared.word.Word.{Word}
use Rattle.nb_words.proofs.Counts.{no_more_words}
use Rattle.nb_edit.specs.Commands.{option_count, read_command}
use Rattle.nb_model.proofs.Reading.{both_ways, goes_on, goes_on_anyway, not_refused}
use Rattle.nb_cmds.specs.Lines.{task, task_by, beside, edit_beside, edits, sole, said, read_line}
use Rattle.nb_cmds.specs.Queries.{asked}
use Rattle.nb_cmds.specs.declared.line.Line.{Line}
use Rattle.nb_cmds.specs.declared.line.Line.TheVariants as line
use Rattle.nb_cmds.specs.declared.task.Task.{Task}
use Rattle.nb_cmds.specs.declared.task.Task.TheVariants as task

-- the command has a word
abbrev pub HasWord : Command → Type 0
HasWord c = 0 < length c.words

-- if the first command has a word, there are so many commands at most
abbrev pub AreFew : ℕ → List Command → Type 0
AreFew n [] = Unit {0}
AreFew n (c ∷ commands) = HasWord c → length (c ∷ commands) ≤ n

-- the line asks for so many edits at most
abbrev pub AsksFew : ℕ → Line → Type 0
AsksFew n (line.Edits list) = length list ≤ n
AsksFew n _ = Unit {0}

always : {X : Type 0} (P : Type 0) (r : Result X Refusal) → P → IfOk r (λ x. P)
always P (Ok x) holds = holds
always P (Err refusal) holds = tt

-- what is asked for is named by a word
task_has_word : (c : Command) → IfOk (task c) (λ t. HasWord c)
task_has_word c = by c.first c.words
  where
    by : (first : ℕ) (words : List Word) → IfOk (task_by (first + option_count words) (slice_get words (option_count words))) (λ t. 0 < length words)
    by first [] = tt
    by first (word ∷ words) = always (0 < length (word ∷ words)) _ (omega arith)

edit_has_word : (c : Command) → IfOk (edit_beside c) (λ e. HasWord c)
unfolding edit_beside
edit_has_word c = goes_on (λ t. HasWord c) (λ e. HasWord c) (task c) (beside c) (task_has_word c) (λ t has. always (HasWord c) (beside c t) has)

-- an edit for each command
edits_each : (before : List Edit) (commands : List Command) → IfOk (edits before commands) (λ list. length list ≡ length before + length commands)
edits_each before [] = omega arith
edits_each before (c ∷ commands) = goes_on_anyway (λ list. length list ≡ length before + length (c ∷ commands)) (edit_beside c) _ (λ e.
    IfOk-weaker (edits (before ++ e ∷ []) commands) (λ list. length list ≡ length (before ++ e ∷ []) + length commands) (λ list. length list ≡ length before + length (c ∷ commands))
    (λ list is. omega (arith, is, length-append before (e ∷ []))) (edits_each (before ++ e ∷ []) commands))

module _ (n : ℕ) where
  sole_few : (c : Command) (t : Task) → 1 ≤ n → IfOk (sole c t) (AsksFew n)
  sole_few c (task.Edit verb) few = goes_on_anyway (AsksFew n) (read_command c) _ (λ e. few)
  sole_few c (task.Query question) few = goes_on_anyway (AsksFew n) (asked question c) _ (λ q. tt)

  edits_few : (c : Command) (commands : List Command) → AreFew n (c ∷ commands) → IfOk (edits [] (c ∷ commands)) (λ list. length list ≤ n)
  edits_few c commands few = goes_on (λ e. HasWord c) (λ list. length list ≤ n) (edit_beside c) _ (edit_has_word c) by
    where
      by : (e : Edit) → HasWord c → IfOk (edits (e ∷ []) commands) (λ list. length list ≤ n)
      by e has =
          IfOk-weaker (edits (e ∷ []) commands) (λ list. length list ≡ 1 + length commands) (λ list. length list ≤ n) (λ list is. omega (arith, is, few has))
          (edits_each (e ∷ []) commands)

  said_few : (commands : List Command) → AreFew n commands → IfOk (said commands) (AsksFew n)
  said_few [] few = tt
  said_few (c ∷ []) few = goes_on (λ t. HasWord c) (AsksFew n) (task c) (sole c) (task_has_word c) (λ t has. sole_few c t (few has))
  said_few (c ∷ d ∷ commands) few = goes_on (λ list. length list ≤ n) (AsksFew n) (edits [] (c ∷ d ∷ commands)) _ (edits_few c (d ∷ commands) few) (λ list small. small)

length-numbered : (first : ℕ) (parts : List (List Word)) → length (numbered first parts) ≡ length parts
length-numbered first [] = refl
length-numbered first (words ∷ parts) = let rest = length-numbered (first + length words + 1) parts in omega (arith, rest)

-- words are split into no more commands than there are words, if the first command has one
split_few : (words : List Word) → AreFew (length words) (numbered 1 (slice_split is_between words))
split_few [] = λ has. absurd (omega arith)
split_few (word ∷ words) =
    by (is_between word) (slice_split is_between words) (omega (arith, length-slice_split is_between words, count_by-le-length is_between words))
  where
    by : (ends : Bool) (parts : List (List Word)) → length parts ≤ length words + 1 → AreFew (length (word ∷ words)) (numbered 1 (if ends then [] ∷ parts else onto_first word parts))
    by true parts few = λ has. absurd (omega arith)
    by false [] few = λ has. omega arith
    by false (part ∷ parts) few = λ has. omega (arith, few, length-numbered (1 + length (word ∷ part) + 1) parts)

few_more : (n m : ℕ) (commands : List Command) → n ≤ m → AreFew n commands → AreFew m commands
few_more n m [] more few = tt
few_more n m (c ∷ commands) more few = λ has. omega (arith, more, few has)

commands_few : (text : List ℕ) → IfOk (read_commands text) (AreFew (length text))
commands_few text =
    not_refused P (nat_lt line_limit (length text)) _ LineTooLong (λ short.
    not_refused P (not (is_utf8 text)) _ NotUtf8 (λ utf8. both_ways P (says_nothing text) (Ok []) (commands_of (words_of text)) tt (by (words_of text) refl)))
  where
    P : List Command → Type 0
    P = AreFew (length text)

    by : (found : Option (List Word)) → words_of text ≡ found → IfOk (commands_of found) P
    by None is = tt
    by (Some words) is = few_more (length words) (length text) (numbered 1 (slice_split is_between words)) (no_more_words text words is) (split_few words)

pub line_short : (text : List ℕ) (list : List Edit) → read_line text ≡ Ok (line.Edits list) → length list ≤ length text
line_short text list is =
    IfOk-at_ok (AsksFew (length text)) is (goes_on (AreFew (length text)) (AsksFew (length text)) (read_commands text) said (commands_few text) (said_few (length text)))
