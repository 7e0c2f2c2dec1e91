-- The queries.
use Rattle.std.specs.Prelude.{ℕ, ◌+◌, ◌==◌, nat_lt, Bool, not, List, [], ◌∷◌, drop, take, position, Option, Some, None, Result, Ok, Err, if◌then◌else◌}
use Rattle.nb_records.specs.declared.refusal.Refusal.{Refusal}
use Rattle.nb_records.specs.declared.refusal.Refusal.TheVariants.{WrongWords, NotInProfile}
use Rattle.nb_words.specs.declared.command.Command.{Command}
use Rattle.nb_words.specs.declared.word.Word.{Word}
use Rattle.nb_read.specs.Then.{and_then}
use Rattle.nb_edit.specs.Commands.{option_count}
use Rattle.nb_read.specs.Readings.{object_name}
use Rattle.nb_cmds.specs.Microflows.{micro_of}
use Rattle.nb_cmds.specs.declared.query.Query.{Query}
use Rattle.nb_cmds.specs.declared.query.Query.TheVariants.{FlowList, Trace, CtList, CtFlush, NbrList, NbrFlush, Dump}
use Rattle.nb_cmds.specs.Tasks.{is_minimal, takes}
use Rattle.nb_cmds.specs.declared.task.Question.{Question}
use Rattle.nb_cmds.specs.declared.task.Question.TheVariants as question

-- an option at this place is refused
abbrev pub refused_at : ℕ → Option ℕ → Result (Unit {0}) Refusal
refused_at first None = Ok tt
refused_at first (Some place) = Err (NotInProfile (first + place))

-- a query has no option that it does not take
abbrev pub no_other_option : Question → Command → Result (Unit {0}) Refusal
no_other_option question c = refused_at c.first (position (λ word. not (takes question word)) (take (option_count c.words) c.words))

-- the trace of this datapath and microflow, of which the first has this number
abbrev pub trace_of : Bool → ℕ → List ℕ → List ℕ → Result Query Refusal
trace_of minimal number datapath microflow = and_then (object_name number datapath) (λ dp. and_then (micro_of microflow) (λ micro. Ok (Trace minimal dp micro)))

-- the trace of these words, of which the first has this number
abbrev pub traced : Bool → ℕ → List Word → Result Query Refusal
traced minimal number (datapath ∷ microflow ∷ []) = trace_of minimal number datapath.text microflow.text
traced minimal number words = Err WrongWords

-- how many words `--minimal` follow the name of `trace`: one or none
abbrev pub minimal_after : List Word → ℕ
minimal_after [] = 0
minimal_after (word ∷ words) = if is_minimal word then 1 else 0

-- the trace of the words after its name, of which the first has this number, with so many words `--minimal` before: two are too many
abbrev pub trace : ℕ → ℕ → List Word → Result Query Refusal
trace before number words =
    if nat_lt 1 (before + minimal_after words) then Err WrongWords
    else traced (before + minimal_after words == 1) (number + minimal_after words) (drop (minimal_after words) words)

-- the query of these words, its name among them, of which the first has this number, with so many options before
abbrev pub query_of : Question → ℕ → ℕ → List Word → Result Query Refusal
query_of question.FlowList options number (name ∷ []) = Ok (FlowList None)
query_of question.FlowList options number (name ∷ datapath ∷ []) = and_then (object_name (number + 1) datapath.text) (λ dp. Ok (FlowList (Some dp)))
query_of question.Trace options number (name ∷ words) = trace options (number + 1) words
query_of question.CtList options number (name ∷ []) = Ok CtList
query_of question.CtFlush options number (name ∷ []) = Ok CtFlush
query_of question.NbrList options number (name ∷ []) = Ok NbrList
query_of question.NbrFlush options number (name ∷ []) = Ok NbrFlush
query_of question.Dump options number (name ∷ []) = Ok Dump
query_of _ options number words = Err WrongWords

-- the query that a command alone in its line asks
abbrev pub asked : Question → Command → Result Query Refusal
asked question c =
    and_then (no_other_option question c) (λ none. query_of question (option_count c.words) (c.first + option_count c.words) (drop (option_count c.words) c.words))
