-- The words of a query are well read.
use Rattle.std.proofs.Common.{◌≡◌, ◌+◌, ◌==◌, nat_lt, ℕ, Bool, List, [], ◌∷◌, drop, Some, Ok, IfOk}
use Rattle.std.specs.Bool.{IsTrue}
use Rattle.std.proofs.lemmas.Result.{IfOk-at_ok}
use Rattle.nv_base.specs.Name.{is_object_name, is_quotable}
use Rattle.nb_records.specs.declared.refusal.Refusal.TheVariants.{WrongWords}
use Rattle.nb_words.specs.Commands.{read_commands}
use Rattle.nb_words.specs.declared.command.Command.{Command}
use Rattle.nb_words.specs.declared.word.Word.{Word}
use Rattle.nb_edit.specs.Commands.{option_count, read_command}
use Rattle.nb_read.specs.Readings.{object_name}
use Rattle.nb_model.proofs.Reading.{goes_on, goes_on_anyway, not_refused}
use Rattle.nb_model.proofs.WordReadings.{object_name_given}
use Rattle.pkt_core.specs.Packet.{IsPacket}
use Rattle.nb_cmds.specs.Lines.{task, edits, sole, said, read_line}
use Rattle.nb_cmds.specs.Microflows.{micro_of}
use Rattle.nb_cmds.specs.Queries.{asked, minimal_after, no_other_option, query_of, trace, trace_of, traced}
use Rattle.nb_cmds.specs.declared.line.Line.{Line}
use Rattle.nb_cmds.specs.declared.line.Line.TheVariants as line
use Rattle.nb_cmds.specs.declared.query.Query.{Query}
use Rattle.nb_cmds.specs.declared.query.Query.TheVariants as query
use Rattle.nb_cmds.specs.declared.task.Question.{Question}
use Rattle.nb_cmds.specs.declared.task.Question.TheVariants as question
use Rattle.nb_cmds.specs.declared.task.Task.{Task}
use Rattle.nb_cmds.specs.declared.task.Task.TheVariants as task
use Rattle.nb_cmds.proofs.Microflows
use Rattle.nb_cmds.proofs.Microflows.{micro_given}

-- the words of the query are well read
abbrev pub IsWellRead : Query → Type 0
IsWellRead (query.FlowList (Some dp)) = IsTrue (is_object_name dp)
IsWellRead (query.Trace minimal dp micro) = IsTrue (is_object_name dp) × IsTrue (is_quotable micro.inport) × IsPacket micro.packet
IsWellRead _ = Unit {0}

-- the words of the query that the line asks are well read
abbrev pub AsksWellRead : Line → Type 0
AsksWellRead (line.Query q) = IsWellRead q
AsksWellRead _ = Unit {0}

trace_given : (minimal : Bool) (number : ℕ) (datapath microflow : List ℕ) → IfOk (trace_of minimal number datapath microflow) IsWellRead
trace_given minimal number datapath microflow =
    goes_on (λ name. IsTrue (is_object_name name)) IsWellRead (object_name number datapath) _ (object_name_given number datapath) (λ dp is.
    goes_on Microflows.IsWellRead IsWellRead (micro_of microflow) _ (micro_given microflow) (λ micro well. (is, well.0, well.1)))

traced_given : (minimal : Bool) (number : ℕ) (words : List Word) → IfOk (traced minimal number words) IsWellRead
traced_given minimal number [] = tt
traced_given minimal number (datapath ∷ []) = tt
traced_given minimal number (datapath ∷ microflow ∷ []) = trace_given minimal number datapath.text microflow.text
traced_given minimal number (datapath ∷ microflow ∷ word ∷ words) = tt

words_given : (before number : ℕ) (words : List Word) → IfOk (trace before number words) IsWellRead
words_given before number words =
    let after = minimal_after words in
    not_refused IsWellRead (nat_lt 1 (before + after)) _ WrongWords (λ once. traced_given (before + after == 1) (number + after) (drop after words))

query_given : (asks : Question) (options number : ℕ) (words : List Word) → IfOk (query_of asks options number words) IsWellRead
query_given question.FlowList options number [] = tt
query_given question.FlowList options number (name ∷ []) = tt
query_given question.FlowList options number (name ∷ datapath ∷ []) =
    goes_on (λ dp. IsTrue (is_object_name dp)) IsWellRead (object_name (number + 1) datapath.text) _ (object_name_given (number + 1) datapath.text) (λ dp is. is)
query_given question.FlowList options number (name ∷ datapath ∷ word ∷ words) = tt
query_given question.Trace options number [] = tt
query_given question.Trace options number (name ∷ words) = words_given options (number + 1) words
query_given question.CtList options number [] = tt
query_given question.CtList options number (name ∷ []) = tt
query_given question.CtList options number (name ∷ word ∷ words) = tt
query_given question.CtFlush options number [] = tt
query_given question.CtFlush options number (name ∷ []) = tt
query_given question.CtFlush options number (name ∷ word ∷ words) = tt
query_given question.NbrList options number [] = tt
query_given question.NbrList options number (name ∷ []) = tt
query_given question.NbrList options number (name ∷ word ∷ words) = tt
query_given question.NbrFlush options number [] = tt
query_given question.NbrFlush options number (name ∷ []) = tt
query_given question.NbrFlush options number (name ∷ word ∷ words) = tt
query_given question.Dump options number [] = tt
query_given question.Dump options number (name ∷ []) = tt
query_given question.Dump options number (name ∷ word ∷ words) = tt

sole_given : (c : Command) (t : Task) → IfOk (sole c t) AsksWellRead
sole_given c (task.Edit verb) = goes_on_anyway AsksWellRead (read_command c) _ (λ e. tt)
sole_given c (task.Query asks) =
    goes_on IsWellRead AsksWellRead (asked asks c) _
    (goes_on_anyway IsWellRead (no_other_option asks c) _ (λ none. query_given asks (option_count c.words) (c.first + option_count c.words) (drop (option_count c.words) c.words)))
    (λ q well. well)

said_given : (commands : List Command) → IfOk (said commands) AsksWellRead
said_given [] = tt
said_given (c ∷ []) = goes_on_anyway AsksWellRead (task c) (sole c) (sole_given c)
said_given (c ∷ d ∷ commands) = goes_on_anyway AsksWellRead (edits [] (c ∷ d ∷ commands)) _ (λ list. tt)

pub query_well_read : (text : List ℕ) (q : Query) → read_line text ≡ Ok (line.Query q) → IsWellRead q
query_well_read text q is = IfOk-at_ok AsksWellRead is (goes_on_anyway AsksWellRead (read_commands text) said said_given)
