-- What a line says.
use Rattle.std.specs.Prelude.{ℕ, ◌+◌, List, [], ◌∷◌, ◌++◌, Option, Some, None, ok_or, Result, Ok, Err}
use Rattle.std.specs.List.{slice_get}
use Rattle.nb_records.specs.declared.edit.Edit as edit
use Rattle.nb_records.specs.declared.refusal.Refusal.{Refusal}
use Rattle.nb_records.specs.declared.refusal.Refusal.TheVariants.{UnknownCommand, WrongWords}
use Rattle.nb_words.specs.Commands.{read_commands}
use Rattle.nb_words.specs.declared.command.Command.{Command}
use Rattle.nb_words.specs.declared.word.Word.{Word}
use Rattle.nb_read.specs.Then.{and_then}
use Rattle.nb_edit.specs.Commands.{option_count, read_command}
use Rattle.nb_cmds.specs.Queries.{no_other_option, asked}
use Rattle.nb_cmds.specs.Tasks.{task_of}
use Rattle.nb_cmds.specs.declared.line.Line.{Line}
use Rattle.nb_cmds.specs.declared.line.Line.TheVariants as line
use Rattle.nb_cmds.specs.declared.task.Task.{Task}
use Rattle.nb_cmds.specs.declared.task.Task.TheVariants.{Edit, Query}

-- what is asked for by the word of this number, which is to be a name that is built
abbrev pub task_by : ℕ → Option Word → Result Task Refusal
task_by number None = Err WrongWords
task_by number (Some name) = ok_or (task_of name.text) (UnknownCommand number)

-- what a command asks for: its name is the first word that is no option
abbrev pub task : Command → Result Task Refusal
task c = task_by (c.first + option_count c.words) (slice_get c.words (option_count c.words))

-- the edit that a command asks for beside others: no query stands there
abbrev pub beside : Command → Task → Result edit.Edit Refusal
beside c (Edit verb) = read_command c
beside c (Query question) = and_then (no_other_option question c) (λ none. Err WrongWords)

unfoldable pub edit_beside : Command → Result edit.Edit Refusal
edit_beside c = and_then (task c) (beside c)

-- the edits of these commands, after those before
abbrev pub edits : List edit.Edit → List Command → Result (List edit.Edit) Refusal
edits before [] = Ok before
edits before (c ∷ commands) = and_then (edit_beside c) (λ e. edits (before ++ e ∷ []) commands)

-- what a command says that is alone in its line
abbrev pub sole : Command → Task → Result Line Refusal
sole c (Edit verb) = and_then (read_command c) (λ e. Ok (line.Edits (e ∷ [])))
sole c (Query question) = and_then (asked question c) (λ q. Ok (line.Query q))

abbrev pub alone : Command → Result Line Refusal
alone c = and_then (task c) (sole c)

-- what commands say
abbrev pub said : List Command → Result Line Refusal
said [] = Ok line.Nothing
said (c ∷ []) = alone c
said commands = and_then (edits [] commands) (λ list. Ok (line.Edits list))

-- what a line says, or why it is refused
abbrev pub read_line : List ℕ → Result Line Refusal
read_line text = and_then (read_commands text) said
