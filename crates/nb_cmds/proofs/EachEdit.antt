-- What holds of each edit that a command may ask for holds of each edit of a line.
use Rattle.std.proofs.Common.{◌≡◌, ℕ, List, [], ◌∷◌, ◌++◌, Ok, IfOk}
use Rattle.std.specs.List.{AllByRecursion}
use Rattle.std.proofs.lemmas.Result.{IfOk-at_ok}
use Rattle.nb_records.specs.declared.edit.Edit.{Edit}
use Rattle.nb_words.specs.Commands.{read_commands}
use Rattle.nb_words.specs.declared.command.Command.{Command}
use Rattle.nb_model.proofs.Reading.{goes_on, goes_on_anyway}
use Rattle.nb_edit.specs.Commands.{read_command}
use Rattle.nb_cmds.specs.Lines.{task, beside, edit_beside, edits, sole, said, read_line}
use Rattle.nb_cmds.specs.Queries.{no_other_option, asked}
use Rattle.nb_cmds.specs.declared.line.Line.{Line}
use Rattle.nb_cmds.specs.declared.line.Line.TheVariants as line
use Rattle.nb_cmds.specs.declared.task.Task.{Task}
use Rattle.nb_cmds.specs.declared.task.Task.TheVariants as task

-- it holds of the edit that the command asks for, if it edits
abbrev pub HoldsAs : (Edit → Type 0) → Command → Task → Type 0
HoldsAs P c (task.Edit verb) = IfOk (read_command c) P
HoldsAs P c (task.Query question) = Unit {0}

-- it holds of each edit that the line asks for
abbrev pub HoldsOfEach : (Edit → Type 0) → Line → Type 0
HoldsOfEach P (line.Edits list) = AllByRecursion P list
HoldsOfEach P _ = Unit {0}

one_more : (P : Edit → Type 0) (list : List Edit) (e : Edit) → AllByRecursion P list → P e → AllByRecursion P (list ++ e ∷ [])
one_more P [] e are is = (is, tt)
one_more P (first ∷ list) e are is = (are.0, one_more P list e are.1 is)

module _ (P : Edit → Type 0) (given : (c : Command) → IfOk (task c) (HoldsAs P c)) where
  beside_given : (c : Command) → IfOk (edit_beside c) P
  unfolding edit_beside
  beside_given c = goes_on (HoldsAs P c) P (task c) (beside c) (given c) by
    where
      by : (t : Task) → HoldsAs P c t → IfOk (beside c t) P
      by (task.Edit verb) holds = holds
      by (task.Query question) holds = goes_on_anyway P (no_other_option question c) _ (λ none. tt)

  edits_given : (before : List Edit) (commands : List Command) → AllByRecursion P before → IfOk (edits before commands) (AllByRecursion P)
  edits_given before [] are = are
  edits_given before (c ∷ commands) are =
      goes_on P (AllByRecursion P) (edit_beside c) _ (beside_given c) (λ e is. edits_given (before ++ e ∷ []) commands (one_more P before e are is))

  sole_given : (c : Command) (t : Task) → HoldsAs P c t → IfOk (sole c t) (HoldsOfEach P)
  sole_given c (task.Edit verb) holds = goes_on P (HoldsOfEach P) (read_command c) _ holds (λ e is. (is, tt))
  sole_given c (task.Query question) holds = goes_on_anyway (HoldsOfEach P) (asked question c) _ (λ q. tt)

  said_given : (commands : List Command) → IfOk (said commands) (HoldsOfEach P)
  said_given [] = tt
  said_given (c ∷ []) = goes_on (HoldsAs P c) (HoldsOfEach P) (task c) (sole c) (given c) (sole_given c)
  said_given (c ∷ d ∷ commands) = goes_on (AllByRecursion P) (HoldsOfEach P) (edits [] (c ∷ d ∷ commands)) _ (edits_given [] (c ∷ d ∷ commands) tt) (λ list are. are)

  pub line_given : (text : List ℕ) (list : List Edit) → read_line text ≡ Ok (line.Edits list) → AllByRecursion P list
  line_given text list is = IfOk-at_ok (HoldsOfEach P) is (goes_on_anyway (HoldsOfEach P) (read_commands text) said said_given)
