-- The edits that a line asks for are readable.
use Rattle.std.proofs.Common.{◌≡◌, ℕ, List, Result, Ok, Err, IfOk, refl}
use Rattle.std.specs.List.{AllByRecursion}
use Rattle.nb_records.specs.declared.edit.Edit.{Edit}
use Rattle.nb_records.specs.declared.refusal.Refusal.{Refusal}
use Rattle.nb_words.specs.declared.command.Command.{Command}
use Rattle.nb_edit.specs.Commands.{read_command}
use Rattle.nb_model.specs.Readable.{IsReadable}
use Rattle.nb_cmds.proofs.CommandReadings.{command_readable}
use Rattle.nb_cmds.specs.Lines.{task, read_line}
use Rattle.nb_cmds.specs.declared.line.Line.TheVariants as line
use Rattle.nb_cmds.specs.declared.task.Task.{Task}
use Rattle.nb_cmds.specs.declared.task.Task.TheVariants as task
use Rattle.nb_cmds.proofs.EachEdit.{HoldsAs, line_given}

command_given : (c : Command) → IfOk (read_command c) IsReadable
command_given c = by (read_command c) refl
  where
    by : (r : Result Edit Refusal) → read_command c ≡ r → IfOk r IsReadable
    by (Ok e) is = command_readable c e is
    by (Err refusal) is = tt

task_given : (c : Command) → IfOk (task c) (HoldsAs IsReadable c)
task_given c = by (task c)
  where
    holds : (t : Task) → HoldsAs IsReadable c t
    holds (task.Edit verb) = command_given c
    holds (task.Query question) = tt

    by : (r : Result Task Refusal) → IfOk r (HoldsAs IsReadable c)
    by (Ok t) = holds t
    by (Err refusal) = tt

pub line_readable : (text : List ℕ) (list : List Edit) → read_line text ≡ Ok (line.Edits list) → AllByRecursion IsReadable list
line_readable text list is = line_given IsReadable task_given text list is
