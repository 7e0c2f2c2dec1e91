-- What commands ask for is readable.
use Rattle.std.proofs.Common.{◌≡◌, ◌&&◌, Bool, true, false, ℕ, zero, suc, List, [], ◌∷◌, ◌++◌, drop, Result, Ok, Err, IfOk, refl}
use Rattle.std.specs.List.{AllByRecursion, list_all}
use Rattle.nb_records.specs.declared.edit.Edit.{Edit}
use Rattle.nb_edit.specs.Commands.{read_command}
use Rattle.nb_model.specs.Readable.{IsReadable}
use Rattle.nb_cmds.proofs.CommandReadings.{command_readable}
use Rattle.nb_words.specs.Commands.{is_small}
use Rattle.nb_words.specs.declared.command.Command.{Command}

pub asked_readable : {F : Type 0} (command : Command) (read : Result Edit F) → IfOk read (λ edit. read_command command ≡ Ok edit) → IfOk read (λ edit. IsReadable edit)
asked_readable command (Ok edit) is = command_readable command edit is
asked_readable command (Err fault) is = tt

-- readable edits, and one more
pub one_more : (edits : List Edit) (edit : Edit) → AllByRecursion IsReadable edits → IsReadable edit → AllByRecursion IsReadable (edits ++ edit ∷ [])
one_more [] edit are is = (is, tt)
one_more (first ∷ edits) edit are is = (are.0, one_more edits edit are.1 is)

second : (a b : Bool) → (a && b) ≡ true → b ≡ true
second true b e = e
second false b e = absurd cc

-- what is left of small commands is small
pub left_small : (n : ℕ) (commands : List Command) → list_all is_small commands ≡ true → list_all is_small (drop n commands) ≡ true
left_small zero commands small = small
left_small (suc n) [] small = refl
left_small (suc n) (command ∷ commands) small = left_small n commands (second (is_small command) (list_all is_small commands) small)
