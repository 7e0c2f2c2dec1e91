-- The names that are built, and the options that queries take.
use Rattle.std.specs.Prelude.{ℕ, Bool, false, List, [], ◌∷◌, Option, codes}
use Rattle.std.specs.List.{find}
use Rattle.std.specs.Str.{bytes_eq}
use Rattle.nb_edit.specs.Forms.{form}
use Rattle.nb_edit.specs.declared.verb.Verb.TheVariants.{LsAdd, LsDel, LspAdd, LspDel, LspSetAddresses, LspSetPortSecurity, LspSetType, LspSetOptions, LspSetEnabled, LrAdd, LrDel, LrpAdd, LrpDel, LrpSetEnabled, LrRouteAdd, LrRouteDel, LrNatAdd, LrNatDel, LbAdd, LbDel, LsLbAdd, LsLbDel, LrLbAdd, LrLbDel, AclAdd, AclDel, PgAdd, PgSetPorts, PgDel, AsAdd, AsSet, AsDel, SmbAdd, SmbDel}
use Rattle.nb_words.specs.declared.word.Word.{Word}
use Rattle.nb_cmds.specs.declared.task.Question.{Question}
use Rattle.nb_cmds.specs.declared.task.Question.TheVariants.{FlowList, Trace, CtList, CtFlush, NbrList, NbrFlush, Dump}
use Rattle.nb_cmds.specs.declared.task.Task.{Task}
use Rattle.nb_cmds.specs.declared.task.Task.TheVariants.{Edit, Query}

-- all that is built: commands that edit, then queries
unfoldable pub tasks : List Task
tasks =
    Edit LsAdd ∷ Edit LsDel ∷ Edit LspAdd ∷ Edit LspDel ∷ Edit LspSetAddresses ∷ Edit LspSetPortSecurity ∷ Edit LspSetType ∷ Edit LspSetOptions ∷ Edit LspSetEnabled ∷
    Edit LrAdd ∷ Edit LrDel ∷ Edit LrpAdd ∷ Edit LrpDel ∷ Edit LrpSetEnabled ∷ Edit LrRouteAdd ∷ Edit LrRouteDel ∷
    Edit LrNatAdd ∷ Edit LrNatDel ∷ Edit LbAdd ∷ Edit LbDel ∷ Edit LsLbAdd ∷ Edit LsLbDel ∷ Edit LrLbAdd ∷ Edit LrLbDel ∷
    Edit AclAdd ∷ Edit AclDel ∷ Edit PgAdd ∷ Edit PgSetPorts ∷ Edit PgDel ∷
    Edit AsAdd ∷ Edit AsSet ∷ Edit AsDel ∷ Edit SmbAdd ∷ Edit SmbDel ∷
    Query FlowList ∷ Query Trace ∷ Query CtList ∷ Query CtFlush ∷ Query NbrList ∷ Query NbrFlush ∷ Query Dump ∷ []

-- the name of a command, or of a query
abbrev pub task_name : Task → List ℕ
task_name (Edit verb) = (form verb).name
task_name (Query FlowList) = codes "lflow-list"
task_name (Query Trace) = codes "trace"
task_name (Query CtList) = codes "ct-list"
task_name (Query CtFlush) = codes "ct-flush"
task_name (Query NbrList) = codes "nbr-list"
task_name (Query NbrFlush) = codes "nbr-flush"
task_name (Query Dump) = codes "dump"

-- this is its name
abbrev pub is_named : Task → List ℕ → Bool
is_named task name = bytes_eq (task_name task) name

-- what the name asks for, where it is built
abbrev pub task_of : List ℕ → Option Task
task_of name = find (λ task. is_named task name) tasks

-- the word is `--minimal`
abbrev pub is_minimal : Word → Bool
is_minimal word = bytes_eq word.text (codes "--minimal")

-- the query takes the option: `--minimal` is that of `trace`, and others have none
abbrev pub takes : Question → Word → Bool
takes Trace word = is_minimal word
takes _ word = false
