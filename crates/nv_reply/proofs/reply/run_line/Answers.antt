use Rattle.std.proofs.Common.{Ok, ◌∙◌, ap, arith}
use Rattle.nb_cmds.proofs.ReadableLines.{line_readable}
use Rattle.nb_cmds.proofs.ShortLines.{line_short}
use Rattle.nv_reply.proofs.reply.run_line.Goals as goal

-- the edits that a line asks for are readable
pub run_edits-requires-clause-readable : goal.run_edits-requires-clause-readable
run_edits-requires-clause-readable g c = line_readable c.args.line.now c.in-Ok-Edits.edits (c.in-Ok-Edits.ensures.read ∙ ap Ok c.in-Ok-Edits.field-0-is)

-- and no more than it has bytes
pub run_edits-requires-clause-room : goal.run_edits-requires-clause-room
run_edits-requires-clause-room g c = omega (arith, c.requires, line_short c.args.line.now c.in-Ok-Edits.edits (c.in-Ok-Edits.ensures.read ∙ ap Ok c.in-Ok-Edits.field-0-is))
