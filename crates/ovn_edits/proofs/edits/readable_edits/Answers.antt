use Rattle.std.proofs.Common.{◌+◌, sym, subst}
use Rattle.std.specs.List.{AllByRecursion}
use Rattle.nb_model.specs.Readable.{IsReadable}
use Rattle.ovn_edits.proofs.Asked.{left_small, one_more}
use Rattle.ovn_edits.proofs.edits.readable_edits.Goals as goal

pub loop-command-preserved : goal.loop-command-preserved
loop-command-preserved c = record {
  small = left_small (c.loop-command.command-index + 1) c.args.commands.now c.requires;
  readable = subst (AllByRecursion IsReadable) (sym c.in_ok-push.ensures.ok) (one_more c.loop-command.edits c.in_ok-readable_edit.field-0 c.loop-command.invariant.readable c.in_ok-readable_edit.ensures);
}
