use Rattle.std.proofs.Common.{arith, ap, ◌∙◌}
use Rattle.nb_model.specs.Network.{Network}
use Rattle.nb_check.specs.Undone.{back_all}
use Rattle.nb_check.proofs.Edited.{next_at_most}
use Rattle.nb_check.proofs.Undone.{back_last}
use Rattle.nb_check.proofs.apply.apply_next.Goals as goal

pub returns-in-Ok-clause-room : goal.returns-in-Ok-clause-room
returns-in-Ok-clause-room c = omega (arith, ap (λ (net : Network). net.next) c.in_ok-undo.ensures.done, next_at_most c.args.records.now c.args.edit)

pub returns-in-Ok-clause-back : goal.returns-in-Ok-clause-back
returns-in-Ok-clause-back c =
    ap (λ undos. back_all undos c.apply.new.records) c.in-Ok.ensures.items
    ∙ back_last c.args.undos.now.items c.in_ok-undo.undo c.apply.new.records
    ∙ ap (back_all c.args.undos.now.items) c.in_ok-undo.ensures.back
