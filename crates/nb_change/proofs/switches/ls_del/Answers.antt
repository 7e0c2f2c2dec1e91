use Rattle.std.proofs.Common.{◌∙◌}
use Rattle.std.proofs.lemmas.Result.{on_ok_weaker}
use Rattle.nb_change.proofs.Deleted.{switch_deleted, no_switch_deleted}
use Rattle.nb_change.proofs.switches.ls_del.Goals as goal

pub returns-in-Some-clause-ok : goal.returns-in-Some-clause-ok
returns-in-Some-clause-ok c =
    on_ok_weaker c.remove_switch.result (λ e. e ∙ switch_deleted c.args.work.now.records c.requires.sound c.args.name.now c.args.if_exists c.in-Some.number c.in-Some.ensures) c.remove_switch.ensures.ok

pub returns-in-None-clause-ok : goal.returns-in-None-clause-ok
returns-in-None-clause-ok c = no_switch_deleted c.args.work.now.records c.requires.sound c.args.name.now c.args.if_exists c.in-None.ensures
