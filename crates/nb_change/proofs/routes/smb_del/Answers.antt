use Rattle.std.proofs.Common.{◌∙◌}
use Rattle.std.proofs.lemmas.Result.{on_ok_weaker}
use Rattle.nb_change.proofs.RouterEdits.{no_port_of_binding, no_binding, removed_binding}
use Rattle.nb_change.proofs.routes.smb_del.Goals as goal

pub returns-in_default-clause-ok : goal.returns-in_default-clause-ok
returns-in_default-clause-ok c = no_port_of_binding c.args.work.now.records c.requires.sound c.args.port.now c.args.addr c.args.if_exists c.in_default.ensures

pub returns-in_default-binding_saying-clause-ok : goal.returns-in_default-binding_saying-clause-ok
returns-in_default-binding_saying-clause-ok c = no_binding c.args.work.now.records c.requires.sound c.args.port.now c.args.addr c.args.if_exists c.in-Some.port c.in-Some.ensures c.in_default-binding_saying.ensures

pub returns-clause-ok : goal.returns-clause-ok
returns-clause-ok c =
    on_ok_weaker c.remove.result (λ e. e
    ∙ removed_binding c.args.work.now.records c.requires.sound c.args.port.now c.args.addr c.args.if_exists c.in-Some.port c.in-Some-binding_saying.binding.now c.in-Some.ensures c.in-Some-binding_saying.ensures)
    c.remove.ensures.ok
