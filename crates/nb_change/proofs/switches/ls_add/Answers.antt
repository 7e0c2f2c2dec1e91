use Rattle.std.proofs.Common.{ap, ◌∙◌, rules}
use Rattle.std.proofs.lemmas.Result.{on_ok_weaker}
use Rattle.nv_table.specs.Table.{with_exchanged}
use Rattle.nb_model.specs.Network.{Network}
use Rattle.nb_change.proofs.Added.{added_switch}
use Rattle.nb_change.proofs.switches.ls_add.Goals as goal

pub returns-clause-ok : goal.returns-clause-ok
returns-clause-ok c =
    on_ok_weaker c.store_switch.result (λ e. e
    ∙ ap (λ (net : Network). record net { switches = with_exchanged (λ x. x.id) (record { id = c.in_ok-id.id; name = c.args.name; lbs = c.new.result }) net.switches }) c.in_ok-id.ensures.ok
    ∙ added_switch c.args.work.now.records c.requires.sound c.args.name c.in_ok-id.id c.new.result c.args.may_exist c.in_ok-id.ensures.number c.new.ensures (search rules)) c.store_switch.ensures.ok
