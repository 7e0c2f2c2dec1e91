use Rattle.std.proofs.Common.{◌∙◌, ap, sym, subst}
use Rattle.std.proofs.lemmas.Result.{on_ok_weaker}
use Rattle.nb_records.specs.declared.acl.Acl.{Acl}
use Rattle.nb_records.specs.declared.sets.Group.{Group}
use Rattle.nb_records.specs.declared.switch.Port.{Port}
use Rattle.nb_model.specs.Effect.{without}
use Rattle.nb_model.specs.Network.{Network, same}
use Rattle.nv_table.specs.Table.{NumbersRise, without_number}
use Rattle.nb_store.proofs.PlacedRecords.{rises}
use Rattle.nb_change.proofs.switch_removals.remove_switch.Goals as goal

pub remove_ports_on-requires-clause-ports : goal.remove_ports_on-requires-clause-ports
remove_ports_on-requires-clause-ports c = rises (λ (x : Port). x.id) c.args.work.now.records.ports c.requires.order.ports

pub remove_ports_on-requires-clause-groups : goal.remove_ports_on-requires-clause-groups
remove_ports_on-requires-clause-groups c = rises (λ (x : Group). x.id) c.args.work.now.records.groups c.requires.order.groups

pub drop_all-requires : goal.drop_all-requires
drop_all-requires c = record {
  rise = subst (λ (net : Network). NumbersRise (λ (x : Acl). x.id) net.acls) (sym c.in_ok-remove_ports_on.ensures.ok) (rises (λ (x : Acl). x.id) c.args.work.now.records.acls c.requires.order.acls);
}

pub returns-clause-ok : goal.returns-clause-ok
returns-clause-ok c =
    on_ok_weaker c.remove.result (λ e. e
    ∙ ap (λ (net : Network). record net { switches = without_number (λ x. x.id) c.args.switch net.switches }) c.in_ok-drop_all.ensures.ok
    ∙ ap (λ (net : Network). record net { switches = without_number (λ x. x.id) c.args.switch net.switches; acls = without (λ acl. same c.args.switch acl.owner) net.acls }) c.in_ok-remove_ports_on.ensures.ok) c.remove.ensures.ok
