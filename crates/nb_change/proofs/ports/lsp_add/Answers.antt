use Rattle.std.proofs.Common.{ap, refl, ◌∙◌, None, true, rules}
use Rattle.std.proofs.lemmas.Result.{on_ok_weaker}
use Rattle.nb_records.specs.declared.switch.Port.{Port}
use Rattle.nb_records.specs.declared.switch.PortKind.TheVariants as port_kind
use Rattle.nb_model.specs.Network.{Network}
use Rattle.nv_table.specs.Table.{with_exchanged}
use Rattle.nb_change.proofs.Added.{added_port, no_switch, same_parts}
use Rattle.nb_change.proofs.ports.lsp_add.Goals as goal

pub returns-in_default-clause-ok : goal.returns-in_default-clause-ok
returns-in_default-clause-ok c = no_switch c.args.work.now.records c.requires.sound c.args.switch.now c.args.port c.args.may_exist c.in_default.ensures

pub returns-clause-ok : goal.returns-clause-ok
returns-clause-ok c =
    let new : Port = record {
      id = c.in_ok-id.id;
      switch = c.in-Some.switch;
      name = c.args.port;
      kind = port_kind.Host;
      router_port = None;
      addresses = c.new.result;
      security = c.new-2.result;
      enabled = true;
    } in
    on_ok_weaker c.store_port.result (λ e. e
    ∙ ap (λ (net : Network). record net { ports = with_exchanged (λ x. x.id) new net.ports }) c.in_ok-id.ensures.ok
    ∙ added_port c.args.work.now.records c.requires.sound c.args.switch.now c.args.port c.in_ok-id.id c.in-Some.switch new c.args.may_exist c.in_ok-id.ensures.number c.in-Some.ensures
    (same_parts refl refl c.new.ensures c.new-2.ensures) (search rules)) c.store_port.ensures.ok
