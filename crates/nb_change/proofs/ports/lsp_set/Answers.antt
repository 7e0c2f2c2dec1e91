use Rattle.std.proofs.Common.{ap, sym, ◌∙◌}
use Rattle.std.proofs.lemmas.Result.{on_ok_weaker}
use Rattle.nb_records.specs.declared.switch.Port.{Port}
use Rattle.nb_records.specs.inner.Exact as tells
use Rattle.nb_change.specs.inner.Ports.{changed_by, keeps_number}
use Rattle.nb_change.proofs.Added.{changed_port, no_port, unchanged_port}
use Rattle.nb_change.proofs.ports.lsp_set.Goals as goal

pub returns-in_default-clause-ok : goal.returns-in_default-clause-ok
returns-in_default-clause-ok c = no_port c.args.work.now.records c.requires.sound c.args.port.now (changed_by c.args.change) c.in_default.ensures

pub returns-then-eq-clause-ok : goal.returns-then-eq-clause-ok
returns-then-eq-clause-ok c =
    let old : Port = c.in-Some.old.now in
    let is = c.changed-changed.ensures ∙ ap (changed_by c.args.change) c.in_ok-copy.ensures in
    let same = tells.port c.changed-changed.result old (sym c.if-eq.ensures) in
    unchanged_port c.args.work.now.records c.requires.sound c.args.port.now (changed_by c.args.change) old c.in-Some.ensures (sym same ∙ is)

pub returns-clause-ok : goal.returns-clause-ok
returns-clause-ok c =
    let old : Port = c.in-Some.old.now in
    let is = c.changed-changed.ensures ∙ ap (changed_by c.args.change) c.in_ok-copy.ensures in
    on_ok_weaker c.store_port.result (λ e. e
    ∙ changed_port c.args.work.now.records c.requires.sound c.args.port.now (changed_by c.args.change) old c.changed-changed.result c.in-Some.ensures (keeps_number c.args.change old) (λ named. is))
    c.store_port.ensures.ok
