use Rattle.std.proofs.Common.{◌∙◌, sym}
use Rattle.ct_core.specs.Translation.{is_free}
use Rattle.ct_core.proofs.Ports.{found, none_left, passed}
use Rattle.ct_table.proofs.conns.Conns.least_free.Goals as goal

pub returns-then-is_free : goal.returns-then-is_free
returns-then-is_free c =
    let test = is_free c.args.self.now c.args.zone c.args.external c.args.tuple in
    sym (c.loop-port.invariant ∙ found test c.loop-port.port 65536 c.loop-port-test.true (sym c.is_free.ensures ∙ c.if-is_free.true))

pub loop-port-preserved : goal.loop-port-preserved
loop-port-preserved c =
    let test = is_free c.args.self.now c.args.zone c.args.external c.args.tuple in
    c.loop-port.invariant ∙ passed test c.loop-port.port 65536 c.loop-port-test.true (sym c.is_free.ensures ∙ c.if-is_free.false)

pub returns : goal.returns
returns c =
    let test = is_free c.args.self.now c.args.zone c.args.external c.args.tuple in
    sym (c.loop-port.invariant ∙ none_left test c.loop-port.port 65536 c.loop-port-test.false)
