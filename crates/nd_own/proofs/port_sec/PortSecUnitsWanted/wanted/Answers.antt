use Rattle.std.proofs.Common.{None, Some, ap, ◌∙◌}
use Rattle.nb_records.specs.declared.switch.Port.{Port}
use Rattle.net_rows.specs.Build.{port_sec_input}
use Rattle.nd_touched.proofs.Stay.{found_gives}
use Rattle.nd_own.proofs.port_sec.PortSecUnitsWanted.wanted.Goals as goal

pub returns-in_ok-port_sec_input-in-Some : goal.returns-in_ok-port_sec_input-in-Some
returns-in_ok-port_sec_input-in-Some c =
    ap Some c.in_ok-port_sec_input-in-Some.ensures ∙ found_gives (λ (p : Port). p.id) port_sec_input c.args.key.now c.args.self.now.records.now.ports _ (Some c.in-Some.port.now) c.in-Some.ensures.record c.ports.ensures

pub returns-in-None : goal.returns-in-None
returns-in-None c = found_gives (λ (p : Port). p.id) port_sec_input c.args.key.now c.args.self.now.records.now.ports _ None c.in-None.ensures.record c.ports.ensures
