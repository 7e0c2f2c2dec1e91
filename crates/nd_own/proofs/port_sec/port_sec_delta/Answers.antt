use Rattle.std.proofs.Common.{refl}
use Rattle.net_units.specs.Keys.{by_number}
use Rattle.net_units.specs.Units.{port_sec_units}
use Rattle.net_rows.specs.Build.{port_sec_input}
use Rattle.nb_records.specs.declared.switch.Port.{Port}
use Rattle.nd_touched.proofs.Fed.{fed_units}
use Rattle.nd_touched.proofs.Stay.{given_stays}
use Rattle.nd_own.proofs.port_sec.port_sec_delta.Goals as goal

pub returns-clause-tells : goal.returns-clause-tells
returns-clause-tells c = λ old same has.
    c.in_ok-delta_of.ensures.tells (port_sec_units c.args.records.now)
    (fed_units by_number c.args.touched.now.ports (port_sec_units old) (port_sec_units c.args.records.now) c.args.there.now _ has (λ key. refl)
    (λ n not. given_stays (λ (p : Port). p.id) port_sec_input old.ports c.args.records.now.ports n (same.ports n not)))
