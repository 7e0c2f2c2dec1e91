use Rattle.std.proofs.Common.{refl}
use Rattle.nb_records.specs.declared.switch.Switch.{Switch}
use Rattle.nb_store.specs.Touched.{switch_label}
use Rattle.net_units.specs.Units.{switch_units}
use Rattle.net_units.specs.Keys.{by_number}
use Rattle.nd_touched.proofs.Fed.{fed_units}
use Rattle.nd_touched.proofs.Stay.{there_stays}
use Rattle.nd_own.proofs.switches.switch_delta.Goals as goal

pub returns-clause-tells : goal.returns-clause-tells
returns-clause-tells c = λ old same has.
    c.in_ok-delta_of.ensures.tells (switch_units c.args.records.now)
    (fed_units by_number c.args.touched.now.switches (switch_units old) (switch_units c.args.records.now) c.args.there.now _ has (λ key. refl)
    (λ n not. there_stays (λ (x : Switch). x.id) _ (λ (x : Switch). x.lbs) switch_label old.switches c.args.records.now.switches n (same.switches n not)))
