use Rattle.std.proofs.Common.{None, Some}
use Rattle.nb_records.specs.declared.switch.Switch.{Switch}
use Rattle.nd_touched.proofs.Stay.{found_gives}
use Rattle.nd_own.proofs.switches.SwitchUnitsWanted.wanted.Goals as goal

pub returns-in-Some : goal.returns-in-Some
returns-in-Some c = found_gives (λ (x : Switch). x.id) (λ x. tt) c.args.key.now c.args.self.now.records.now.switches _ (Some _) c.in-Some.ensures.record c.switches.ensures

pub returns-in-None : goal.returns-in-None
returns-in-None c = found_gives (λ (x : Switch). x.id) (λ x. tt) c.args.key.now c.args.self.now.records.now.switches _ None c.in-None.ensures.record c.switches.ensures
