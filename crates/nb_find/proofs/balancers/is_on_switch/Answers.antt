use Rattle.std.proofs.Common.{sym}
use Rattle.std.specs.Str.{bytes_eq}
use Rattle.nb_records.specs.declared.switch.Switch.{Switch}
use Rattle.nb_find.proofs.OnList.{found_there}
use Rattle.nb_find.proofs.balancers.is_on_switch.Goals as goal

pub switch_has-requires : goal.switch_has-requires
switch_has-requires c = found_there (λ (x : Switch). bytes_eq x.name c.args.switch.now) c.args.records.now.switches c.in-Some-Some.switch.now (sym c.in-Some-Some.ensures')
