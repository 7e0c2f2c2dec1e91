use Rattle.std.proofs.Common.{◌≡◌, ◌<◌, ◌≤◌, ◌^◌, ◌-◌, false, length, drop}
use Rattle.std.specs.Fmt.{digits}
use Rattle.nv_base.proofs.Hexadecimal.{digits_before}
use Rattle.nv_base.proofs.number.write_hexadecimal.Given as goal

abbrev pub invariant-loop-rest : goal.invariant-loop-rest
invariant-loop-rest l = record {
  within : l.at ≤ 34;
  begins : 3 ≤ l.at;
  long : length l.text ≡ 34;
  small : l.rest < 16 ^ (l.at - 2);
  same : digits_before l.at l.rest (drop l.at l.text) ≡ digits 16 false l.value;
}

abbrev pub decreases-loop-rest : goal.decreases-loop-rest
decreases-loop-rest l = l.rest
