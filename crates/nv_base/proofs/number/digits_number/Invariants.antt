use Rattle.std.proofs.Common.{◌≡◌, ◌<◌, ◌^◌, drop}
use Rattle.nv_base.specs.Number.{digits_number}
use Rattle.nv_base.proofs.Digits.{number_after}
use Rattle.nv_base.proofs.number.digits_number.Given as goal

abbrev pub invariant-loop-byte : goal.invariant-loop-byte
invariant-loop-byte l = (l.value < 2 ^ 128) × (number_after l.radix l.value (drop l.byte-index l.text) ≡ digits_number l.radix l.text)
