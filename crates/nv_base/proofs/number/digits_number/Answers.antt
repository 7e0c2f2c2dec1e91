use Rattle.std.proofs.Common.{◌≡◌, ◌≤◌, ◌^◌, ◌+◌, ◌*◌, get_or, sym, ◌∙◌, ap, arith}
use Rattle.std.specs.Char.{digit_value}
use Rattle.nv_base.proofs.Digits.{stops_at_size, ends}
use Rattle.nv_base.proofs.number.digits_number.Goals as goal

pub returns-in_err-checked_mul : goal.returns-in_err-checked_mul
returns-in_err-checked_mul c =
    let product = rw c.from-in-loop-byte.ensures at c.in_err-checked_mul.ensures in
    let big : 2 ^ 128 ≤ c.loop-byte.value * c.args.radix + digit_value (get_or c.args.text.now c.loop-byte.byte-index 0) = omega (arith, product) in
    rw c.from_residual-in_err-checked_mul.ensures (sym (stops_at_size _ _ _ _ (omega arith) c.loop-byte-test.true big) ∙ c.loop-byte.invariant.1)

pub returns-in_err-value : goal.returns-in_err-value
returns-in_err-value c =
    let product = rw c.from-in-loop-byte.ensures at c.in_ok-checked_mul.ensures in
    let digit : digit_value c.from.result ≡ digit_value (get_or c.args.text.now c.loop-byte.byte-index 0) = ap digit_value c.from.ensures in
    let big : 2 ^ 128 ≤ c.loop-byte.value * c.args.radix + digit_value (get_or c.args.text.now c.loop-byte.byte-index 0) = omega (arith, product.1, c.in_err-value.ensures, c.in_ok-digit.ensures.value.1) in
    rw c.from_residual-in_err-value.ensures (sym (stops_at_size _ _ _ _ (omega arith) c.loop-byte-test.true big) ∙ c.loop-byte.invariant.1)

pub returns : goal.returns
returns c = sym (ends c.args.radix c.loop-byte.value c.args.text.now c.loop-byte.byte-index (omega arith) c.loop-byte.invariant.0) ∙ c.loop-byte.invariant.1
