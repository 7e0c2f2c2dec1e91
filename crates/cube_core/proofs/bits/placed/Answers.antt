use Rattle.std.proofs.Common.{◌≡◌, ℕ, ◌<◌, ◌-◌, ◌*◌, ◌%◌, ◌^◌, sym, ap, ap₂, subst, ◌∙◌, arith}
use Rattle.nv_base.specs.Field.{field_width}
use Rattle.cube_core.proofs.Shifts.{placed_here, placed_beyond, placed_below}
use Rattle.cube_core.proofs.bits.placed.Goals as goal

pub returns-then-lowest_bit-width-clause-value : goal.returns-then-lowest_bit-width-clause-value
returns-then-lowest_bit-width-clause-value c =
    let from : c.from.result ≡ c.width-width.result - c.lowest_bit-lowest_bit.result = omega arith in
    let cut : c.lowest.result ≡ c.args.number % 2 ^ (c.width-width.result - c.lowest_bit-lowest_bit.result) = c.lowest.ensures ∙ ap (λ x. c.args.number % 2 ^ x) from in
    placed_here c.args.number c.lowest_bit-lowest_bit.result c.width-width.result c.lowest.result c.if-lowest_bit-width.true c.width-width.ensures.most cut
    ∙ ap₂ (λ low width. c.args.number * 2 ^ low % 2 ^ width) c.lowest_bit-lowest_bit.ensures c.width-width.ensures.value

pub returns-then-lowest_bit-width-clause-fits : goal.returns-then-lowest_bit-width-clause-fits
returns-then-lowest_bit-width-clause-fits c =
    let from : c.from.result ≡ c.width-width.result - c.lowest_bit-lowest_bit.result = omega arith in
    let cut : c.lowest.result ≡ c.args.number % 2 ^ (c.width-width.result - c.lowest_bit-lowest_bit.result) = c.lowest.ensures ∙ ap (λ x. c.args.number % 2 ^ x) from in
    let is = placed_here c.args.number c.lowest_bit-lowest_bit.result c.width-width.result c.lowest.result c.if-lowest_bit-width.true c.width-width.ensures.most cut
    ∙ ap (λ width. c.args.number * 2 ^ c.lowest_bit-lowest_bit.result % 2 ^ width) c.width-width.ensures.value in
    subst (λ (x : ℕ). x < 2 ^ field_width c.args.field) (sym is) (placed_below c.args.number c.lowest_bit-lowest_bit.result (field_width c.args.field))

pub returns-else-lowest_bit-width-clause-value : goal.returns-else-lowest_bit-width-clause-value
returns-else-lowest_bit-width-clause-value c =
    placed_beyond c.args.number c.lowest_bit-lowest_bit.result c.width-width.result c.if-lowest_bit-width.false
    ∙ ap₂ (λ low width. c.args.number * 2 ^ low % 2 ^ width) c.lowest_bit-lowest_bit.ensures c.width-width.ensures.value
