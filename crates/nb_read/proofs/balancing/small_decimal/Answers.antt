use Rattle.std.proofs.Common.{sym, ◌∙◌}
use Rattle.nb_read.proofs.Decimals.{hexadecimal_is_no_decimal}
use Rattle.nb_read.proofs.balancing.small_decimal.Goals as goal

pub returns-then-starts_with : goal.returns-then-starts_with
returns-then-starts_with c =
    let begins = sym c.starts_with.ensures.value ∙ c.if-starts_with.true in
    hexadecimal_is_no_decimal 65536 c.args.text.now (c.starts_with.ensures.bound c.if-starts_with.true) begins
