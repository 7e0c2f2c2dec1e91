use Rattle.std.proofs.Common.{arith}
use Rattle.std.proofs.lemmas.Fmt.{length-decimal-le}
use Rattle.nv_base.proofs.ip4.write_octet.Goals as goal

pub write_digits-requires : goal.write_digits-requires
write_digits-requires c =
    let short = length-decimal-le 3 c.from.result (omega arith) (omega (arith, c.from.ensures)) (omega (arith, c.from.ensures)) in
    (omega (arith, short), omega arith)

pub returns-clause-begins : goal.returns-clause-begins
returns-clause-begins c =
    let short = length-decimal-le 3 c.from.result (omega arith) (omega (arith, c.from.ensures)) (omega (arith, c.from.ensures)) in
    omega (arith, short)
