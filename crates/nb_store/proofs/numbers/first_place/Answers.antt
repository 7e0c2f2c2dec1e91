use Rattle.std.proofs.Common.{None, Some, arith}
use Rattle.nb_store.proofs.Blocks.{place_after}
use Rattle.nb_store.proofs.numbers.first_place.Goals as goal

pub returns-in_err-at-clause-place : goal.returns-in_err-at-clause-place
returns-in_err-at-clause-place c =
    let none = place_after c.args.number c.args.numbers.now c.before_block-start.result (omega arith) c.before_block-start.ensures.before None c.in_err-at.ensures.place in
    cc none

pub returns-clause-place : goal.returns-clause-place
returns-clause-place c = place_after c.args.number c.args.numbers.now c.before_block-start.result (omega arith) c.before_block-start.ensures.before (Some c.in_ok-at.at) c.in_ok-at.ensures.place
