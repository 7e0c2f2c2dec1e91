use Rattle.std.proofs.Common.{arith}
use Rattle.std.proofs.lemmas.Grind.{common_steps}
use Rattle.nv_io.proofs.Calls.{front, still}
use Rattle.nv_io.proofs.mem_source.CleanSourceSource.take.Goals as goal

pub returns-clause-count : goal.returns-clause-count
returns-clause-count c = grind (arith, common_steps)

pub returns-clause-copied : goal.returns-clause-copied
returns-clause-copied c = grind (arith, common_steps)

pub returns-clause-ok : goal.returns-clause-ok
returns-clause-ok c = grind (arith, common_steps)

pub returns-clause-step : goal.returns-clause-step
returns-clause-step c =
    let count = returns-clause-count c in
    let copied = returns-clause-copied c in
    (still _ _ _ _ _ count copied, front _ _ _ _ _ count copied, returns-clause-ok c)
