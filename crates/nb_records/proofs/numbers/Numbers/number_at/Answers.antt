use Rattle.std.proofs.Common.{sym}
use Rattle.std.proofs.lemmas.List.{get_or_default}
use Rattle.std.proofs.lemmas.Option.{get_or_from_slice_get}
use Rattle.nb_records.proofs.Runs.{first_of_run}
use Rattle.nb_records.proofs.numbers.Numbers.number_at.Goals as goal

pub returns-clause-number : goal.returns-clause-number
returns-clause-number c = first_of_run c.args.self.now c.run.result.now c.args.at c.run.ensures.numbers _ c.run.ensures.some (get_or_default c.run.result.now 0 _ _ c.run.ensures.some) c.requires

pub returns-clause-indexed : goal.returns-clause-indexed
returns-clause-indexed c = sym (get_or_from_slice_get c.args.self.now c.args.at _ _ (first_of_run c.args.self.now c.run.result.now c.args.at c.run.ensures.numbers _ c.run.ensures.some (get_or_default c.run.result.now 0 _ _ c.run.ensures.some) c.requires))
