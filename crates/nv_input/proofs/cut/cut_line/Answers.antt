use Rattle.nv_input.proofs.Cuts.{ends_none, cuts}
use Rattle.nv_input.proofs.cut.cut_line.Goals as goal

pub returns-in-None-clause-none : goal.returns-in-None-clause-none
returns-in-None-clause-none c = ends_none c.args.bytes.now c.in-None.ensures

pub returns-in-Some-clause-cut : goal.returns-in-Some-clause-cut
returns-in-Some-clause-cut c = cuts c.args.bytes.now _ _ _ _ c.in-Some.ensures.0 c.in-Some.ensures.1 c.split_at.ensures.front c.split_at.ensures.back c.split_at-in-Some.ensures.back
