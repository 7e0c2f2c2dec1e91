use Rattle.std.proofs.Common.{◌==◌, rules, tests}
use Rattle.std.proofs.lemmas.Iterator.{YieldsList-from_slice}
use Rattle.std.proofs.lemmas.Iterator.Search.{position_from_yields_List}
use Rattle.nv_base.proofs.Parts.{around_none, around_some}
use Rattle.nb_read.proofs.balancing.around_colon.Goals as goal

pub returns-in_err-at : goal.returns-in_err-at
returns-in_err-at c =
    let found = position_from_yields_List (λ b. b == 58) _ _ c.position.result c.position.ensures.ran (YieldsList-from_slice c.args.text.now c.iter.ensures.rest) (λ x b q k. search (rules, tests)) in
    rw c.from_residual.ensures (around_none 58 c.args.text.now _ found c.in_err-at.was)

pub returns : goal.returns
returns c =
    let found = position_from_yields_List (λ b. b == 58) _ _ c.position.result c.position.ensures.ran (YieldsList-from_slice c.args.text.now c.iter.ensures.rest) (λ x b q k. search (rules, tests)) in
    around_some 58 c.args.text.now _ c.in_ok-at.at found c.in_ok-at.was
