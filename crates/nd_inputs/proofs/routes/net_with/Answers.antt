use Rattle.std.proofs.Common.{rules, ◌∙◌}
use Rattle.std.proofs.lemmas.Iterator.{YieldsList-from_slice}
use Rattle.std.proofs.lemmas.Iterator.Search.{find_from_yields_List}
use Rattle.lr_units.specs.Words.{holds}
use Rattle.nd_inputs.proofs.routes.net_with.Goals as goal

pub returns : goal.returns
returns c =
    let found = find_from_yields_List (holds c.args.nexthop) _ _ c.find.result c.find.ensures.ran (YieldsList-from_slice c.args.nets.now c.iter.ensures.rest) (λ x b q called. search rules) in
    c.copied.ensures ∙ found
