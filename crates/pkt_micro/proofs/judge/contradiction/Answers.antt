use Rattle.std.proofs.Common.{rules, ◌∙◌}
use Rattle.std.proofs.lemmas.Iterator.{YieldsList-from_slice}
use Rattle.std.proofs.lemmas.Iterator.Search.{find_from_yields_List}
use Rattle.nv_base.specs.Field.{all_fields}
use Rattle.pkt_micro.specs.Microflow.{is_contradicted}
use Rattle.pkt_micro.proofs.judge.contradiction.Goals as goal

pub returns : goal.returns
returns c =
    let found = find_from_yields_List (is_contradicted c.args.equalities.now) _ _ _ c.find.ensures.ran (YieldsList-from_slice all_fields (c.iter.ensures.rest ∙ c.all.ensures)) (λ x b q called. search rules) in
    c.copied.ensures ∙ found
