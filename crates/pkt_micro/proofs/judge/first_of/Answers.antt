use Rattle.std.proofs.Common.{rules}
use Rattle.std.proofs.lemmas.Iterator.{YieldsList-from_slice}
use Rattle.std.proofs.lemmas.Iterator.Search.{find_from_yields_List}
use Rattle.pkt_micro.specs.Microflow.{is_of}
use Rattle.pkt_micro.proofs.judge.first_of.Goals as goal

pub returns : goal.returns
returns c = find_from_yields_List (is_of c.args.field) _ _ _ c.find.ensures.ran (YieldsList-from_slice c.args.equalities.now c.iter.ensures.rest) (λ x b q called. search rules)
