use Rattle.std.proofs.Common.{◌≡◌, map, ◌==◌, rules, tests}
use Rattle.std.specs.List.{slice_split}
use Rattle.std.proofs.lemmas.Result.{IfOk-at_ok}
use Rattle.std.proofs.lemmas.Iterator.Consumers.{map_from_collect}
use Rattle.std.proofs.lemmas.Iterator.Splits.{YieldsList-from_slice_split}
use Rattle.nb_read.proofs.balancing.between_commas.Goals as goal

pub returns : goal.returns
returns c =
    IfOk-at_ok (λ found. map (λ part. part.now) found.items ≡ slice_split (λ byte. byte == 44) c.args.text.now) c.in_ok-collect.was
    (map_from_collect _ c.collect.ensures.ran
    (YieldsList-from_slice_split _ (λ byte. byte == 44) c.args.text.now c.split.ensures.rest c.split.ensures.done c.split.ensures.closure (λ x b q k. search (rules, tests))))
