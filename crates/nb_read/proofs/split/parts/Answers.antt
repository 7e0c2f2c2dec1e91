use Rattle.std.proofs.Common.{◌≡◌, List, map, not, length, ◌==◌, rules, ℕ}
use Rattle.std.proofs.lemmas.Result.{IfOk-at_ok}
use Rattle.std.proofs.lemmas.Iterator.Consumers.{map_from_collect, YieldsList-from_filter, YieldsList-at}
use Rattle.std.proofs.lemmas.Iterator.Splits.{YieldsList-from_slice_split}
use Rattle.nb_words.specs.Words.{is_separator}
use Rattle.nb_read.specs.Lists.{parts}
use Rattle.nb_read.proofs.split.parts.Goals as goal

pub returns : goal.returns
returns c =
    IfOk-at_ok (λ found. map (λ part. part.now) found.items ≡ parts c.args.text.now) c.in_ok-collect.was
    (map_from_collect _ c.collect.ensures.ran
    (YieldsList-from_filter _ (λ (part : List ℕ). not (length part == 0))
    (YieldsList-at c.filter.ensures.source (YieldsList-from_slice_split _ is_separator c.args.text.now c.split.ensures.rest c.split.ensures.done c.split.ensures.closure (λ x b q k. search rules)))
    c.filter.ensures.closure (λ x b q k. search rules)))
