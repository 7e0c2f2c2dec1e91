use Rattle.std.proofs.Common.{◌∙◌, sym, ap, subst}
use Rattle.std.proofs.lemmas.List.Filters.{dedup_is}
use Rattle.std.proofs.lemmas.List.Kept.{IsStrictlySortedBy-dedup}
use Rattle.std.proofs.lemmas.List.Sorted.{list_any-IsPermutation}
use Rattle.std.specs.List.{list_any}
use Rattle.std.specs.List.Sorted.{IsStrictlySortedBy}
use Rattle.std.specs.Ordering.{is_eq}
use Rattle.inc_feed.proofs.Sorted.{any_dedup}
use Rattle.inc_feed.proofs.keys.Keys.new.Goals as goal

pub invariant_of-result : goal.invariant_of-result
invariant_of-result g c =
    subst (λ l. IsStrictlySortedBy g.K.Ord.cmp l) (sym (dedup_is g.K.PartialEq.eq c.sort_unstable.new.self.items c.dedup.new.self.items c.dedup.ensures.filtered))
    (IsStrictlySortedBy-dedup g.met.K.Ord.total g.met.K.Ord.matches_eq c.sort_unstable.new.self.items c.sort_unstable.ensures.sorted)

pub returns-clause-same : goal.returns-clause-same
returns-clause-same g c key =
    ap (list_any (λ other. is_eq (g.K.Ord.cmp key other))) (dedup_is g.K.PartialEq.eq c.sort_unstable.new.self.items c.dedup.new.self.items c.dedup.ensures.filtered)
    ∙ any_dedup g.met.K.Eq.laws g.met.K.Kept.exact (λ other. is_eq (g.K.Ord.cmp key other)) c.sort_unstable.new.self.items
    ∙ sym (list_any-IsPermutation (λ other. is_eq (g.K.Ord.cmp key other)) c.args.keys.items c.sort_unstable.new.self.items c.sort_unstable.ensures.permutation)

pub returns-clause-rise : goal.returns-clause-rise
returns-clause-rise g c =
    subst (λ l. IsStrictlySortedBy g.K.Ord.cmp l) (sym (dedup_is g.K.PartialEq.eq c.sort_unstable.new.self.items c.dedup.new.self.items c.dedup.ensures.filtered))
    (IsStrictlySortedBy-dedup g.met.K.Ord.total g.met.K.Ord.matches_eq c.sort_unstable.new.self.items c.sort_unstable.ensures.sorted)
