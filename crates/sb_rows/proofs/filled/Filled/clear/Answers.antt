use Rattle.std.proofs.Common.{rules, ◌≡◌, ℕ, Contains, ap}
use Rattle.std.specs.Option.{is_some}
use Rattle.std.specs.List.{filter}
use Rattle.std.specs.BTreeMap.{get}
use Rattle.std.specs.Ordering.{is_lt, nat_cmp}
use Rattle.std.proofs.lemmas.Fn.{filter_same}
use Rattle.std.proofs.lemmas.List.Kept.{IsSortedBy-filter}
use Rattle.std.proofs.lemmas.List.Sorted.{ranks_by}
use Rattle.sb_rows.specs.inner.Filled.{pair_cmp}
use Rattle.sb_rows.proofs.IndexFirst.{row_looked_up}
use Rattle.sb_rows.proofs.IndexOthers.{among_kept}
use Rattle.sb_rows.proofs.InOrder.{pairs_total}
use Rattle.sb_rows.proofs.filled.Filled.clear.Goals as goal

pub invariant_of-self : goal.invariant_of-self
invariant_of-self c =
    let kept : c.retain.new.self.items ≡ filter (λ (x : ℕ × ℕ). is_some (get nat_cmp c.args.rows.now x.1)) c.self.inside.places.items = filter_same _ _ _ (λ x b f k. search rules) _ _ c.retain.ensures.filtered in
    rw kept (IsSortedBy-filter (λ x y. is_lt (pair_cmp x y)) (ranks_by pairs_total (λ a. a)) (λ (x : ℕ × ℕ). is_some (get nat_cmp c.args.rows.now x.1)) c.self.inside.places.items c.self.invariant)

pub returns : goal.returns
returns c b p r there was =
    let kept : c.retain.new.self.items ≡ filter (λ (x : ℕ × ℕ). is_some (get nat_cmp c.args.rows.now x.1)) c.self.inside.places.items = filter_same _ _ _ (λ x b f k. search rules) _ _ c.retain.ensures.filtered in
    let all : Contains c.self.inside.places.items (b, p) = rw c.self.view_is was in
    rw kept (among_kept (λ (x : ℕ × ℕ). is_some (get nat_cmp c.args.rows.now x.1)) c.self.inside.places.items (b, p) (ap is_some (row_looked_up c.args.rows.now p r c.requires there)) all)
