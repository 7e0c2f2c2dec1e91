use Rattle.std.proofs.lemmas.List.Filters.{dedup_is}
use Rattle.std.proofs.lemmas.List.Kept.{Contains-dedup, Contains-from_dedup}
use Rattle.std.proofs.lemmas.List.Sorted.{Contains-permutation, IsPermutation-sym}
use Rattle.nv_base.specs.contracts.object.ObjIdEq.TheImpl.Laws.{laws-law}
use Rattle.nv_base.specs.inner.Exact.{object}
use Rattle.nd_full.proofs.Applied.{owners_are}
use Rattle.nd_full.proofs.owners.owners_on.Goals as goal

-- the owners are those that were found, in another order and each once
pub returns : goal.returns
returns c =
    let once = dedup_is _ _ _ c.dedup.ensures.filtered in
    let moved = rw (c.in_ok-add_groups_on.ensures, c.in_ok-push.ensures.items, c.new-owners.ensures.items) at c.sort_unstable.ensures.permutation in
    owners_are c.args.records.now c.args.switch c.dedup.new.self.items (λ owner. (
      λ there. Contains-permutation _ _ owner (IsPermutation-sym _ _ moved) (Contains-from_dedup _ _ owner (rw once at there)),
      λ there. rw once (Contains-dedup laws-law object _ owner (Contains-permutation _ _ owner moved there)),
    ))
