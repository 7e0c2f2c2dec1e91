use Rattle.std.proofs.Common.{◌≡◌, ◌++◌, ◌∷◌, [], length, rules, subst}
use Rattle.ct_table.proofs.Cut.{indexed_first}
use Rattle.ct_table.specs.inner.Index.{IsIndexed}
use Rattle.ct_table.proofs.conns.Conns.take_last.Goals as goal

pub invariant_of-self : goal.invariant_of-self
invariant_of-self c =
    let before = c.self.inside in
    let left = c.pop.new.self.items in
    let items : before.entries.items ≡ left ++ c.in-Some.entry ∷ [] = c.in-Some.ensures.items in
    let last : c.len-place.result ≡ length left = search rules in
    indexed_first left c.in-Some.entry c.len-place.result before.origs c.take_place.new.map before.replies c.take_place-in-Some.new.map before.zones
    (subst (λ l. IsIndexed l before.origs before.replies before.zones) items c.self.invariant) last
    (rw c.of.ensures at c.take_place.ensures) (rw c.of-in-Some.ensures at c.take_place-in-Some.ensures)
