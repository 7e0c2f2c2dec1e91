use Rattle.std.proofs.Common.{subst, sym, ap, ◌∙◌}
use Rattle.ct_core.specs.Changes.{marked}
use Rattle.ct_table.proofs.Indexed.{indexed_marked, marked_is_set}
use Rattle.ct_table.specs.inner.Index.{IsIndexed}
use Rattle.ct_table.proofs.conns.Conns.mark.Goals as goal

pub invariant_of-self : goal.invariant_of-self
invariant_of-self c =
    let before = c.self.inside in
    subst (λ conns. IsIndexed conns before.origs before.replies before.zones) (sym (marked_is_set before.entries.items c.args.place c.args.blocked c.index_mut.result.now c.index_mut.ensures.value))
    (indexed_marked c.args.place c.args.blocked before.entries.items before.origs before.replies before.zones c.self.invariant)

pub returns : goal.returns
returns c = marked_is_set c.self.inside.entries.items c.args.place c.args.blocked c.index_mut.result.now c.index_mut.ensures.value ∙ ap (marked c.args.place c.args.blocked) c.self.view_is
