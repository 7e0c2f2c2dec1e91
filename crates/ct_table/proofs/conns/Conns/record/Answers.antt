use Rattle.std.proofs.Common.{◌≡◌, ◌++◌, ◌∷◌, [], length, arith, rules, subst, sym, ap, ◌∙◌}
use Rattle.ct_core.specs.Changes.{IsEntry}
use Rattle.ct_table.proofs.Indexed.{indexed_last}
use Rattle.ct_table.specs.inner.Index.{IsIndexed}
use Rattle.ct_table.proofs.conns.Conns.record.Goals as goal

pub invariant_of-self-2 : goal.invariant_of-self-2
invariant_of-self-2 c =
    let conns = c.self.inside.entries.items in
    let items : c.push_reserved.new.self.items ≡ conns ++ c.args.entry ∷ [] = c.push_reserved.ensures.items ∙ ap (λ l. l ++ c.args.entry ∷ []) c.in_ok-reserve.ensures.items in
    let fits : IsEntry c.args.entry = c.fits.ensures in
    let last : c.len-place.result ≡ length conns = search rules in
    subst (λ l. IsIndexed l c.put_first.new.map c.put_first-2.new.map c.put_zone.new.zones) (sym items)
    (indexed_last conns c.args.entry _ c.self.inside.origs c.reserve-2.new.self c.put_first.new.map c.self.inside.replies c.reserve-3.new.self c.put_first-2.new.map c.self.inside.zones c.reserve-4.new.self c.put_zone.new.zones
    c.self.invariant (omega (arith, ap length c.self.view_is, c.requires)) fits last
    c.in_ok-reserve-2.ensures.entries c.in_ok-reserve-3.ensures.entries c.in_ok-reserve-4.ensures.keys
    (rw c.of.ensures at c.put_first.ensures) (rw c.of-2.ensures at c.put_first-2.ensures) c.put_zone.ensures)
