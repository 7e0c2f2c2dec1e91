use Rattle.std.proofs.Common.{sym, ap, ◌∙◌}
use Rattle.std.specs.Ordering.{is_eq}
use Rattle.nv_map.proofs.Values.{exact_order}
use Rattle.nv_table.proofs.Keyed.{value_numbered}
use Rattle.nv_table.proofs.Tagged.{tagged_none, tagged_own, tagged_other, mapped_none, mapped_some}
use Rattle.nv_table.proofs.table.Table.tagged.Goals as goal

pub returns-in_default-clause-record : goal.returns-in_default-clause-record
returns-in_default-clause-record g c =
    let exact = exact_order g.R.Tag.PartialEq.eq g.R.Tag.Ord.cmp g.met.R.Tag.Ord.matches_eq g.met.R.Tag.Kept.exact in
    let whole = c.self.invariant.0 in
    rw (← c.self.view_is)
    (sym (tagged_none g.R.Record.number g.R.Record.tags g.met.R.Tag.Ord.total exact (g.met.P.Probe.parts c.args.tag.now) c.args.after _ _ whole.rise whole.marks_rise whole.marked
    (mapped_none _ c.first_above.ensures.entry c.in_default.is)))

pub returns-then-is_eq-clause-record : goal.returns-then-is_eq-clause-record
returns-then-is_eq-clause-record g c =
    let exact = exact_order g.R.Tag.PartialEq.eq g.R.Tag.Ord.cmp g.met.R.Tag.Ord.matches_eq g.met.R.Tag.Kept.exact in
    let whole = c.self.invariant.0 in
    rw (← c.self.view_is)
    (c.get.ensures.value
    ∙ value_numbered g.R.Record.number c.self.inside.records whole.numbered c.in-Some.mark.now.1
    ∙ sym (tagged_own g.R.Record.number g.R.Record.tags g.met.R.Tag.Ord.total exact (g.met.P.Probe.parts c.args.tag.now) c.args.after _ _ whole.rise whole.marks_rise whole.marked
    _ (mapped_some _ c.first_above.ensures.entry c.in-Some.is) (ap is_eq (sym c.compare.ensures) ∙ sym c.is_eq.ensures ∙ c.if-is_eq.true)))

pub returns-else-is_eq-clause-record : goal.returns-else-is_eq-clause-record
returns-else-is_eq-clause-record g c =
    let exact = exact_order g.R.Tag.PartialEq.eq g.R.Tag.Ord.cmp g.met.R.Tag.Ord.matches_eq g.met.R.Tag.Kept.exact in
    let whole = c.self.invariant.0 in
    rw (← c.self.view_is)
    (sym (tagged_other g.R.Record.number g.R.Record.tags g.met.R.Tag.Ord.total exact (g.met.P.Probe.parts c.args.tag.now) c.args.after _ _ whole.rise whole.marks_rise whole.marked
    _ (mapped_some _ c.first_above.ensures.entry c.in-Some.is) (ap is_eq (sym c.compare.ensures) ∙ sym c.is_eq.ensures ∙ c.if-is_eq.false)))
