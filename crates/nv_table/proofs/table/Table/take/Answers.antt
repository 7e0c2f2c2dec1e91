use Rattle.std.proofs.Common.{◌≡◌, sym, ap, ◌∙◌}
use Rattle.nv_table.specs.Table.{unkeyed}
use Rattle.nv_table.proofs.Edited.{not_there, taken_record, taken_records, taken_indexed, taken_loose, taken_counted, enough}
use Rattle.nv_table.proofs.Undone.{all_found}
use Rattle.nv_table.proofs.table.Table.take.Goals as goal

pub invariant_of-self : goal.invariant_of-self
invariant_of-self g c =
    let it = not_there g.R.Record.number g.R.Record.tags g.R.Tag.Ord.cmp c.args.number c.self.inside.records c.self.inside.index c.self.invariant.0 (sym c.take.ensures.entry ∙ c.in_default.is) in
    rw (c.take.ensures.entries, it.1) c.self.invariant

pub returns-in_default-clause-record : goal.returns-in_default-clause-record
returns-in_default-clause-record g c =
    let it = not_there g.R.Record.number g.R.Record.tags g.R.Tag.Ord.cmp c.args.number c.self.inside.records c.self.inside.index c.self.invariant.0 (sym c.take.ensures.entry ∙ c.in_default.is) in
    rw (← c.self.view_is) (sym it.0)

pub returns-in_default-clause-records : goal.returns-in_default-clause-records
returns-in_default-clause-records g c =
    let it = not_there g.R.Record.number g.R.Record.tags g.R.Tag.Ord.cmp c.args.number c.self.inside.records c.self.inside.index c.self.invariant.0 (sym c.take.ensures.entry ∙ c.in_default.is) in
    rw (← c.self.view_is) (ap unkeyed (c.take.ensures.entries ∙ it.1) ∙ it.2)

pub overflow_sub-self-2 : goal.overflow_sub-self-2
overflow_sub-self-2 g c =
    let there = taken_record g.R.Record.number g.R.Record.tags g.R.Tag.Ord.cmp c.args.number c.in-Some.entry c.self.inside.records c.self.inside.index c.self.invariant.0 (sym c.take.ensures.entry ∙ c.in-Some.is) in
    rw (c.weight-first.ensures, c.value-record.ensures) (enough g.R.Record.number g.R.Record.weight c.args.number c.in-Some.entry.1 _ _ _ c.self.invariant.0.rise c.self.invariant.1 there).1

pub overflow_sub-self-3 : goal.overflow_sub-self-3
overflow_sub-self-3 g c =
    let there = taken_record g.R.Record.number g.R.Record.tags g.R.Tag.Ord.cmp c.args.number c.in-Some.entry c.self.inside.records c.self.inside.index c.self.invariant.0 (sym c.take.ensures.entry ∙ c.in-Some.is) in
    rw (c.weight-first.ensures, c.value-record.ensures) (enough g.R.Record.number g.R.Record.weight c.args.number c.in-Some.entry.1 _ _ _ c.self.invariant.0.rise c.self.invariant.1 there).2

pub invariant_of-result : goal.invariant_of-result
invariant_of-result g c =
    let found = sym c.take.ensures.entry ∙ c.in-Some.is in
    let there = taken_record g.R.Record.number g.R.Record.tags g.R.Tag.Ord.cmp c.args.number c.in-Some.entry c.self.inside.records c.self.inside.index c.self.invariant.0 found in
    let fits = all_found g.R.Record.number _ c.args.number c.in-Some.entry.1 _ c.self.invariant.1.fit there in
    taken_loose g.R.Record.number g.R.Record.tags g.R.Tag.Ord.cmp c.args.number c.in-Some.entry c.self.inside.records c.self.inside.index c.self.invariant.0 found _ fits.0 c.move_marks.ensures.to_rise (rw (c.value-record.ensures, c.new-marks.ensures) at c.move_marks.ensures.moved)

pub invariant_of-self-2 : goal.invariant_of-self-2
invariant_of-self-2 g c =
    let found = sym c.take.ensures.entry ∙ c.in-Some.is in
    let there = taken_record g.R.Record.number g.R.Record.tags g.R.Tag.Ord.cmp c.args.number c.in-Some.entry c.self.inside.records c.self.inside.index c.self.invariant.0 found in
    let records = taken_records g.R.Record.number g.R.Record.tags g.R.Tag.Ord.cmp c.args.number c.self.inside.records c.self.inside.index c.self.invariant.0 in
    let weight : c.weight-first.result ≡ g.R.Record.weight c.in-Some.entry.1 = c.weight-first.ensures ∙ ap g.R.Record.weight c.value-record.ensures in (
      rw c.take.ensures.entries (taken_indexed g.R.Record.number g.R.Record.tags g.R.Tag.Ord.cmp c.args.number c.in-Some.entry c.self.inside.records c.self.inside.index c.self.invariant.0 found _ c.move_marks.ensures.from_rise (rw c.value-record.ensures at c.move_marks.ensures.left)),
      rw (c.take.ensures.entries, records, weight) (taken_counted g.R.Record.number g.R.Record.weight c.args.number c.in-Some.entry.1 _ _ _ c.self.invariant.0.rise c.self.invariant.1 there),
    )

pub returns-clause-record : goal.returns-clause-record
returns-clause-record g c =
    let there = taken_record g.R.Record.number g.R.Record.tags g.R.Tag.Ord.cmp c.args.number c.in-Some.entry c.self.inside.records c.self.inside.index c.self.invariant.0 (sym c.take.ensures.entry ∙ c.in-Some.is) in
    rw (← c.self.view_is) (sym there)

pub returns-clause-records : goal.returns-clause-records
returns-clause-records g c =
    rw (← c.self.view_is) (ap unkeyed c.take.ensures.entries ∙ taken_records g.R.Record.number g.R.Record.tags g.R.Tag.Ord.cmp c.args.number c.self.inside.records c.self.inside.index c.self.invariant.0)
