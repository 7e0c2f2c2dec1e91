use Rattle.std.proofs.Common.{◌≡◌, ◌<◌, ◌^◌, arith, ap, ◌∙◌}
use Rattle.nv_table.specs.Table.{unkeyed}
use Rattle.nv_table.proofs.Edited.{put_apart, put_new, put_records, put_indexed, put_counted, room}
use Rattle.nv_table.proofs.table.Table.put.Goals as goal

pub overflow_add-self : goal.overflow_add-self
overflow_add-self g c = let free = room g.R.Record.number g.R.Record.weight _ _ _ c.self.invariant.0.rise c.self.invariant.1 in omega (arith, free)

pub overflow_add-self-2 : goal.overflow_add-self-2
overflow_add-self-2 g c = let free = room g.R.Record.number g.R.Record.weight _ _ _ c.self.invariant.0.rise c.self.invariant.1 in omega (arith, free.1)

pub overflow_add-self-3 : goal.overflow_add-self-3
overflow_add-self-3 g c = let free = room g.R.Record.number g.R.Record.weight _ _ _ c.self.invariant.0.rise c.self.invariant.1 in omega (arith, free.2)

pub move_marks-requires-clause-apart : goal.move_marks-requires-clause-apart
move_marks-requires-clause-apart g c =
    let none = rw (← c.self.view_is, ← c.loose.view_is) at c.requires in
    put_apart g.R.Record.number g.R.Record.tags g.R.Tag.Ord.cmp c.loose.inside.entry _ c.self.inside.records _ c.loose.invariant c.self.invariant.0 none

pub put-requires : goal.put-requires
put-requires g c =
    let none = rw (← c.self.view_is, ← c.loose.view_is) at c.requires in
    put_new g.R.Record.number g.R.Record.tags g.R.Tag.Ord.cmp c.loose.inside.entry _ c.self.inside.records _ c.loose.invariant c.self.invariant.0 none

pub invariant_of-self : goal.invariant_of-self
invariant_of-self g c =
    let none = rw (← c.self.view_is, ← c.loose.view_is) at c.requires in
    let records = put_records g.R.Record.number g.R.Record.tags g.R.Tag.Ord.cmp c.loose.inside.entry _ c.self.inside.records _ c.loose.invariant c.self.invariant.0 none in
    let first : c.weight-first.result.0 < 2 ^ 64 = omega arith in
    let second : c.weight-first.result.1 < 2 ^ 64 = omega arith in
    let weight : c.weight-first.result ≡ g.R.Record.weight c.loose.inside.entry.1 = c.weight-first.ensures ∙ ap g.R.Record.weight c.value-record.ensures in (
      rw c.put.ensures.entries (put_indexed g.R.Record.number g.R.Record.tags g.R.Tag.Ord.cmp c.loose.inside.entry _ c.self.inside.records _ _ c.loose.invariant c.self.invariant.0 none c.move_marks.ensures.to_rise (rw c.value-record.ensures at c.move_marks.ensures.moved)),
      rw (c.put.ensures.entries, records, weight)
          (put_counted g.R.Record.number g.R.Record.weight c.loose.inside.entry.1 _ _ _ c.self.invariant.1 (c.loose.invariant.bounded, rw weight at first, rw weight at second)),
    )

pub returns-clause-records : goal.returns-clause-records
returns-clause-records g c =
    let none = rw (← c.self.view_is, ← c.loose.view_is) at c.requires in
    let records = put_records g.R.Record.number g.R.Record.tags g.R.Tag.Ord.cmp c.loose.inside.entry _ c.self.inside.records _ c.loose.invariant c.self.invariant.0 none in
    rw (← c.self.view_is, ← c.loose.view_is) (ap unkeyed c.put.ensures.entries ∙ records)
