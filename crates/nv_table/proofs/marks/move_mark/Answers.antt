use Rattle.std.proofs.Common.{sym, ◌∙◌}
use Rattle.nv_map.proofs.Changes.{rise_with_entry, rise_without_by}
use Rattle.nv_map.proofs.Values.{exact_order}
use Rattle.nv_table.specs.inner.Probes.{mark_total}
use Rattle.nv_table.proofs.Moves.{exact_marks, own_left, own_apart, own_moved, own_stays, none_at}
use Rattle.nv_table.proofs.marks.move_mark.Goals as goal

pub put-requires : goal.put-requires
put-requires g c =
    let exact = exact_marks (exact_order g.R.Tag.PartialEq.eq g.R.Tag.Ord.cmp g.met.R.Tag.Ord.matches_eq g.met.R.Tag.Kept.exact) in
    own_apart g.met.R.Tag.Ord.total exact _ _ _ _ _ (sym c.take_by.ensures.entry ∙ c.in-Some.is) c.requires.apart

pub returns-in-Some-clause-from_rise : goal.returns-in-Some-clause-from_rise
returns-in-Some-clause-from_rise g c = rw c.take_by.ensures.entries (rise_without_by _ _ _ c.requires.from)

pub returns-in-Some-clause-to_rise : goal.returns-in-Some-clause-to_rise
returns-in-Some-clause-to_rise g c = rw c.put.ensures.entries (rise_with_entry (mark_total g.met.R.Tag.Ord.total) _ _ c.requires.to)

pub returns-in-Some-clause-left : goal.returns-in-Some-clause-left
returns-in-Some-clause-left g c =
    let exact = exact_marks (exact_order g.R.Tag.PartialEq.eq g.R.Tag.Ord.cmp g.met.R.Tag.Ord.matches_eq g.met.R.Tag.Kept.exact) in
    rw c.take_by.ensures.entries (own_left g.met.R.Tag.Ord.total exact _ _ _ c.requires.from)

pub returns-in-Some-clause-moved : goal.returns-in-Some-clause-moved
returns-in-Some-clause-moved g c =
    let exact = exact_marks (exact_order g.R.Tag.PartialEq.eq g.R.Tag.Ord.cmp g.met.R.Tag.Ord.matches_eq g.met.R.Tag.Kept.exact) in
    rw c.put.ensures.entries (own_moved g.met.R.Tag.Ord.total exact _ _ _ _ _ (sym c.take_by.ensures.entry ∙ c.in-Some.is))

pub returns-in_default-clause-from_rise : goal.returns-in_default-clause-from_rise
returns-in_default-clause-from_rise g c = rw c.take_by.ensures.entries (rise_without_by _ _ _ c.requires.from)

pub returns-in_default-clause-left : goal.returns-in_default-clause-left
returns-in_default-clause-left g c =
    let exact = exact_marks (exact_order g.R.Tag.PartialEq.eq g.R.Tag.Ord.cmp g.met.R.Tag.Ord.matches_eq g.met.R.Tag.Kept.exact) in
    rw c.take_by.ensures.entries (own_left g.met.R.Tag.Ord.total exact _ _ _ c.requires.from)

pub returns-in_default-clause-moved : goal.returns-in_default-clause-moved
returns-in_default-clause-moved g c =
    let exact = exact_marks (exact_order g.R.Tag.PartialEq.eq g.R.Tag.Ord.cmp g.met.R.Tag.Ord.matches_eq g.met.R.Tag.Kept.exact) in
    own_stays g.met.R.Tag.Ord.total exact _ _ _ _ (sym c.take_by.ensures.entry ∙ none_at _ c.in_default.not-Some)
