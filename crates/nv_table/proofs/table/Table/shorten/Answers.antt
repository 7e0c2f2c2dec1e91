use Rattle.std.proofs.Common.{◌<◌, ◌^◌, arith, refl, ap, sym, ◌∙◌, subst, IsSome}
use Rattle.nv_map.specs.Map.{value_at, with_value}
use Rattle.nv_table.specs.Table.{unkeyed}
use Rattle.nv_table.specs.inner.Index.{number_cmp}
use Rattle.nv_table.proofs.Edited.{room}
use Rattle.nv_table.proofs.OneApart.{fits_shorter, shorter_than, is_there, swapped_records, enough_there, swapped_counted, shorter_apart, shorter_indexed, shorter_moved}
use Rattle.nv_table.proofs.table.Table.shorten.Goals as goal

pub move_mark-requires-clause-apart : goal.move_mark-requires-clause-apart
move_mark-requires-clause-apart g c =
    let flag = rw (← c.lean.view_is) at c.requires.shorter in
    let fit = rw (← c.self.view_is, ← c.lean.view_is) at c.requires.fits in
    let it = shorter_than g.R.Record.number g.R.Record.tags g.R.Tag.Ord.cmp g.R.Listing.is_longer g.met.R.Listing.longer c.lean.inside.record c.lean.inside.place c.lean.inside.is_longer c.self.inside.records c.self.invariant.0.numbered c.exchange-held.result _ c.number-number.ensures c.exchange-held.ensures.old flag fit in
    shorter_apart g.R.Record.number g.R.Record.tags c.lean.inside.record c.exchange-held.result c.self.inside.records c.self.inside.index c.self.invariant.0 it.0 c.lean.inside.place it.1 _ (rw flag at c.lean.invariant)

pub invariant_of-move_mark : goal.invariant_of-move_mark
invariant_of-move_mark g c =
    let flag = rw (← c.lean.view_is) at c.requires.shorter in
    let fit = rw (← c.self.view_is, ← c.lean.view_is) at c.requires.fits in
    let it = shorter_than g.R.Record.number g.R.Record.tags g.R.Tag.Ord.cmp g.R.Listing.is_longer g.met.R.Listing.longer c.lean.inside.record c.lean.inside.place c.lean.inside.is_longer c.self.inside.records c.self.invariant.0.numbered c.exchange-held.result _ c.number-number.ensures c.exchange-held.ensures.old flag fit in
    record { in_range = it.1.within }

pub exchange-held-requires : goal.exchange-held-requires
exchange-held-requires g c =
    let flag = rw (← c.lean.view_is) at c.requires.shorter in
    let fit = rw (← c.self.view_is, ← c.lean.view_is) at c.requires.fits in
    let it = fits_shorter g.R.Record.number g.R.Record.tags g.R.Tag.Ord.cmp g.R.Listing.is_longer g.met.R.Listing.longer c.lean.inside.record c.lean.inside.place c.lean.inside.is_longer _ flag fit in
    subst IsSome (sym (ap (λ n. value_at number_cmp n c.self.inside.records) c.number-number.ensures ∙ is_there g.R.Record.number g.R.Record.tags c.lean.inside.record it.0 c.self.inside.records c.self.inside.index c.self.invariant.0 it.1.0)) refl

pub overflow_sub-self : goal.overflow_sub-self
overflow_sub-self g c =
    let flag = rw (← c.lean.view_is) at c.requires.shorter in
    let fit = rw (← c.self.view_is, ← c.lean.view_is) at c.requires.fits in
    let it = shorter_than g.R.Record.number g.R.Record.tags g.R.Tag.Ord.cmp g.R.Listing.is_longer g.met.R.Listing.longer c.lean.inside.record c.lean.inside.place c.lean.inside.is_longer c.self.inside.records c.self.invariant.0.numbered c.exchange-held.result _ c.number-number.ensures c.exchange-held.ensures.old flag fit in
    rw c.weight-held_first.ensures (enough_there g.R.Record.number g.R.Record.weight c.lean.inside.record c.exchange-held.result _ _ _ c.self.invariant.0.rise c.self.invariant.1 it.0).0

pub overflow_add-self : goal.overflow_add-self
overflow_add-self g c = let free = room g.R.Record.number g.R.Record.weight _ _ _ c.self.invariant.0.rise c.self.invariant.1 in omega (arith, free.1)

pub overflow_sub-self-2 : goal.overflow_sub-self-2
overflow_sub-self-2 g c =
    let flag = rw (← c.lean.view_is) at c.requires.shorter in
    let fit = rw (← c.self.view_is, ← c.lean.view_is) at c.requires.fits in
    let it = shorter_than g.R.Record.number g.R.Record.tags g.R.Tag.Ord.cmp g.R.Listing.is_longer g.met.R.Listing.longer c.lean.inside.record c.lean.inside.place c.lean.inside.is_longer c.self.inside.records c.self.invariant.0.numbered c.exchange-held.result _ c.number-number.ensures c.exchange-held.ensures.old flag fit in
    rw c.weight-held_first.ensures (enough_there g.R.Record.number g.R.Record.weight c.lean.inside.record c.exchange-held.result _ _ _ c.self.invariant.0.rise c.self.invariant.1 it.0).1

pub overflow_add-self-2 : goal.overflow_add-self-2
overflow_add-self-2 g c = let free = room g.R.Record.number g.R.Record.weight _ _ _ c.self.invariant.0.rise c.self.invariant.1 in omega (arith, free.2)

pub invariant_of-self : goal.invariant_of-self
invariant_of-self g c =
    let flag = rw (← c.lean.view_is) at c.requires.shorter in
    let fit = rw (← c.self.view_is, ← c.lean.view_is) at c.requires.fits in
    let it = shorter_than g.R.Record.number g.R.Record.tags g.R.Tag.Ord.cmp g.R.Listing.is_longer g.met.R.Listing.longer c.lean.inside.record c.lean.inside.place c.lean.inside.is_longer c.self.inside.records c.self.invariant.0.numbered c.exchange-held.result _ c.number-number.ensures c.exchange-held.ensures.old flag fit in
    let entries = c.exchange-held.ensures.entries ∙ ap (λ n. with_value number_cmp n c.lean.inside.record c.self.inside.records) c.number-number.ensures in
    let records = swapped_records g.R.Record.number g.R.Record.tags c.lean.inside.record c.exchange-held.result c.self.inside.records c.self.inside.index c.self.invariant.0 it.0 in
    let number : c.number-number.result.0 < 2 ^ 32 = omega arith in
    let first : c.weight-first.result.0 < 2 ^ 64 = omega arith in
    let second : c.weight-first.result.1 < 2 ^ 64 = omega arith in (
      rw entries (shorter_indexed g.R.Record.number g.R.Record.tags c.lean.inside.record c.exchange-held.result c.self.inside.records c.self.inside.index c.self.invariant.0 it.0 c.lean.inside.place it.1 _ (rw flag at c.lean.invariant) c.move_mark.new.from c.move_mark.ensures.from_rise c.move_mark.ensures.left),
      rw (entries, records, c.weight-first.ensures, c.weight-held_first.ensures) (swapped_counted g.R.Record.number g.R.Record.weight c.lean.inside.record c.exchange-held.result _ _ _ c.self.invariant.0.rise c.self.invariant.1 it.0 (rw c.number-number.ensures at number, rw c.weight-first.ensures at first, rw c.weight-first.ensures at second)),
    )

pub invariant_of-result : goal.invariant_of-result
invariant_of-result g c =
    let flag = rw (← c.lean.view_is) at c.requires.shorter in
    let fit = rw (← c.self.view_is, ← c.lean.view_is) at c.requires.fits in
    let it = shorter_than g.R.Record.number g.R.Record.tags g.R.Tag.Ord.cmp g.R.Listing.is_longer g.met.R.Listing.longer c.lean.inside.record c.lean.inside.place c.lean.inside.is_longer c.self.inside.records c.self.invariant.0.numbered c.exchange-held.result _ c.number-number.ensures c.exchange-held.ensures.old flag fit in
    shorter_moved g.R.Record.number g.R.Record.tags c.lean.inside.record c.exchange-held.result c.self.inside.records c.self.inside.index c.self.invariant.0 it.0 c.lean.inside.place it.1 _ (rw flag at c.lean.invariant) _ c.move_mark.ensures.to_rise c.move_mark.ensures.moved

pub returns-clause-records : goal.returns-clause-records
returns-clause-records g c =
    let flag = rw (← c.lean.view_is) at c.requires.shorter in
    let fit = rw (← c.self.view_is, ← c.lean.view_is) at c.requires.fits in
    let it = shorter_than g.R.Record.number g.R.Record.tags g.R.Tag.Ord.cmp g.R.Listing.is_longer g.met.R.Listing.longer c.lean.inside.record c.lean.inside.place c.lean.inside.is_longer c.self.inside.records c.self.invariant.0.numbered c.exchange-held.result _ c.number-number.ensures c.exchange-held.ensures.old flag fit in
    let entries = c.exchange-held.ensures.entries ∙ ap (λ n. with_value number_cmp n c.lean.inside.record c.self.inside.records) c.number-number.ensures in
    rw (← c.self.view_is, ← c.lean.view_is) (ap unkeyed entries ∙ swapped_records g.R.Record.number g.R.Record.tags c.lean.inside.record c.exchange-held.result c.self.inside.records c.self.inside.index c.self.invariant.0 it.0)

pub returns-clause-old : goal.returns-clause-old
returns-clause-old g c =
    let flag = rw (← c.lean.view_is) at c.requires.shorter in
    let fit = rw (← c.self.view_is, ← c.lean.view_is) at c.requires.fits in
    let it = shorter_than g.R.Record.number g.R.Record.tags g.R.Tag.Ord.cmp g.R.Listing.is_longer g.met.R.Listing.longer c.lean.inside.record c.lean.inside.place c.lean.inside.is_longer c.self.inside.records c.self.invariant.0.numbered c.exchange-held.result _ c.number-number.ensures c.exchange-held.ensures.old flag fit in
    rw (← c.self.view_is, ← c.lean.view_is) it.0
