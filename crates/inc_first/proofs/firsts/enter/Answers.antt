use Rattle.std.proofs.Common.{◌∙◌, List, sym, ap, subst, OnOk}
use Rattle.inc_table.specs.declared.delta.Change.{Change}
use Rattle.inc_table.specs.declared.delta.Change.TheVariants.{Put}
use Rattle.inc_table.specs.Delta.{left_by}
use Rattle.inc_group.specs.inner.Moves.{groups_in}
use Rattle.inc_first.specs.inner.Marks.{IsMarkedAt, IsTouched}
use Rattle.inc_first.proofs.Marked.{marked_none, touched_none}
use Rattle.inc_first.proofs.firsts.enter.Goals as goal

pub returns-in-Gone-clause-marked : goal.returns-in-Gone-clause-marked
returns-in-Gone-clause-marked g c =
    let P : Change g.row.G-Value.Denot → Type 0 = λ d. IsMarkedAt g.G.Key.Ord.cmp g.G.Group.Ord.cmp (groups_in g.G.Groups.groups_of c.args.key.now (left_by d)) (c.args.key.now, Put tt) c.args.marks.now c.args.marks.now in
    subst P (sym c.in-Gone.is) (marked_none g.met.G.Group.Ord.total g.G.Key.Ord.cmp (c.args.key.now, Put tt) c.args.marks.now)

pub returns-in-Gone-clause-touched : goal.returns-in-Gone-clause-touched
returns-in-Gone-clause-touched g c =
    let P : Change g.row.G-Value.Denot → Type 0 = λ d. IsTouched g.G.Group.Ord.cmp (groups_in g.G.Groups.groups_of c.args.key.now (left_by d)) c.args.touched.now c.args.touched.now in
    subst P (sym c.in-Gone.is) (touched_none g.met.G.Group.Ord.total c.args.touched.now)

pub returns-in_ok-entered-in-Put-clause-marked : goal.returns-in_ok-entered-in-Put-clause-marked
returns-in_ok-entered-in-Put-clause-marked g c =
    let P : List g.row.G-Group.Denot → Type 0 = λ l. OnOk c.mark.result (IsMarkedAt g.G.Key.Ord.cmp g.G.Group.Ord.cmp l (c.args.key.now, Put tt) c.args.marks.now c.mark.new.marks) in
    subst P (c.as_slice.ensures.value ∙ c.in_ok-entered-in-Put.ensures ∙ sym (ap (λ (d : Change g.row.G-Value.Denot). groups_in g.G.Groups.groups_of c.args.key.now (left_by d)) c.in-Put.is)) c.mark.ensures.marked

pub returns-in_ok-entered-in-Put-clause-touched : goal.returns-in_ok-entered-in-Put-clause-touched
returns-in_ok-entered-in-Put-clause-touched g c =
    let P : List g.row.G-Group.Denot → Type 0 = λ l. OnOk c.mark.result (IsTouched g.G.Group.Ord.cmp l c.args.touched.now c.mark.new.touched) in
    subst P (c.as_slice.ensures.value ∙ c.in_ok-entered-in-Put.ensures ∙ sym (ap (λ (d : Change g.row.G-Value.Denot). groups_in g.G.Groups.groups_of c.args.key.now (left_by d)) c.in-Put.is)) c.mark.ensures.touched
