use Rattle.std.proofs.Common.{◌∙◌, List, Option, sym, ap, subst, OnOk}
use Rattle.std.specs.Option.{option_copied}
use Rattle.inc_table.specs.declared.delta.Change.TheVariants.{Gone}
use Rattle.inc_group.specs.inner.Moves.{groups_in}
use Rattle.inc_first.specs.inner.Marks.{IsMarkedAt, IsTouched}
use Rattle.inc_first.proofs.Marked.{marked_none, touched_none}
use Rattle.inc_first.proofs.firsts.leave.Goals as goal

pub returns-in-None-clause-marked : goal.returns-in-None-clause-marked
returns-in-None-clause-marked g c =
    let P : Option g.row.G-Value.Denot → Type 0 = λ v. IsMarkedAt g.G.Key.Ord.cmp g.G.Group.Ord.cmp (groups_in g.G.Groups.groups_of c.args.key.now v) (c.args.key.now, Gone) c.args.marks.now c.args.marks.now in
    subst P (sym (ap option_copied c.in-None.is) ∙ c.get.ensures.value) (marked_none g.met.G.Group.Ord.total g.G.Key.Ord.cmp (c.args.key.now, Gone) c.args.marks.now)

pub returns-in-None-clause-touched : goal.returns-in-None-clause-touched
returns-in-None-clause-touched g c =
    let P : Option g.row.G-Value.Denot → Type 0 = λ v. IsTouched g.G.Group.Ord.cmp (groups_in g.G.Groups.groups_of c.args.key.now v) c.args.touched.now c.args.touched.now in
    subst P (sym (ap option_copied c.in-None.is) ∙ c.get.ensures.value) (touched_none g.met.G.Group.Ord.total c.args.touched.now)

pub returns-in_ok-left-in-Some-clause-marked : goal.returns-in_ok-left-in-Some-clause-marked
returns-in_ok-left-in-Some-clause-marked g c =
    let P : List g.row.G-Group.Denot → Type 0 = λ l. OnOk c.mark.result (IsMarkedAt g.G.Key.Ord.cmp g.G.Group.Ord.cmp l (c.args.key.now, Gone) c.args.marks.now c.mark.new.marks) in
    subst P (c.as_slice.ensures.value ∙ c.in_ok-left-in-Some.ensures ∙ ap (groups_in g.G.Groups.groups_of c.args.key.now) (sym (ap option_copied c.in-Some.is) ∙ c.get.ensures.value)) c.mark.ensures.marked

pub returns-in_ok-left-in-Some-clause-touched : goal.returns-in_ok-left-in-Some-clause-touched
returns-in_ok-left-in-Some-clause-touched g c =
    let P : List g.row.G-Group.Denot → Type 0 = λ l. OnOk c.mark.result (IsTouched g.G.Group.Ord.cmp l c.args.touched.now c.mark.new.touched) in
    subst P (c.as_slice.ensures.value ∙ c.in_ok-left-in-Some.ensures ∙ ap (groups_in g.G.Groups.groups_of c.args.key.now) (sym (ap option_copied c.in-Some.is) ∙ c.get.ensures.value)) c.mark.ensures.touched
