use Rattle.std.proofs.Common.{◌≡◌, ◌∙◌, List, Option, sym, ap, subst, OnOk}
use Rattle.std.specs.Option.{option_copied}
use Rattle.nv_map.specs.Map.{value_at}
use Rattle.inc_table.specs.declared.delta.Change.TheVariants.{Gone}
use Rattle.inc_group.specs.inner.Moves.{IsTold, groups_in}
use Rattle.inc_group.proofs.Moved.{told_none}
use Rattle.inc_group.proofs.grouping.leave.Goals as goal

pub returns-in-None : goal.returns-in-None
returns-in-None g c =
    let P : Option g.row.G-Value.Denot → Type 0 = λ v. IsTold g.G.Key.Ord.cmp g.G.Group.Ord.cmp (groups_in g.G.Groups.groups_of c.args.key.now v) (c.args.key.now, Gone) c.args.moves.now c.args.moves.now in
    subst P (sym (ap option_copied c.in-None.is) ∙ c.get.ensures.value) (told_none g.G.Key.Ord.cmp g.met.G.Group.Ord.total (c.args.key.now, Gone) c.args.moves.now)

pub returns-in_ok-left-in-Some : goal.returns-in_ok-left-in-Some
returns-in_ok-left-in-Some g c =
    let P : List g.row.G-Group.Denot → Type 0 = λ l. OnOk c.tell.result (IsTold g.G.Key.Ord.cmp g.G.Group.Ord.cmp l (c.args.key.now, Gone) c.args.moves.now c.tell.new.moves) in
    subst P (c.as_slice.ensures.value ∙ c.in_ok-left-in-Some.ensures ∙ ap (groups_in g.G.Groups.groups_of c.args.key.now) (sym (ap option_copied c.in-Some.is) ∙ c.get.ensures.value)) c.tell.ensures
