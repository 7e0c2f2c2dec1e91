use Rattle.std.proofs.Common.{◌≡◌, ◌∙◌, List, sym, ap, subst, OnOk}
use Rattle.inc_table.specs.declared.delta.Change.{Change}
use Rattle.inc_table.specs.declared.delta.Change.TheVariants.{Put, Gone}
use Rattle.inc_table.specs.Delta.{left_by}
use Rattle.inc_group.specs.inner.Moves.{IsTold, groups_in}
use Rattle.inc_group.proofs.Moved.{told_none}
use Rattle.inc_group.proofs.grouping.enter.Goals as goal

pub returns-in-Gone : goal.returns-in-Gone
returns-in-Gone g c =
    let P : Change g.row.G-Value.Denot → Type 0 = λ d. IsTold g.G.Key.Ord.cmp g.G.Group.Ord.cmp (groups_in g.G.Groups.groups_of c.args.key.now (left_by d)) (c.args.key.now, d) c.args.moves.now c.args.moves.now in
    subst P (sym c.in-Gone.is) (told_none g.G.Key.Ord.cmp g.met.G.Group.Ord.total (c.args.key.now, Gone) c.args.moves.now)

pub returns-in_ok-entered-in-Put : goal.returns-in_ok-entered-in-Put
returns-in_ok-entered-in-Put g c =
    let Q : List g.row.G-Group.Denot → Type 0 = λ l. OnOk c.tell.result (IsTold g.G.Key.Ord.cmp g.G.Group.Ord.cmp l (c.args.key.now, c.args.change.now) c.args.moves.now c.tell.new.moves) in
    subst Q (c.as_slice.ensures.value ∙ c.in_ok-entered-in-Put.ensures ∙ sym (ap (λ (d : Change g.row.G-Value.Denot). groups_in g.G.Groups.groups_of c.args.key.now (left_by d)) c.in-Put.is)) c.tell.ensures
