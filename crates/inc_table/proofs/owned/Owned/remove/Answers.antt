use Rattle.std.proofs.Common.{List, ap, ◌∙◌, subst}
use Rattle.nv_map.specs.Map.{KeysRise, without_key}
use Rattle.inc_table.proofs.Applied.{applied_taken}
use Rattle.inc_table.proofs.owned.Owned.remove.Goals as goal

pub returns-clause-applied : goal.returns-clause-applied
returns-clause-applied g c =
    let P : List (g.row.K.Denot × g.row.V.Denot) → Type 0 = λ l. KeysRise g.K.Ord.cmp l in
    applied_taken g.met.K.Ord.total c.args.key.now c.args.self.now c.remove.new.self.entries (subst P c.self.view_is c.self.invariant)
    (c.remove.ensures.entries ∙ ap (λ (l : List (g.row.K.Denot × g.row.V.Denot)). without_key g.K.Ord.cmp c.args.key.now l) c.self.view_is)
