use Rattle.std.proofs.Common.{List, Option, Some, Bor, sym, ap, ◌∙◌}
use Rattle.std.specs.Option.{option_copied}
use Rattle.std.specs.Ordering.{is_lt}
use Rattle.nv_map.specs.Map.{entry_after}
use Rattle.inc_table.proofs.Gone.{first_within}
use Rattle.inc_table.proofs.owned.Owned.first_after.Goals as goal

pub returns-in-Some-clause-entry : goal.returns-in-Some-clause-entry
returns-in-Some-clause-entry g c =
    first_within (λ q. is_lt (g.K.Ord.cmp c.in-Some.key.now q)) c.self.inside.entries.entries c.range.result c.next-in-Some.new.self c.next-in-Some.result (c.range.ensures.between tt) c.next-in-Some.ensures.steps
    ∙ ap (λ (l : List (g.row.K.Denot × g.row.V.Denot)). entry_after g.K.Ord.cmp (option_copied (Some c.in-Some.key)) l) c.self.view_is
    ∙ ap (λ (k : Option (Bor g.row.K.Denot)). entry_after g.K.Ord.cmp (option_copied k) c.args.self.now) (sym c.in-Some.is)
