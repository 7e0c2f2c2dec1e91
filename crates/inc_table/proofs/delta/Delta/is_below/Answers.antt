use Rattle.std.proofs.Common.{◌↔◌, IsTrue, List, true, ap, ◌∙◌, subst}
use Rattle.std.specs.Ordering.{is_lt}
use Rattle.inc_table.specs.declared.delta.Change.{Change}
use Rattle.inc_table.specs.Delta.{IsAbove}
use Rattle.inc_table.proofs.Ends.{fits_is, empty_fits}
use Rattle.inc_table.proofs.delta.Delta.is_below.Goals as goal

pub returns-in-None : goal.returns-in-None
returns-in-None g c =
    let P : List (g.row.K.Denot × Change g.row.V.Denot) → Type 0 = λ l. IsTrue true ↔ IsAbove g.K.Ord.cmp c.args.key.now l in
    subst P (c.deref.ensures.value ∙ c.self.view_is) (empty_fits g.K.Ord.cmp c.deref.result.now c.args.key.now c.in-None.ensures.value)

pub returns-in-Some : goal.returns-in-Some
returns-in-Some g c =
    let P : List (g.row.K.Denot × Change g.row.V.Denot) → Type 0 = λ l. IsTrue c.is_lt.result ↔ IsAbove g.K.Ord.cmp c.args.key.now l in
    subst P (c.deref.ensures.value ∙ c.self.view_is)
    (fits_is g.K.Ord.cmp g.met.K.Ord.total c.deref.result.now c.in-Some.last.now c.args.key.now c.is_lt.result (rw (← c.deref.ensures.value) at c.self.invariant) c.in-Some.ensures.value (c.is_lt.ensures ∙ ap is_lt c.cmp.ensures))
