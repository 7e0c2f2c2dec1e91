use Rattle.std.proofs.Common.{sym, ap, ◌∙◌}
use Rattle.std.specs.Ordering.{is_eq}
use Rattle.nv_map.proofs.Values.{exact_order}
use Rattle.inc_table.proofs.Sides.{not_taken, taken_rises, taken_below}
use Rattle.inc_table.proofs.ahead.Ahead.take.Goals as goal

pub returns-then-not-is_eq-clause-below : goal.returns-then-not-is_eq-clause-below
returns-then-not-is_eq-clause-below g c =
    not_taken g.met.K.Ord.total c.self.inside.entry c.self.inside.rest c.args.self.now (c.in-Some.found, c.in-Some.value) c.args.key.now c.in-Some.is c.self.view_is c.self.invariant c.requires (sym (c.is_eq.ensures ∙ ap is_eq c.cmp.ensures) ∙ c.if-not-is_eq.true)

pub invariant_of-self : goal.invariant_of-self
invariant_of-self g c = taken_rises g.met.K.Ord.total c.self.inside.entry c.self.inside.rest c.next-self-inside.new.self (c.in-Some.found, c.in-Some.value) c.next-self-inside.result c.in-Some.is c.self.invariant c.next-self-inside.ensures.steps

pub returns-else-not-is_eq-clause-below : goal.returns-else-not-is_eq-clause-below
returns-else-not-is_eq-clause-below g c =
    taken_below g.met.K.Ord.total (exact_order g.K.PartialEq.eq g.K.Ord.cmp g.met.K.Ord.matches_eq g.met.K.Kept.exact) c.self.inside.entry c.self.inside.rest c.next-self-inside.new.self (c.in-Some.found, c.in-Some.value) c.next-self-inside.result c.args.key.now c.in-Some.is c.self.invariant c.next-self-inside.ensures.steps
    (sym (c.is_eq.ensures ∙ ap is_eq c.cmp.ensures) ∙ c.if-not-is_eq.false)
