use Rattle.std.proofs.Common.{◌≡◌, ◌∙◌, ◌||◌, nat_lt, true, length, ap, subst, sym}
use Rattle.ct_core.specs.Neighbours.{AreNeighbours, is_known, neighbour_limit, noted}
use Rattle.ct_core.proofs.Learnt.{keeps_learnt}
use Rattle.ct_nbrs.specs.declared.pair.Pair.{Pair}
use Rattle.ct_nbrs.specs.Held.{neighbours_of}
use Rattle.ct_nbrs.proofs.Changed.{learnt_none, learnt_place, put}
use Rattle.ct_nbrs.proofs.nbrs.Neighbours.learn.Goals as goal

pub invariant_of-self : goal.invariant_of-self
invariant_of-self c =
    let n = c.args.neighbour in
    let pair : Pair = record { port = n.port; addr = n.addr } in
    let old = c.args.self.now in
    let place : (is_known n.port n.addr old || nat_lt (length old) neighbour_limit) ≡ true = sym c.has_place.ensures ∙ c.if-has_place.true in
    let learned = ap neighbours_of c.in_ok-insert.ensures.entries ∙ put pair n.mac c.self.inside.macs.entries ∙ ap (λ nbrs. noted n nbrs) c.self.view_is ∙ learnt_place n old place in
    subst AreNeighbours (sym learned) (keeps_learnt n old (subst AreNeighbours c.self.view_is c.self.invariant) c.fits.ensures)

pub returns-in_ok-insert-clause-ok : goal.returns-in_ok-insert-clause-ok
returns-in_ok-insert-clause-ok c =
    let n = c.args.neighbour in
    let pair : Pair = record { port = n.port; addr = n.addr } in
    let old = c.args.self.now in
    let place : (is_known n.port n.addr old || nat_lt (length old) neighbour_limit) ≡ true = sym c.has_place.ensures ∙ c.if-has_place.true in
    ap neighbours_of c.in_ok-insert.ensures.entries ∙ put pair n.mac c.self.inside.macs.entries ∙ ap (λ nbrs. noted n nbrs) c.self.view_is ∙ learnt_place n old place

pub returns-else-has_place-clause-ok : goal.returns-else-has_place-clause-ok
returns-else-has_place-clause-ok c = learnt_none c.args.neighbour c.args.self.now (sym c.has_place.ensures ∙ c.if-has_place.false)
