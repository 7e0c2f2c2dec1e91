use Rattle.std.proofs.Common.{◌≡◌, ◌∙◌, true, is_some, ap, subst, sym}
use Rattle.std.proofs.lemmas.Bool.{true≢false}
use Rattle.ct_core.specs.Neighbours.{AreNeighbours, is_known, noted}
use Rattle.ct_nbrs.specs.declared.pair.Pair.{Pair}
use Rattle.ct_nbrs.specs.Held.{neighbours_of}
use Rattle.ct_nbrs.proofs.Back.{back_known, back_unknown, keeps_back}
use Rattle.ct_nbrs.proofs.Changed.{put, there}
use Rattle.ct_nbrs.proofs.nbrs.Neighbours.put_back.Goals as goal

pub invariant_of-self : goal.invariant_of-self
invariant_of-self c =
    let old = c.args.old in
    let pair : Pair = record { port = old.port; addr = old.addr } in
    let known : is_known old.port old.addr c.args.self.now ≡ true = sym c.knows.ensures ∙ c.if-knows.true in
    let noted_is = ap neighbours_of c.in-Ok.ensures.entries ∙ put pair old.mac c.self.inside.macs.entries ∙ ap (λ nbrs. noted old nbrs) c.self.view_is in
    subst AreNeighbours (sym noted_is) (keeps_back old c.args.self.now (subst AreNeighbours c.self.view_is c.self.invariant) c.fits.ensures known)

pub unreachable-requires : goal.unreachable-requires
unreachable-requires c =
    let old = c.args.old in
    let pair : Pair = record { port = old.port; addr = old.addr } in
    let known : is_known old.port old.addr c.args.self.now ≡ true = sym c.knows.ensures ∙ c.if-knows.true in
    true≢false (sym known ∙ ap (is_known old.port old.addr) (sym c.self.view_is) ∙ sym (there pair c.self.inside.macs.entries) ∙ ap is_some c.in-Err.ensures.absent)

pub returns-in-Ok : goal.returns-in-Ok
returns-in-Ok c =
    let old = c.args.old in
    let pair : Pair = record { port = old.port; addr = old.addr } in
    let known : is_known old.port old.addr c.args.self.now ≡ true = sym c.knows.ensures ∙ c.if-knows.true in
    ap neighbours_of c.in-Ok.ensures.entries ∙ put pair old.mac c.self.inside.macs.entries ∙ ap (λ nbrs. noted old nbrs) c.self.view_is ∙ back_known old c.args.self.now known

pub returns-else-knows : goal.returns-else-knows
returns-else-knows c = back_unknown c.args.old c.args.self.now (sym c.knows.ensures ∙ c.if-knows.false)
