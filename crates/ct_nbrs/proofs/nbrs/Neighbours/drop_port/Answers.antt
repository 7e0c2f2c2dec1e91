use Rattle.std.proofs.Common.{◌≡◌, ◌==◌, ◌∙◌, not, filter, rules, ap, subst, sym}
use Rattle.indexmap.proofs.CallerLemmas.{filter-RetainsPairs}
use Rattle.ct_core.specs.Neighbours.{AreNeighbours, without_port}
use Rattle.ct_core.proofs.Learnt.{keeps_without}
use Rattle.ct_nbrs.specs.Held.{neighbours_of}
use Rattle.ct_nbrs.proofs.Changed.{left}
use Rattle.ct_nbrs.proofs.nbrs.Neighbours.drop_port.Goals as goal

pub invariant_of-self : goal.invariant_of-self
invariant_of-self c =
    let port = c.args.port in
    let entries = c.self.inside.macs.entries in
    let kept : c.retain.new.self.entries ≡ filter (λ e. not (e.0.port.0 == port.0)) entries = filter-RetainsPairs _ _ _ (λ k v b w g call. search rules) _ _ c.retain.ensures.filtered in
    subst AreNeighbours (sym (ap neighbours_of kept ∙ left port entries)) (keeps_without port (neighbours_of entries) c.self.invariant)

pub returns : goal.returns
returns c =
    let port = c.args.port in
    let entries = c.self.inside.macs.entries in
    let kept : c.retain.new.self.entries ≡ filter (λ e. not (e.0.port.0 == port.0)) entries = filter-RetainsPairs _ _ _ (λ k v b w g call. search rules) _ _ c.retain.ensures.filtered in
    ap neighbours_of kept ∙ left port entries ∙ ap (without_port port) c.self.view_is
