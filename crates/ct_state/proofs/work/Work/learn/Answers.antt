use Rattle.std.proofs.Common.{◌≡◌, ◌≤◌, ◌++◌, ◌∙◌, List, length, take, ap, subst, sym}
use Rattle.std.specs.List.{AllByRecursion}
use Rattle.ct_core.specs.declared.entry.Entry.{Entry}
use Rattle.ct_core.specs.declared.neighbour.Neighbour.{Neighbour}
use Rattle.ct_core.specs.Neighbours.{learnt}
use Rattle.ct_core.specs.State.{State}
use Rattle.ct_state.specs.Work.{before, unlearnt, unmarked}
use Rattle.ct_state.specs.inner.Noted.{IsWithin, known_as}
use Rattle.ct_state.proofs.Unlearnt.{learnt_back, no_fewer_either, still_back}
use Rattle.ct_state.proofs.work.Work.learn.Goals as goal

pub invariant_of-self-2 : goal.invariant_of-self-2
invariant_of-self-2 c =
    let nbrs : List Neighbour = c.self-inside.inside.0.0.nbrs in
    let began = c.self-inside.inside.0.1.0 in
    let known = c.self-inside.inside.0.1.1.0 in
    let marks = c.self-inside.inside.0.1.1.1.0.items in
    let held : (began ≤ length c.self-inside.inside.0.0.conns) × AllByRecursion (IsWithin began) marks × (known ≤ length nbrs) = subst (λ w. (w.began ≤ length w.state.conns) × AllByRecursion (IsWithin w.began) w.marks.items × (w.known ≤ length w.state.nbrs)) (sym c.self-inside.view_is) c.self.invariant in
    (held.0, held.1, no_fewer_either c.args.neighbour c.learn.result nbrs c.learn.new.self known c.learn.ensures.ok c.learn.ensures.err held.2)

pub returns-in_err-learn-clause-back : goal.returns-in_err-learn-clause-back
returns-in_err-learn-clause-back c =
    let conns : List Entry = c.self-inside.inside.0.0.conns in
    let nbrs : List Neighbour = c.self-inside.inside.0.0.nbrs in
    let began = c.self-inside.inside.0.1.0 in
    let known = c.self-inside.inside.0.1.1.0 in
    let marks = c.self-inside.inside.0.1.1.1.0.items in
    let olds : List Neighbour = c.self-inside.inside.0.1.1.1.1.0.items in
    let made : List Neighbour → List Neighbour → State = λ o l. record { conns = unmarked marks (take began conns); nbrs = unlearnt o (take known l) } in
    (λ i. made (c.in_ok-note_old.ensures.ok i) (c.in_err-learn.ensures.err i))
    ∙ ap (λ m. made (olds ++ known_as c.args.neighbour m) nbrs) c.find-old.ensures
    ∙ ap (λ (l : List Neighbour). record { conns = unmarked marks (take began conns); nbrs = l }) (still_back c.args.neighbour olds known nbrs)
    ∙ ap (λ w. before w.began w.known w.marks.items w.olds.items w.state) c.self-inside.view_is
    ∙ ap (λ v. v.back) c.self.view_is

pub returns-clause-back : goal.returns-clause-back
returns-clause-back c =
    let conns : List Entry = c.self-inside.inside.0.0.conns in
    let nbrs : List Neighbour = c.self-inside.inside.0.0.nbrs in
    let began = c.self-inside.inside.0.1.0 in
    let known = c.self-inside.inside.0.1.1.0 in
    let marks = c.self-inside.inside.0.1.1.1.0.items in
    let olds : List Neighbour = c.self-inside.inside.0.1.1.1.1.0.items in
    let made : List Neighbour → List Neighbour → State = λ o l. record { conns = unmarked marks (take began conns); nbrs = unlearnt o (take known l) } in
    let held : (began ≤ length conns) × AllByRecursion (IsWithin began) marks × (known ≤ length nbrs) = subst (λ w. (w.began ≤ length w.state.conns) × AllByRecursion (IsWithin w.began) w.marks.items × (w.known ≤ length w.state.nbrs)) (sym c.self-inside.view_is) c.self.invariant in
    (λ i. made (c.in_ok-note_old.ensures.ok i) (c.in_ok-learn.ensures.ok i))
    ∙ ap (λ m. made (olds ++ known_as c.args.neighbour m) (learnt c.args.neighbour nbrs)) c.find-old.ensures
    ∙ ap (λ (l : List Neighbour). record { conns = unmarked marks (take began conns); nbrs = l }) (learnt_back c.args.neighbour olds known nbrs held.2)
    ∙ ap (λ w. before w.began w.known w.marks.items w.olds.items w.state) c.self-inside.view_is
    ∙ ap (λ v. v.back) c.self.view_is
