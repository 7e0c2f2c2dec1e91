use Rattle.std.proofs.Common.{◌≡◌, ◌∙◌, ◌≤◌, List, length, take, slice_get, Some, None, ap, sym, subst}
use Rattle.std.specs.List.{AllByRecursion}
use Rattle.ct_core.specs.declared.entry.Entry.{Entry}
use Rattle.ct_core.specs.declared.neighbour.Neighbour.{Neighbour}
use Rattle.ct_core.specs.State.{State}
use Rattle.ct_core.proofs.Changed.{length-marked}
use Rattle.ct_state.specs.Work.{before, unlearnt, unmarked}
use Rattle.ct_state.specs.inner.Noted.{IsWithin}
use Rattle.ct_state.proofs.Undone.{noted_back, noted_within, stays_nowhere, stays_own, there_within}
use Rattle.ct_state.proofs.work.Work.mark.Goals as goal

pub returns-in_default-clause-ok : goal.returns-in_default-clause-ok
returns-in_default-clause-ok c =
    let conns : List Entry = c.self-inside.inside.0.0.conns in
    let conns_is : conns ≡ c.args.self.now.state.conns = ap (λ w. w.state.conns) c.self-inside.view_is ∙ ap (λ v. v.state.conns) c.self.view_is in
    let nowhere : slice_get conns c.args.place ≡ None = sym c.entry.ensures ∙ c.in_default.is in
    stays_nowhere c.args.place c.args.blocked c.args.self.now.state (subst (λ l. slice_get l c.args.place ≡ None) conns_is nowhere)

pub returns-then-entry-blocked-clause-ok : goal.returns-then-entry-blocked-clause-ok
returns-then-entry-blocked-clause-ok c =
    let conns : List Entry = c.self-inside.inside.0.0.conns in
    let conns_is : conns ≡ c.args.self.now.state.conns = ap (λ w. w.state.conns) c.self-inside.view_is ∙ ap (λ v. v.state.conns) c.self.view_is in
    let there : slice_get conns c.args.place ≡ Some c.in-Some.entry = sym c.entry.ensures ∙ c.in-Some.is in
    stays_own c.args.place c.args.blocked c.args.self.now.state c.in-Some.entry (subst (λ l. slice_get l c.args.place ≡ Some c.in-Some.entry) conns_is there) c.if-entry-blocked.true

pub mark-requires : goal.mark-requires
mark-requires c =
    let conns : List Entry = c.self-inside.inside.0.0.conns in
    there_within conns c.args.place c.in-Some.entry (sym c.entry.ensures ∙ c.in-Some.is)

pub invariant_of-self-2 : goal.invariant_of-self-2
invariant_of-self-2 c =
    let conns : List Entry = c.self-inside.inside.0.0.conns in
    let began = c.self-inside.inside.0.1.0 in
    let known = c.self-inside.inside.0.1.1.0 in
    let marks = c.self-inside.inside.0.1.1.1.0.items in
    let held : (began ≤ length conns) × AllByRecursion (IsWithin began) marks × (known ≤ length c.self-inside.inside.0.0.nbrs) = subst (λ w. (w.began ≤ length w.state.conns) × AllByRecursion (IsWithin w.began) w.marks.items × (w.known ≤ length w.state.nbrs)) (sym c.self-inside.view_is) c.self.invariant in (
      subst (λ n. began ≤ n) (sym (ap length c.mark.ensures ∙ length-marked c.args.place c.args.blocked conns)) held.0,
      subst (AllByRecursion (IsWithin began)) (sym c.in_ok-note.ensures.ok) (noted_within began (record { place = c.args.place; blocked = c.in-Some.entry.blocked }) marks held.1),
      held.2,
    )

pub returns-clause-back : goal.returns-clause-back
returns-clause-back c =
    let conns : List Entry = c.self-inside.inside.0.0.conns in
    let nbrs : List Neighbour = c.self-inside.inside.0.0.nbrs in
    let began = c.self-inside.inside.0.1.0 in
    let known = c.self-inside.inside.0.1.1.0 in
    let marks = c.self-inside.inside.0.1.1.1.0.items in
    let olds = c.self-inside.inside.0.1.1.1.1.0.items in
    let with_nbrs : List Entry → State = λ l. record { conns = l; nbrs = unlearnt olds (take known nbrs) } in
    let there : slice_get conns c.args.place ≡ Some c.in-Some.entry = sym c.entry.ensures ∙ c.in-Some.is in
    (λ i. with_nbrs (unmarked (c.in_ok-note.ensures.ok i) (take began (c.mark.ensures i))))
    ∙ ap with_nbrs (noted_back began marks conns c.args.place c.args.blocked c.in-Some.entry there)
    ∙ ap (λ w. before w.began w.known w.marks.items w.olds.items w.state) c.self-inside.view_is
    ∙ ap (λ v. v.back) c.self.view_is
