use Rattle.std.proofs.Common.{◌≡◌, ◌+◌, false, ap, ◌∙◌, subst}
use Rattle.std.proofs.lemmas.Result.{on_ok_weaker}
use Rattle.nb_records.specs.declared.switch.Switch.{Switch}
use Rattle.nb_model.specs.Effect.{without}
use Rattle.nb_model.specs.Network.{same}
use Rattle.nv_table.specs.Table.{NumbersRise, record_of}
use Rattle.nb_store.proofs.OneNumber.{less_once}
use Rattle.nb_store.proofs.Relisted.{no_switch, switch_stored, switch_fits, switch_swaps}
use Rattle.nb_store.proofs.work.Work.unlist_on_switch.Goals as goal

pub returns-in_default-clause-ok : goal.returns-in_default-clause-ok
returns-in_default-clause-ok c =
    no_switch c.args.self.now.records c.args.switch (without (same c.args.lb)) (c.in_default.ensures.record ∙ ap (record_of (λ (x : Switch). x.id) c.args.switch) c.switches.ensures)

pub swap-requires : goal.swap-requires
swap-requires c =
    let held : Switch = c.in-Some.held.now in
    let found = c.in-Some.ensures.record ∙ ap (record_of (λ (x : Switch). x.id) c.args.switch) c.switches.ensures in
    let rise = subst (NumbersRise (λ (x : Switch). x.id)) c.switches.ensures c.in-Some.ensures.rise in
    let left : Switch = record { id = held.id; name = c.in_ok-copy.field-0; lbs = c.in_ok-lbs.lbs } in
    let is : left ≡ record held { lbs = without (same c.args.lb) held.lbs } = λ i. record { id = held.id; name = c.in_ok-copy.ensures i; lbs = (c.in_ok-lbs.ensures.left ∙ ap (without (same c.args.lb)) c.as_slice.ensures) i } in
    switch_fits c.args.self.now.records c.args.switch (without (same c.args.lb)) held found rise left is c.shorter.result (c.in-Some-only.at + 1) false c.shorter.ensures
    (less_once c.args.lb held.lbs c.in-Some-only.at (rw (c.in-Some-only.is, c.as_slice.ensures) at c.in_ok-lbs.ensures.only) held.name)

pub returns-in-Some-only-clause-ok : goal.returns-in-Some-only-clause-ok
returns-in-Some-only-clause-ok c =
    let held : Switch = c.in-Some.held.now in
    let found = c.in-Some.ensures.record ∙ ap (record_of (λ (x : Switch). x.id) c.args.switch) c.switches.ensures in
    let rise = subst (NumbersRise (λ (x : Switch). x.id)) c.switches.ensures c.in-Some.ensures.rise in
    let left : Switch = record { id = held.id; name = c.in_ok-copy.field-0; lbs = c.in_ok-lbs.lbs } in
    let is : left ≡ record held { lbs = without (same c.args.lb) held.lbs } = λ i. record { id = held.id; name = c.in_ok-copy.ensures i; lbs = (c.in_ok-lbs.ensures.left ∙ ap (without (same c.args.lb)) c.as_slice.ensures) i } in
    on_ok_weaker c.swap.result (λ e. e
    ∙ switch_swaps c.args.self.now.records c.args.switch (without (same c.args.lb)) held found rise left is c.shorter.result (c.in-Some-only.at + 1) false c.shorter.ensures
    (less_once c.args.lb held.lbs c.in-Some-only.at (rw (c.in-Some-only.is, c.as_slice.ensures) at c.in_ok-lbs.ensures.only) held.name)) c.swap.ensures.ok

pub returns-in-None-clause-ok : goal.returns-in-None-clause-ok
returns-in-None-clause-ok c =
    let held : Switch = c.in-Some.held.now in
    let found = c.in-Some.ensures.record ∙ ap (record_of (λ (x : Switch). x.id) c.args.switch) c.switches.ensures in
    let rise = subst (NumbersRise (λ (x : Switch). x.id)) c.switches.ensures c.in-Some.ensures.rise in
    let left : Switch = record { id = held.id; name = c.in_ok-copy.field-0; lbs = c.in_ok-lbs.lbs } in
    let is : left ≡ record held { lbs = without (same c.args.lb) held.lbs } = λ i. record { id = held.id; name = c.in_ok-copy.ensures i; lbs = (c.in_ok-lbs.ensures.left ∙ ap (without (same c.args.lb)) c.as_slice.ensures) i } in
    on_ok_weaker c.store_switch.result (λ e. e ∙ switch_stored c.args.self.now.records c.args.switch (without (same c.args.lb)) held found rise left is) c.store_switch.ensures.ok
