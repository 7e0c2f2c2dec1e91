use Rattle.std.proofs.Common.{◌≡◌, ◌+◌, true, false, [], ◌∷◌, ◌++◌, length, ap, sym, ◌∙◌, subst}
use Rattle.std.proofs.lemmas.Result.{on_ok_weaker}
use Rattle.nb_records.specs.Longer.{named_longer}
use Rattle.nb_records.specs.declared.switch.Switch.{Switch}
use Rattle.nb_model.specs.Belongs.{is_among}
use Rattle.nb_model.specs.Effect.{with_number}
use Rattle.nv_table.specs.Table.{NumbersRise, record_of}
use Rattle.nb_store.proofs.OneNumber.{more_once, put_last, there_already}
use Rattle.nb_store.proofs.Relisted.{no_switch, switch_stays, switch_fits, switch_swaps}
use Rattle.nb_store.proofs.work.Work.list_on_switch.Goals as goal

pub returns-in_default-clause-ok : goal.returns-in_default-clause-ok
returns-in_default-clause-ok c =
    no_switch c.args.self.now.records c.args.switch (with_number c.args.lb) (c.in_default.ensures.record ∙ ap (record_of (λ (x : Switch). x.id) c.args.switch) c.switches.ensures)

pub returns-then-is_among-clause-ok : goal.returns-then-is_among-clause-ok
returns-then-is_among-clause-ok c =
    let held : Switch = c.in-Some.held.now in
    let found = c.in-Some.ensures.record ∙ ap (record_of (λ (x : Switch). x.id) c.args.switch) c.switches.ensures in
    let rise = subst (NumbersRise (λ (x : Switch). x.id)) c.switches.ensures c.in-Some.ensures.rise in
    switch_stays c.args.self.now.records c.args.switch (with_number c.args.lb) held found rise
    (there_already c.args.lb held.lbs (ap (is_among c.args.lb) (sym c.as_slice-listed.ensures) ∙ sym c.is_among.ensures ∙ c.if-is_among.true))

pub swap-requires : goal.swap-requires
swap-requires c =
    let held : Switch = c.in-Some.held.now in
    let found = c.in-Some.ensures.record ∙ ap (record_of (λ (x : Switch). x.id) c.args.switch) c.switches.ensures in
    let rise = subst (NumbersRise (λ (x : Switch). x.id)) c.switches.ensures c.in-Some.ensures.rise in
    let new : is_among c.args.lb held.lbs ≡ false = ap (is_among c.args.lb) (sym c.as_slice-listed.ensures) ∙ sym c.is_among.ensures ∙ c.if-is_among.false in
    let longer : Switch = record { id = held.id; name = c.in_ok-copy.field-0; lbs = c.in_ok-with_last.field-0 } in
    let is : longer ≡ record held { lbs = with_number c.args.lb held.lbs } = λ i. record { id = held.id; name = c.in_ok-copy.ensures i; lbs = (c.in_ok-with_last.ensures ∙ ap (λ l. l ++ c.args.lb ∷ []) c.as_slice-listed.ensures ∙ sym (put_last c.args.lb held.lbs new)) i } in
    switch_fits c.args.self.now.records c.args.switch (with_number c.args.lb) held found rise longer is c.in_ok-lean.lean (length c.as_slice-listed.result.now + 1) true c.in_ok-lean.ensures
    (ap (λ l. named_longer held.name (with_number c.args.lb held.lbs) held.name held.lbs (length l + 1)) c.as_slice-listed.ensures ∙ more_once held.name held.lbs c.args.lb new)

pub returns-clause-ok : goal.returns-clause-ok
returns-clause-ok c =
    let held : Switch = c.in-Some.held.now in
    let found = c.in-Some.ensures.record ∙ ap (record_of (λ (x : Switch). x.id) c.args.switch) c.switches.ensures in
    let rise = subst (NumbersRise (λ (x : Switch). x.id)) c.switches.ensures c.in-Some.ensures.rise in
    let new : is_among c.args.lb held.lbs ≡ false = ap (is_among c.args.lb) (sym c.as_slice-listed.ensures) ∙ sym c.is_among.ensures ∙ c.if-is_among.false in
    let longer : Switch = record { id = held.id; name = c.in_ok-copy.field-0; lbs = c.in_ok-with_last.field-0 } in
    let is : longer ≡ record held { lbs = with_number c.args.lb held.lbs } = λ i. record { id = held.id; name = c.in_ok-copy.ensures i; lbs = (c.in_ok-with_last.ensures ∙ ap (λ l. l ++ c.args.lb ∷ []) c.as_slice-listed.ensures ∙ sym (put_last c.args.lb held.lbs new)) i } in
    on_ok_weaker c.swap.result (λ e. e
    ∙ switch_swaps c.args.self.now.records c.args.switch (with_number c.args.lb) held found rise longer is c.in_ok-lean.lean (length c.as_slice-listed.result.now + 1) true c.in_ok-lean.ensures
    (ap (λ l. named_longer held.name (with_number c.args.lb held.lbs) held.name held.lbs (length l + 1)) c.as_slice-listed.ensures ∙ more_once held.name held.lbs c.args.lb new)) c.swap.ensures.ok
