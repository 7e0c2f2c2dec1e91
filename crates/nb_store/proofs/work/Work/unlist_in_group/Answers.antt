use Rattle.std.proofs.Common.{◌≡◌, ◌+◌, false, ap, ◌∙◌, subst}
use Rattle.std.proofs.lemmas.Result.{on_ok_weaker}
use Rattle.nb_records.specs.declared.sets.Group.{Group}
use Rattle.nb_model.specs.Effect.{without}
use Rattle.nb_model.specs.Network.{same}
use Rattle.nv_table.specs.Table.{NumbersRise, record_of}
use Rattle.nb_store.proofs.OneNumber.{less_once}
use Rattle.nb_store.proofs.Relisted.{no_group, group_stored, group_fits, group_swaps}
use Rattle.nb_store.proofs.work.Work.unlist_in_group.Goals as goal

pub returns-in_default-clause-ok : goal.returns-in_default-clause-ok
returns-in_default-clause-ok c =
    no_group c.args.self.now.records c.args.group (without (same c.args.port)) (c.in_default.ensures.record ∙ ap (record_of (λ (x : Group). x.id) c.args.group) c.groups.ensures)

pub swap-requires : goal.swap-requires
swap-requires c =
    let held : Group = c.in-Some.held.now in
    let found = c.in-Some.ensures.record ∙ ap (record_of (λ (x : Group). x.id) c.args.group) c.groups.ensures in
    let rise = subst (NumbersRise (λ (x : Group). x.id)) c.groups.ensures c.in-Some.ensures.rise in
    let left : Group = record { id = held.id; name = c.in_ok-copy.field-0; ports = c.in_ok-ports.ports } in
    let is : left ≡ record held { ports = without (same c.args.port) held.ports } = λ i. record { id = held.id; name = c.in_ok-copy.ensures i; ports = c.in_ok-ports.ensures.left i } in
    group_fits c.args.self.now.records c.args.group (without (same c.args.port)) held found rise left is c.shorter.result (c.in-Some-only.at + 1) false c.shorter.ensures
    (less_once c.args.port held.ports c.in-Some-only.at (rw (c.in-Some-only.is) at c.in_ok-ports.ensures.only) held.name)

pub returns-in-Some-only-clause-ok : goal.returns-in-Some-only-clause-ok
returns-in-Some-only-clause-ok c =
    let held : Group = c.in-Some.held.now in
    let found = c.in-Some.ensures.record ∙ ap (record_of (λ (x : Group). x.id) c.args.group) c.groups.ensures in
    let rise = subst (NumbersRise (λ (x : Group). x.id)) c.groups.ensures c.in-Some.ensures.rise in
    let left : Group = record { id = held.id; name = c.in_ok-copy.field-0; ports = c.in_ok-ports.ports } in
    let is : left ≡ record held { ports = without (same c.args.port) held.ports } = λ i. record { id = held.id; name = c.in_ok-copy.ensures i; ports = c.in_ok-ports.ensures.left i } in
    on_ok_weaker c.swap.result (λ e. e
    ∙ group_swaps c.args.self.now.records c.args.group (without (same c.args.port)) held found rise left is c.shorter.result (c.in-Some-only.at + 1) false c.shorter.ensures
    (less_once c.args.port held.ports c.in-Some-only.at (rw (c.in-Some-only.is) at c.in_ok-ports.ensures.only) held.name)) c.swap.ensures.ok

pub returns-in-None-clause-ok : goal.returns-in-None-clause-ok
returns-in-None-clause-ok c =
    let held : Group = c.in-Some.held.now in
    let found = c.in-Some.ensures.record ∙ ap (record_of (λ (x : Group). x.id) c.args.group) c.groups.ensures in
    let rise = subst (NumbersRise (λ (x : Group). x.id)) c.groups.ensures c.in-Some.ensures.rise in
    let left : Group = record { id = held.id; name = c.in_ok-copy.field-0; ports = c.in_ok-ports.ports } in
    let is : left ≡ record held { ports = without (same c.args.port) held.ports } = λ i. record { id = held.id; name = c.in_ok-copy.ensures i; ports = c.in_ok-ports.ensures.left i } in
    on_ok_weaker c.store_group.result (λ e. e ∙ group_stored c.args.self.now.records c.args.group (without (same c.args.port)) held found rise left is) c.store_group.ensures.ok
