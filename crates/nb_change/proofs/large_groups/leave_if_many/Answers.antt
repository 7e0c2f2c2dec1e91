use Rattle.std.proofs.Common.{◌≡◌, ◌&&◌, Some, sym, ap, ◌∙◌, subst}
use Rattle.std.proofs.lemmas.Result.{on_ok_weaker}
use Rattle.std.specs.List.{list_any}
use Rattle.nb_records.specs.declared.sets.Group.{Group}
use Rattle.nb_records.specs.declared.switch.Port.{Port}
use Rattle.nb_model.specs.Effect.{without_ports}
use Rattle.nb_model.specs.Network.{Network, same}
use Rattle.nv_table.specs.Table.{NumbersRise, record_of}
use Rattle.nv_table.proofs.Undone.{rise_exchanged}
use Rattle.nb_change.proofs.ManyLeave.{parted, still_without}
use Rattle.nb_change.proofs.large_groups.leave_if_many.Goals as goal

pub returns-clause-same : goal.returns-clause-same
returns-clause-same c =
    let net : Network = c.args.work.now.records in
    let held : Group = c.in-Some.held.now in
    let found : Some held ≡ record_of (λ (x : Group). x.id) c.args.group net.groups = c.in-Some.ensures.record ∙ ap (record_of (λ (x : Group). x.id) c.args.group) c.groups.ensures in
    let new : Group = record { id = held.id; name = c.in_ok-copy.field-0; ports = c.in_ok-from_slice.field-0 } in
    let is : new ≡ parted (λ number. list_any (λ (port : Port). same port.id number && same c.args.switch port.switch) net.ports) held =
    λ i. record { id = held.id; name = c.in_ok-copy.ensures i; ports = (c.in_ok-from_slice.ensures ∙ c.deref.ensures.value ∙ c.in_ok-left.ensures) i } in
    on_ok_weaker c.store_group.result
    (λ e. ap (without_ports (λ port. same c.args.switch port.switch)) e ∙ still_without net c.args.switch c.args.group held new found c.requires.groups is) c.store_group.ensures.ok

pub returns-clause-groups : goal.returns-clause-groups
returns-clause-groups c =
    let new : Group = record { id = c.in-Some.held.now.id; name = c.in_ok-copy.field-0; ports = c.in_ok-from_slice.field-0 } in
    on_ok_weaker c.store_group.result
    (λ e. subst (λ (net : Network). NumbersRise (λ (x : Group). x.id) net.groups) (sym e) (rise_exchanged (λ (x : Group). x.id) new c.args.work.now.records.groups c.requires.groups))
    c.store_group.ensures.ok
