use Rattle.std.proofs.Common.{sym, ap, ◌∙◌, ◌&&◌, refl}
use Rattle.nb_records.specs.declared.switch.Port.{Port}
use Rattle.nb_model.specs.Network.{same}
use Rattle.nv_table.specs.Table.{is_after}
use Rattle.nb_store.proofs.PlacedRecords.{rises}
use Rattle.nb_store.proofs.Peering.{found_is_record}
use Rattle.nb_limits.specs.inner.Within.{up_to}
use Rattle.nb_limits.proofs.Beside.{pairs_at, all_beside}
use Rattle.nb_limits.proofs.Rest.{next_rest, no_rest}
use Rattle.nb_limits.proofs.Sums.{fewer, told, sum_begins, sum_goes_on, sum_over, part_over, sum_ends}
use Rattle.nb_limits.proofs.neighbour_limits.neighbours_beside.Goals as goal

pub neighbours_at-requires : goal.neighbours_at-requires
neighbours_at-requires c = record {
  there = found_is_record (λ (port : Port). port.id) (λ port. is_after c.loop-port.after port.id && same c.args.peer.now.switch port.switch) c.args.records.now.ports c.in-Some.port.now
      (rises (λ (port : Port). port.id) c.args.records.now.ports c.requires.limitless.numbered.order.ports) (sym c.in-Some.ensures);
  rise = rises (λ (port : Port). port.id) c.args.records.now.ports c.requires.limitless.numbered.order.ports;
}

pub loop-port-smaller : goal.loop-port-smaller
loop-port-smaller c = fewer _ _ c.in-Some.port.now (next_rest (λ (port : Port). port.id) (λ port. same c.args.peer.now.switch port.switch) c.loop-port.after c.in-Some.port.now c.args.records.now.ports (rises (λ (port : Port). port.id) c.args.records.now.ports c.requires.limitless.numbered.order.ports) (sym c.in-Some.ensures))

pub loop-port-init : goal.loop-port-init
loop-port-init c = sum_begins (pairs_at c.args.records.now c.args.peer.now) c.args.bound _ _ refl

pub loop-port-preserved : goal.loop-port-preserved
loop-port-preserved c =
    sum_goes_on _ _ _ _ _ c.loop-port.invariant c.in-Some.port.now _
    (next_rest (λ (port : Port). port.id) (λ port. same c.args.peer.now.switch port.switch) c.loop-port.after c.in-Some.port.now c.args.records.now.ports (rises (λ (port : Port). port.id) c.args.records.now.ports c.requires.limitless.numbered.order.ports) (sym c.in-Some.ensures))
    c.in_ok-more.more c.in_ok-sum.sum (told _ _ _ c.in_ok-more.ensures).0 c.in_ok-sum.ensures

pub returns-in_err-more : goal.returns-in_err-more
returns-in_err-more c =
    c.from_residual.ensures
    ∙ sym (part_over _ _ _ _ _ c.loop-port.invariant c.in-Some.port.now _
    (next_rest (λ (port : Port). port.id) (λ port. same c.args.peer.now.switch port.switch) c.loop-port.after c.in-Some.port.now c.args.records.now.ports (rises (λ (port : Port). port.id) c.args.records.now.ports c.requires.limitless.numbered.order.ports) (sym c.in-Some.ensures))
    c.in_err-more.ensures)
    ∙ ap (up_to c.args.bound) (all_beside c.args.records.now c.args.peer.now)

pub returns-in_err-sum : goal.returns-in_err-sum
returns-in_err-sum c =
    c.from_residual-in_err-sum.ensures
    ∙ sym (sum_over _ _ _ _ _ c.loop-port.invariant c.in-Some.port.now _
    (next_rest (λ (port : Port). port.id) (λ port. same c.args.peer.now.switch port.switch) c.loop-port.after c.in-Some.port.now c.args.records.now.ports (rises (λ (port : Port). port.id) c.args.records.now.ports c.requires.limitless.numbered.order.ports) (sym c.in-Some.ensures))
    c.in_ok-more.more (told _ _ _ c.in_ok-more.ensures).0 c.in_err-sum.ensures)
    ∙ ap (up_to c.args.bound) (all_beside c.args.records.now c.args.peer.now)

pub returns : goal.returns
returns c =
    sym (sum_ends _ _ _ _ _ c.loop-port.invariant (no_rest (λ (port : Port). port.id) (λ port. same c.args.peer.now.switch port.switch) c.loop-port.after c.args.records.now.ports (sym c.in_default.ensures)))
    ∙ ap (up_to c.args.bound) (all_beside c.args.records.now c.args.peer.now)
