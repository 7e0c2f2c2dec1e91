use Rattle.std.proofs.Common.{arith, sym, ap, ◌∙◌, ◌&&◌, refl}
use Rattle.std.specs.Prelude.{filter}
use Rattle.nb_records.specs.declared.switch.Port.{Port}
use Rattle.nb_model.specs.Amounts.{total}
use Rattle.nb_model.specs.Network.{same}
use Rattle.nv_table.specs.Table.{is_after}
use Rattle.nb_store.proofs.Peering.{found_is_record}
use Rattle.nb_limits.specs.inner.Across.{known_at}
use Rattle.nb_limits.specs.inner.Within.{up_to}
use Rattle.nb_limits.proofs.Neighbours.{no_peer_knows, ports_rise}
use Rattle.nb_limits.proofs.Rest.{next_rest, no_rest}
use Rattle.nb_limits.proofs.Sums.{fewer, told, sum_begins, sum_goes_on, sum_over, part_over, sum_ends, within}
use Rattle.nb_limits.proofs.neighbour_limits.neighbours_on.Goals as goal

pub known_at-requires : goal.known_at-requires
known_at-requires c = record {
  there = found_is_record (λ (port : Port). port.id) (λ port. is_after c.loop-port.after port.id && same c.args.switch port.switch) c.args.records.now.ports c.in-Some.port.now
      (ports_rise c.args.records.now c.requires.limitless) (sym c.in-Some.ensures);
  rise = ports_rise c.args.records.now c.requires.limitless;
}

pub loop-port-smaller : goal.loop-port-smaller
loop-port-smaller c = fewer _ _ c.in-Some.port.now (next_rest (λ (port : Port). port.id) (λ port. same c.args.switch port.switch) c.loop-port.after c.in-Some.port.now c.args.records.now.ports (ports_rise c.args.records.now c.requires.limitless) (sym c.in-Some.ensures))

pub loop-port-init : goal.loop-port-init
loop-port-init c = sum_begins (known_at c.args.records.now c.peers_on-peers.result) c.args.bound _ _ refl

pub loop-port-preserved : goal.loop-port-preserved
loop-port-preserved c =
    sum_goes_on _ _ _ _ _ c.loop-port.invariant c.in-Some.port.now _
    (next_rest (λ (port : Port). port.id) (λ port. same c.args.switch port.switch) c.loop-port.after c.in-Some.port.now c.args.records.now.ports (ports_rise c.args.records.now c.requires.limitless) (sym c.in-Some.ensures))
    c.in_ok-more.more c.in_ok-sum.sum (told _ _ _ c.in_ok-more.ensures).0 c.in_ok-sum.ensures

pub returns-in_err-more : goal.returns-in_err-more
returns-in_err-more c =
    c.from_residual.ensures
    ∙ sym (part_over _ _ _ _ _ c.loop-port.invariant c.in-Some.port.now _
    (next_rest (λ (port : Port). port.id) (λ port. same c.args.switch port.switch) c.loop-port.after c.in-Some.port.now c.args.records.now.ports (ports_rise c.args.records.now c.requires.limitless) (sym c.in-Some.ensures))
    c.in_err-more.ensures)
    ∙ ap (λ n. up_to c.args.bound (total (known_at c.args.records.now n) (filter (λ port. same c.args.switch port.switch) c.args.records.now.ports))) c.peers_on-peers.ensures

pub returns-in_err-sum : goal.returns-in_err-sum
returns-in_err-sum c =
    c.from_residual-in_err-sum.ensures
    ∙ sym (sum_over _ _ _ _ _ c.loop-port.invariant c.in-Some.port.now _
    (next_rest (λ (port : Port). port.id) (λ port. same c.args.switch port.switch) c.loop-port.after c.in-Some.port.now c.args.records.now.ports (ports_rise c.args.records.now c.requires.limitless) (sym c.in-Some.ensures))
    c.in_ok-more.more (told _ _ _ c.in_ok-more.ensures).0 c.in_err-sum.ensures)
    ∙ ap (λ n. up_to c.args.bound (total (known_at c.args.records.now n) (filter (λ port. same c.args.switch port.switch) c.args.records.now.ports))) c.peers_on-peers.ensures

pub returns : goal.returns
returns c =
    sym (sum_ends _ _ _ _ _ c.loop-port.invariant (no_rest (λ (port : Port). port.id) (λ port. same c.args.switch port.switch) c.loop-port.after c.args.records.now.ports (sym c.in_default.ensures)))
    ∙ ap (λ n. up_to c.args.bound (total (known_at c.args.records.now n) (filter (λ port. same c.args.switch port.switch) c.args.records.now.ports))) c.peers_on-peers.ensures

pub returns-then-peers-eq0 : goal.returns-then-peers-eq0
returns-then-peers-eq0 c =
    sym (ap (λ n. up_to c.args.bound (total (known_at c.args.records.now n) (filter (λ port. same c.args.switch port.switch) c.args.records.now.ports))) (sym c.peers_on-peers.ensures)
    ∙ ap (up_to c.args.bound) (no_peer_knows c.args.records.now c.requires.limitless c.peers_on-peers.result c.if-peers-eq0.true (filter (λ port. same c.args.switch port.switch) c.args.records.now.ports))
    ∙ within c.args.bound 0 (omega arith))
