use Rattle.std.proofs.Common.{◌≡◌, ◌+◌, ℕ, List, ◌∷◌, arith, sym, ap, ◌∙◌, ◌&&◌, length}
use Rattle.nb_records.specs.declared.router.RouterPort.{RouterPort}
use Rattle.nb_records.specs.declared.switch.Port.{Port}
use Rattle.nb_model.specs.Amounts.{total}
use Rattle.nb_model.specs.Network.{same}
use Rattle.nb_model.proofs.Totals.{total_cons}
use Rattle.nv_table.specs.Table.{is_after}
use Rattle.nb_store.proofs.Peering.{found_is_record}
use Rattle.nb_limits.specs.inner.Across.{peered, peers_on}
use Rattle.nb_limits.proofs.Neighbours.{ports_rise, peers_few}
use Rattle.nb_limits.proofs.Rest.{next_rest, no_rest}
use Rattle.nb_limits.proofs.Sums.{fewer}
use Rattle.nb_limits.proofs.neighbour_limits.peers_on.Goals as goal

pub peered-count-requires : goal.peered-count-requires
peered-count-requires c = record {
  there = found_is_record (λ (port : Port). port.id) (λ port. is_after c.loop-port.after port.id && same c.args.switch port.switch) c.args.records.now.ports c.in-Some.port.now
      (ports_rise c.args.records.now c.requires.limitless) (sym c.in-Some.ensures);
  rise = ports_rise c.args.records.now c.requires.limitless;
}

-- one port more
counted : (f : Port → ℕ) (n m whole : ℕ) (left after : List Port) (port : Port) → n + total f left ≡ whole → left ≡ port ∷ after → m ≡ f port → (n + m) + total f after ≡ whole
counted f n m whole left after port so_far next is = step n (f port) (total f after) m whole (ap (λ k. n + k) (sym (total_cons f port after)) ∙ ap (λ (l : List Port). n + total f l) (sym next) ∙ so_far) is
  where
    step : (n a b m w : ℕ) → n + (a + b) ≡ w → m ≡ a → (n + m) + b ≡ w
    step n a b m w e is = omega (arith, e, is)

pub loop-port-smaller : goal.loop-port-smaller
loop-port-smaller c = fewer _ _ c.in-Some.port.now (next_rest (λ (port : Port). port.id) (λ port. same c.args.switch port.switch) c.loop-port.after c.in-Some.port.now c.args.records.now.ports (ports_rise c.args.records.now c.requires.limitless) (sym c.in-Some.ensures))

pub loop-port-init : goal.loop-port-init
loop-port-init c = none (peers_on c.args.records.now c.args.switch)
  where
    none : (n : ℕ) → 0 + n ≡ n
    none n = omega arith

pub overflow_add-count : goal.overflow_add-count
overflow_add-count c =
    let more = counted (peered c.args.records.now) _ _ _ _ _ c.in-Some.port.now c.loop-port.invariant
    (next_rest (λ (port : Port). port.id) (λ port. same c.args.switch port.switch) c.loop-port.after c.in-Some.port.now c.args.records.now.ports (ports_rise c.args.records.now c.requires.limitless) (sym c.in-Some.ensures)) c.peered-count.ensures in
    let few = peers_few c.args.records.now c.requires.limitless c.args.switch in
    omega (arith, more, few, c.count-most.ensures, ap (λ (l : List RouterPort). length l) c.router_ports.ensures)

pub loop-port-preserved : goal.loop-port-preserved
loop-port-preserved c =
    counted (peered c.args.records.now) _ _ _ _ _ c.in-Some.port.now c.loop-port.invariant
    (next_rest (λ (port : Port). port.id) (λ port. same c.args.switch port.switch) c.loop-port.after c.in-Some.port.now c.args.records.now.ports (ports_rise c.args.records.now c.requires.limitless) (sym c.in-Some.ensures)) c.peered-count.ensures

pub returns : goal.returns
returns c =
    all c.loop-port.count
    ∙ ap (λ (l : List Port). c.loop-port.count + total (peered c.args.records.now) l) (sym (no_rest (λ (port : Port). port.id) (λ port. same c.args.switch port.switch) c.loop-port.after c.args.records.now.ports (sym c.in_default.ensures)))
    ∙ c.loop-port.invariant
  where
    all : (n : ℕ) → n ≡ n + 0
    all n = omega arith

pub returns-then-most-eq0 : goal.returns-then-most-eq0
returns-then-most-eq0 c = let few = peers_few c.args.records.now c.requires.limitless c.args.switch in omega (arith, few, c.count-most.ensures, c.if-most-eq0.true, ap (λ (l : List RouterPort). length l) c.router_ports.ensures)
