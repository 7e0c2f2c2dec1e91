use Rattle.std.proofs.Common.{◌≡◌, Bool, true, false, cond, ◌&&◌, ◌||◌, List, [], ◌∷◌, Some, refl, sym, ap, ◌∙◌}
use Rattle.std.specs.Prelude.{filter}
use Rattle.std.specs.List.{list_any}
use Rattle.nb_records.specs.declared.switch.Port.{Port}
use Rattle.nb_model.specs.Network.{same}
use Rattle.nb_limits.specs.inner.NeighboursAfter.{has_follower}
use Rattle.nb_limits.proofs.Neighbours.{ports_rise}
use Rattle.nb_limits.proofs.Rest.{next_rest, no_rest, rest}
use Rattle.nb_limits.proofs.Sums.{fewer}
use Rattle.nb_limits.proofs.neighbour_ceilings.has_followers.Goals as goal

-- one of those that are kept
any_kept : {X : Type 0} (a b : X → Bool) (xs : List X) → list_any b (filter a xs) ≡ list_any (λ x. a x && b x) xs
any_kept a b [] = refl
any_kept {X} a b (x ∷ xs) = by (a x) (any_kept a b xs)
  where
    by : (c : Bool) → list_any b (filter a xs) ≡ list_any (λ y. a y && b y) xs → list_any b (cond c (x ∷ filter a xs) (filter a xs)) ≡ ((c && b x) || list_any (λ y. a y && b y) xs)
    by true rest = ap (λ d. b x || d) rest
    by false rest = rest

next_one : (b : Port → Bool) (left after : List Port) (port : Port) (is all : Bool) → left ≡ port ∷ after → is ≡ b port → list_any b left ≡ all → (is || list_any b after) ≡ all
next_one b left after port is all next same so_far = ap (λ c. c || list_any b after) same ∙ sym (ap (list_any b) next) ∙ so_far

pub loop-port-smaller : goal.loop-port-smaller
loop-port-smaller c = fewer _ _ c.in-Some.port.now (next_rest (λ (port : Port). port.id) (λ port. same c.args.switch port.switch) c.loop-port.after c.in-Some.port.now c.args.records.now.ports (ports_rise c.args.records.now c.requires.limitless) (sym c.in-Some.ensures))

pub loop-port-init : goal.loop-port-init
loop-port-init c = any_kept (λ (port : Port). same c.args.switch port.switch) (has_follower c.args.records.now) c.args.records.now.ports

pub loop-port-preserved : goal.loop-port-preserved
loop-port-preserved c =
    ap (λ b. b || list_any (has_follower c.args.records.now) (rest (λ (port : Port). port.id) (λ port. same c.args.switch port.switch) (Some c.in-Some.port.now.id) c.args.records.now.ports)) (sym c.if-has_follower.false)
    ∙ next_one (has_follower c.args.records.now) _ (rest (λ (port : Port). port.id) (λ port. same c.args.switch port.switch) (Some c.in-Some.port.now.id) c.args.records.now.ports) c.in-Some.port.now _ _
    (next_rest (λ (port : Port). port.id) (λ port. same c.args.switch port.switch) c.loop-port.after c.in-Some.port.now c.args.records.now.ports (ports_rise c.args.records.now c.requires.limitless) (sym c.in-Some.ensures))
    c.has_follower.ensures c.loop-port.invariant

pub returns-then-has_follower : goal.returns-then-has_follower
returns-then-has_follower c =
    ap (λ b. b || list_any (has_follower c.args.records.now) (rest (λ (port : Port). port.id) (λ port. same c.args.switch port.switch) (Some c.in-Some.port.now.id) c.args.records.now.ports)) (sym c.if-has_follower.true)
    ∙ next_one (has_follower c.args.records.now) _ (rest (λ (port : Port). port.id) (λ port. same c.args.switch port.switch) (Some c.in-Some.port.now.id) c.args.records.now.ports) c.in-Some.port.now _ _
    (next_rest (λ (port : Port). port.id) (λ port. same c.args.switch port.switch) c.loop-port.after c.in-Some.port.now c.args.records.now.ports (ports_rise c.args.records.now c.requires.limitless) (sym c.in-Some.ensures))
    c.has_follower.ensures c.loop-port.invariant

pub returns : goal.returns
returns c =
    sym (ap (list_any (has_follower c.args.records.now)) (no_rest (λ (port : Port). port.id) (λ port. same c.args.switch port.switch) c.loop-port.after c.args.records.now.ports (sym c.in_default.ensures)))
    ∙ c.loop-port.invariant
