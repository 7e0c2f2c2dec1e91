use Rattle.std.proofs.Common.{◌≡◌, ◌+◌, true, false, ap, sym, ◌∙◌}
use Rattle.std.specs.Option.{option_copied}
use Rattle.sb_rows.specs.inner.Index.{IsTaker}
use Rattle.sb_rows.proofs.IndexFirst.{AreTried, each_tried, first_is, no_better_from, none_is, shape_next}
use Rattle.sb_rows.proofs.index.Index.first.Goals as goal
use Rattle.sb_rows.proofs.index.Index.first.Goals.{then-is_before, else-is_before}

pub loop-shaped-preserved : goal.loop-shaped-preserved
loop-shaped-preserved g c =
    let net = g.E.Env.lookup c.args.env.now in
    let rows = c.args.rows.now.entries in
    let taken : IsTaker net c.args.packet.now rows c.if-is_before.best = elim c.if-is_before.branch [
      | then-is_before w ↦ rw w.best-is w.first_in_shape-best.ensures.taker
      | else-is_before w ↦ rw w.best-is c.loop-shaped.invariant.taker
    ] in
    let next : AreTried net c.args.packet.now rows c.args.self.now c.if-is_before.best (c.loop-shaped.shaped-index + 1) = elim c.if-is_before.branch [
      | then-is_before w ↦
          let found = w.first_in_shape-best.ensures in
          rw w.best-is
          (shape_next net c.args.packet.now rows c.args.self.now c.loop-shaped.shaped-index c.loop-shaped.best w.first_in_shape-best.result _ _
          c.deref-shaped-items.ensures.value c.loop-shaped-test.true found.kept (λ asks place shaped low. found.tried asks place shaped) c.loop-shaped.invariant.tried)
      | else-is_before w ↦
          rw w.best-is
          (shape_next net c.args.packet.now rows c.args.self.now c.loop-shaped.shaped-index c.loop-shaped.best c.loop-shaped.best _ _
          c.deref-shaped-items.ensures.value c.loop-shaped-test.true (λ place none. none)
          (λ asks place shaped low has there row among takes.
          no_better_from c.loop-shaped.best _ place low (c.is_before.ensures.1 (λ before. let wrong : true ≡ false = sym before ∙ w.if-is_before.false in absurd (cc))))
          c.loop-shaped.invariant.tried)
    ] in
    record {
      taker = taken;
      tried = next;
    }

pub returns-in_err-best : goal.returns-in_err-best
returns-in_err-best g c =
    let net = g.E.Env.lookup c.args.env.now in
    let tried = each_tried net c.args.packet.now c.args.rows.now.entries c.args.self.now c.loop-shaped.best c.loop-shaped.shaped-index c.requires.covered (rw (← c.deref-shaped-items.ensures.value) c.loop-shaped-test.false) c.loop-shaped.invariant.tried in
    ap option_copied c.from_residual.ensures ∙ none_is net c.args.packet.now c.args.rows.now.entries c.loop-shaped.best c.in_err-best.was tried

pub returns : goal.returns
returns g c =
    let net = g.E.Env.lookup c.args.env.now in
    let tried = each_tried net c.args.packet.now c.args.rows.now.entries c.args.self.now c.loop-shaped.best c.loop-shaped.shaped-index c.requires.covered (rw (← c.deref-shaped-items.ensures.value) c.loop-shaped-test.false) c.loop-shaped.invariant.tried in
    first_is net c.args.packet.now c.args.rows.now.entries c.loop-shaped.best c.in_ok-best.field-0 c.requires.placed.rise c.in_ok-best.was c.loop-shaped.invariant.taker tried
