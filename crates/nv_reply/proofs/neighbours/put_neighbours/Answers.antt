use Rattle.std.proofs.Common.{◌+◌, ◌++◌, append_assoc, ap, ◌∙◌, drop, arith}
use Rattle.std.specs.List.{flat_map}
use Rattle.nv_reply.specs.Neighbours.{neighbour_line}
use Rattle.nv_reply.proofs.ConnectionLines.{given_next}
use Rattle.nv_reply.proofs.neighbours.put_neighbours.Goals as goal

pub loop-place-preserved : goal.loop-place-preserved
loop-place-preserved c =
    let line = neighbour_line c.args.records.now in
    let others = flat_map line (drop (c.loop-place.place + 1) c.args.nbrs.now) in
    record {
      within = omega (arith, c.loop-place-test.true);
      count = c.loop-place.invariant.count;
      few = c.loop-place.invariant.few;
      told = ap (λ text. text ++ others) c.in_ok-put_neighbour_at.ensures
          ∙ append_assoc c.loop-place.out.items _ others
          ∙ ap (λ text. c.loop-place.out.items ++ text) (given_next line c.args.nbrs.now c.loop-place.place)
          ∙ c.loop-place.invariant.told;
    }
