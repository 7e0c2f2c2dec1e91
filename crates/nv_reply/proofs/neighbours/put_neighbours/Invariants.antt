use Rattle.std.proofs.Common.{◌≡◌, ◌≤◌, ◌-◌, ◌++◌, drop, length}
use Rattle.std.specs.List.{flat_map}
use Rattle.ct_core.specs.Neighbours.{neighbour_limit}
use Rattle.nv_reply.specs.Neighbours.{neighbour_line, neighbour_lines}
use Rattle.nv_reply.proofs.neighbours.put_neighbours.Given as goal

-- the lines so far, and then those of the neighbours from this place on, are all
abbrev pub invariant-loop-place : goal.invariant-loop-place
invariant-loop-place l = record {
  within : l.place ≤ l.count;
  count : l.count ≡ length l.nbrs;
  few : length l.nbrs ≤ neighbour_limit;
  told : l.out.items ++ flat_map (neighbour_line l.records) (drop l.place l.nbrs) ≡ l.initial.out.items ++ neighbour_lines l.records l.nbrs;
}

abbrev pub decreases-loop-place : goal.decreases-loop-place
decreases-loop-place l = l.count - l.place
