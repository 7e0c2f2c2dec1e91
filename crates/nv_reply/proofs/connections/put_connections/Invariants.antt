use Rattle.std.proofs.Common.{◌≡◌, ◌≤◌, ◌-◌, ◌++◌, drop, length}
use Rattle.std.specs.List.{flat_map}
use Rattle.ct_core.specs.Changes.{connection_limit}
use Rattle.nv_reply.specs.Connections.{connection_line, connection_lines}
use Rattle.nv_reply.proofs.connections.put_connections.Given as goal

-- the lines so far, and then those of the connections from this place on, are all
abbrev pub invariant-loop-place : goal.invariant-loop-place
invariant-loop-place l = record {
  within : l.place ≤ l.count;
  count : l.count ≡ length l.conns;
  few : length l.conns ≤ connection_limit;
  told : l.out.items ++ flat_map (connection_line l.records) (drop l.place l.conns) ≡ l.initial.out.items ++ connection_lines l.records l.conns;
}

abbrev pub decreases-loop-place : goal.decreases-loop-place
decreases-loop-place l = l.count - l.place
