use Rattle.std.proofs.Common.{◌≡◌, ◌&&◌, length}
use Rattle.std.specs.Prelude.{find, filter}
use Rattle.nb_records.specs.Tags.{port_tags}
use Rattle.nb_store.specs.inner.Listed.{lists, has_ip}
use Rattle.nv_table.specs.Table.{has_tag, is_after}
use Rattle.nb_store.proofs.records.Records.lists_tagged.Given as goal

-- the one that is asked for is among those that are left
abbrev pub invariant-loop-port : goal.invariant-loop-port
invariant-loop-port g l =
    find (λ port. is_after l.after port.id && (has_tag port_tags (g.P.Probe.order l.tag) port && (lists l.self.groups l.group port.id && has_ip l.value port))) l.self.ports
    ≡ find (λ port. has_tag port_tags (g.P.Probe.order l.tag) port && (lists l.self.groups l.group port.id && has_ip l.value port)) l.self.ports

-- those that are left
abbrev pub decreases-loop-port : goal.decreases-loop-port
decreases-loop-port g l = length (filter (λ port. is_after l.after port.id) l.self.ports)
