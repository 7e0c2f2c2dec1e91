use Rattle.std.proofs.Common.{◌≡◌, ◌++◌, map, take, Some}
use Rattle.nb_records.specs.declared.balancer.Vip.{Vip}
use Rattle.nb_records.specs.declared.edit.Edit.TheVariants as edit
use Rattle.nb_text.specs.Commands.{script}
use Rattle.nb_dump.proofs.records.LbScripted.put.Given as goal

-- the commands of the VIPs so far come after what was there
abbrev pub invariant-loop-vip : goal.invariant-loop-vip
invariant-loop-vip l = l.out.items ≡ l.fn.out.items ++ script (map (λ (vip : Vip). edit.LbAdd l.self.name vip.at vip.backends (Some l.self.proto)) (take l.vip-index l.self.vips))
