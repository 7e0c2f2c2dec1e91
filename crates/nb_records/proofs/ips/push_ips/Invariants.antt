use Rattle.std.proofs.Common.{◌≡◌, ◌++◌, map, take}
use Rattle.nb_records.specs.declared.tag.Tag.TheVariants.{Has}
use Rattle.nb_records.proofs.ips.push_ips.Given as goal

abbrev pub invariant-loop-ip : goal.invariant-loop-ip
invariant-loop-ip l = l.tags ≡ l.initial.tags ++ map Has (take l.ip-index l.ips)
