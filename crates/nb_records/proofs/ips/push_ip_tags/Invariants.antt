use Rattle.std.proofs.Common.{◌≡◌, ◌++◌, map, take}
use Rattle.std.specs.List.{flat_map}
use Rattle.nb_records.specs.Tags.{ips_of}
use Rattle.nb_records.specs.declared.tag.Tag.TheVariants.{Has}
use Rattle.nb_records.proofs.ips.push_ip_tags.Given as goal

abbrev pub invariant-loop-addr : goal.invariant-loop-addr
invariant-loop-addr l = l.tags ≡ l.initial.tags ++ map Has (flat_map ips_of (take l.addr-index l.addresses))
