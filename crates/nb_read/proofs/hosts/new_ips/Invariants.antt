use Rattle.std.proofs.Common.{◌≡◌, [], map, drop}
use Rattle.nb_read.specs.Lists.{new_ips}
use Rattle.nb_read.proofs.hosts.new_ips.Given as goal

-- the texts that are left are read after those before
abbrev pub invariant-loop-text : goal.invariant-loop-text
invariant-loop-text l = new_ips l.number l.before l.ips (map (λ text. text.now) (drop l.text-index l.texts)) ≡ new_ips l.number l.before [] (map (λ text. text.now) l.texts)
