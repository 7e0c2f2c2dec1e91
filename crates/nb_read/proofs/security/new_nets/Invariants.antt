use Rattle.std.proofs.Common.{◌≡◌, [], map, drop}
use Rattle.nb_read.specs.Lists.{new_nets}
use Rattle.nb_read.proofs.security.new_nets.Given as goal

-- the texts that are left are read after those before
abbrev pub invariant-loop-text : goal.invariant-loop-text
invariant-loop-text l = new_nets l.number l.before l.nets (map (λ text. text.now) (drop l.text-index l.texts)) ≡ new_nets l.number l.before [] (map (λ text. text.now) l.texts)
