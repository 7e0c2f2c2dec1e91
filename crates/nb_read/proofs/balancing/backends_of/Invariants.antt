use Rattle.std.proofs.Common.{◌≡◌, [], map, drop}
use Rattle.nb_read.specs.Readings.{backends_of}
use Rattle.nb_read.proofs.balancing.backends_of.Given as goal

-- the texts that are left are read after those before
abbrev pub invariant-loop-text : goal.invariant-loop-text
invariant-loop-text l = backends_of l.has_port l.found (map (λ text. text.now) (drop l.text-index l.texts)) ≡ backends_of l.has_port [] (map (λ text. text.now) l.texts)
