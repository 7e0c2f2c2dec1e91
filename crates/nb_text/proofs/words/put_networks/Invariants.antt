use Rattle.std.proofs.Common.{◌≡◌, ◌++◌, take}
use Rattle.nv_base.specs.Prefix.{prefix_text}
use Rattle.nb_text.specs.Words.{each_spaced}
use Rattle.nb_text.proofs.words.put_networks.Given as goal

-- the networks so far come after what was there
abbrev pub invariant-loop-net : goal.invariant-loop-net
invariant-loop-net l = l.out.items ≡ l.fn.out.items ++ each_spaced prefix_text (take l.net-index l.nets)
