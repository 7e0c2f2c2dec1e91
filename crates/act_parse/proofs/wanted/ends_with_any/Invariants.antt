use Rattle.std.proofs.Common.{◌≡◌, map, drop}
use Rattle.std.specs.List.{list_any}
use Rattle.act_parse.specs.inner.Wanted.{ends_with}
use Rattle.act_parse.specs.inner.Gives.{shown}
use Rattle.act_parse.proofs.wanted.ends_with_any.Given as goal

-- the texts that are left decide
abbrev pub invariant-loop-text : goal.invariant-loop-text
invariant-loop-text l = list_any (ends_with l.wanted l.front) (map shown (drop l.text-index l.texts)) ≡ list_any (ends_with l.wanted l.front) (map shown l.texts)
