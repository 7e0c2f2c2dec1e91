use Rattle.std.proofs.Common.{◌≡◌, drop}
use Rattle.std.specs.Prelude.{fold}
use Rattle.net_choice.specs.inner.Routes.{longest_by, longest_to}
use Rattle.net_choice.proofs.routes.longest_by.Given as goal

-- the longest so far, and of the ways to the networks that are left
abbrev pub invariant-loop-own : goal.invariant-loop-own
invariant-loop-own l = fold (longest_to l.port.id l.dst) l.best (drop l.own-index l.port.nets) ≡ longest_by l.dst l.fn.best l.port
