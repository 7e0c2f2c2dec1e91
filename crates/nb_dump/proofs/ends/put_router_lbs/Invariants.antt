use Rattle.std.proofs.Common.{◌≡◌, ◌++◌, map, take, false}
use Rattle.nb_records.specs.declared.edit.Edit.TheVariants as edit
use Rattle.nb_text.specs.Commands.{script}
use Rattle.nb_dump.specs.Edits.{lb_name}
use Rattle.nb_dump.proofs.ends.put_router_lbs.Given as goal

-- the commands of the load balancers so far come after what was there
abbrev pub invariant-loop-lb : goal.invariant-loop-lb
invariant-loop-lb l = l.out.items ≡ l.fn.out.items ++ script (map (λ lb. edit.LrLbAdd l.router.name (lb_name l.records lb) false) (take l.lb-index l.router.lbs))
