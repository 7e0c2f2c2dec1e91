use Rattle.std.proofs.Common.{◌++◌, ap, sym, ◌∙◌}
use Rattle.std.specs.List.{flat_map}
use Rattle.std.proofs.lemmas.List.{take_all}
use Rattle.net_rows.specs.PortSecurity.{guard_rules}
use Rattle.net_rows.specs.Unit.{row_of, said_by}
use Rattle.ls_sec.proofs.Said.{map-flat_map}
use Rattle.ls_sec.proofs.port_sec.put_rules_of_guards.Goals as goal

pub returns : goal.returns
returns c =
    c.loop-guard.invariant
    ∙ ap (λ guards. c.args.rows.now ++ flat_map (λ guard. said_by c.args.unit (guard_rules c.args.name.now guard)) guards) (take_all c.loop-guard.guard-index c.args.guards.now c.loop-guard-test.false)
    ∙ ap (λ rows. c.args.rows.now ++ rows) (sym (map-flat_map (row_of c.args.unit) (guard_rules c.args.name.now) c.args.guards.now))
