-- An enabled port without guards has no rows of port security, and one that leads to no router none in the stages of ACLs.
use Rattle.std.proofs.Common.{◌≡◌, Bool, true, false, cond, List, [], ◌++◌, append-nil, sym, ap, ◌∙◌}
use Rattle.std.specs.Prelude.{◌&&◌}
use Rattle.nb_records.specs.declared.switch.Guard.{Guard}
use Rattle.nb_records.specs.declared.switch.Port.{Port}
use Rattle.nb_model.specs.Belongs.{is_to_router}
use Rattle.net_rows.specs.Acls.{port_acl_rules}
use Rattle.net_rows.specs.Build.{port_acl_input, port_sec_input}
use Rattle.net_rows.specs.PortSecurity.{port_sec_rules, disabled_rules, guarded_rules}
use Rattle.net_rows.specs.Unit.{unit_of, unit_rows, said_by}
use Rattle.sb_model.specs.declared.row.Row.{Row}
use Rattle.sb_rows.specs.Row.{put_rows}
use Rattle.nd_full.specs.inner.Made.{acl_rules_where}

pub no_rows : (port : Port) (made : List Row) → port.enabled ≡ true → port.security ≡ [] → made ≡ made ++ unit_rows (unit_of port.switch port.id) (port_sec_rules (port_sec_input port))
unfolding unit_rows port_sec_rules
no_rows port made on none =
    sym (append-nil made)
    ∙ ap (λ (b : Bool). made ++ put_rows [] (said_by (unit_of port.switch port.id) (disabled_rules b port.name ++ guarded_rules port.name []))) (sym on)
    ∙ ap (λ (guards : List Guard). made ++ put_rows [] (said_by (unit_of port.switch port.id) (disabled_rules port.enabled port.name ++ guarded_rules port.name guards))) (sym none)

pub no_acl_rows : (port : Port) (tracks : Bool) (made : List Row) → (is_to_router port && tracks) ≡ false → made ≡ made ++ unit_rows (unit_of port.switch port.id) (acl_rules_where tracks port)
unfolding unit_rows
no_acl_rows port tracks made none =
    sym (append-nil made) ∙ ap (λ (b : Bool). made ++ put_rows [] (said_by (unit_of port.switch port.id) (cond b (port_acl_rules (port_acl_input port)) []))) (sym none)
