use Rattle.std.proofs.Common.{◌++◌, ap, ◌∙◌}
use Rattle.std.specs.List.{flat_map}
use Rattle.std.specs.Prelude.{Some}
use Rattle.nb_records.specs.declared.acl.Acl.{Acl}
use Rattle.nb_model.specs.Network.{same}
use Rattle.nd_full.specs.inner.Made.{acl_unit, acl_units}
use Rattle.nd_full.specs.inner.Owners.{acls_of}
use Rattle.nd_full.proofs.Sound.{acls_rise}
use Rattle.nv_table.proofs.Through.{all_left, these_after, these_fewer, these_next, these_whole}
use Rattle.nd_full.proofs.switches.add_rows_of_acls.Goals as goal

pub loop-acl-init : goal.loop-acl-init
loop-acl-init c = ap (λ left. c.args.made.now ++ flat_map (acl_unit c.args.switch c.args.tracks) left) (all_left (λ (x : Acl). x.id) (acls_of c.args.records.now c.args.owner))

pub loop-acl-smaller : goal.loop-acl-smaller
loop-acl-smaller c = these_fewer (λ (x : Acl). x.id) (λ (x : Acl). same c.args.owner x.owner) c.loop-acl.last c.args.records.now.acls c.in-Some.acl.now (acls_rise c.args.records.now c.requires) c.in-Some.ensures

pub loop-acl-preserved : goal.loop-acl-preserved
loop-acl-preserved c =
    ap (λ made. made ++ flat_map (acl_unit c.args.switch c.args.tracks) (these_after (λ (x : Acl). x.id) (λ (x : Acl). same c.args.owner x.owner) (Some c.in-Some.acl.now.id) c.args.records.now.acls)) c.in_ok-add_acl.ensures
    ∙ these_next (λ (x : Acl). x.id) (λ (x : Acl). same c.args.owner x.owner) c.loop-acl.last c.args.records.now.acls c.in-Some.acl.now (acls_rise c.args.records.now c.requires) c.in-Some.ensures
    (acl_unit c.args.switch c.args.tracks) c.loop-acl.made (c.args.made.now ++ acl_units c.args.records.now c.args.switch c.args.tracks c.args.owner) c.loop-acl.invariant

pub returns : goal.returns
returns c =
    these_whole (λ (x : Acl). x.id) (λ (x : Acl). same c.args.owner x.owner) c.loop-acl.last c.args.records.now.acls c.in_default.ensures
    (acl_unit c.args.switch c.args.tracks) c.loop-acl.made (c.args.made.now ++ acl_units c.args.records.now c.args.switch c.args.tracks c.args.owner) c.loop-acl.invariant
