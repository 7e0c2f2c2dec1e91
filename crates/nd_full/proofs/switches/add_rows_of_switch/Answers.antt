use Rattle.std.proofs.Common.{Bool, ◌++◌, ap, ◌∙◌}
use Rattle.net_rows.specs.declared.inputs.SwitchL2Input.{SwitchL2Input}
use Rattle.std.specs.List.{flat_map}
use Rattle.std.proofs.lemmas.List.{take_all}
use Rattle.nd_full.specs.inner.Made.{acl_units}
use Rattle.nd_full.proofs.All.{made_at, made_with}
use Rattle.nd_full.proofs.switches.add_rows_of_switch.Goals as goal

abbrev l2_input : Bool → SwitchL2Input
l2_input unknown = record { unknown = unknown }

pub returns : goal.returns
returns c =
    made_with c.args.records.now c.requires.sound c.args.switch.now c.requires.there c.args.made.now c.loop-owner.made c.add_rows_of_balancers.new.made
    (made_at c.args.records.now c.args.switch.now c.args.owners.now c.args.made.now c.add_switch.new.self c.loop-owner.made c.args.acl.now (l2_input c.args.unknown) c.requires.owners
    c.requires.acl (ap l2_input c.requires.unknown) c.in_ok-add_switch.ensures
    (c.loop-owner.invariant
    ∙ ap (λ owners. c.add_switch.new.self ++ flat_map (acl_units c.args.records.now c.args.switch.now.id c.args.acl.now.tracks) owners) (take_all c.loop-owner.owner-index c.args.owners.now c.loop-owner-test.false)))
    c.in_ok-add_rows_of_balancers.ensures
