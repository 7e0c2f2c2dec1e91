-- The rows of neighbours whose MACs are known without being learnt (ovn-northd(8), 'ARP/ND Resolution'; stages, registers and priorities
-- are not from OVN).
use Rattle.std.specs.Prelude.{ℕ, List, [], ◌∷◌, map}
use Rattle.nv_base.specs.declared.field.Field.TheVariants.{Outport, EthDst, Reg0}
use Rattle.act_core.specs.declared.step.Step.TheVariants as step
use Rattle.sb_model.specs.Make.{equals, is_port, as_mac, as_ip4, all_of, steps}
use Rattle.sb_model.specs.declared.stage.Stage.TheVariants.{LrInArpResolve}
use Rattle.net_rows.specs.Unit.{rule}
use Rattle.net_rows.specs.declared.rule.Rule.{Rule}
use Rattle.lr_rows.specs.Make.{becomes}
use Rattle.lr_rows.specs.declared.inputs.BindingInput.{BindingInput}
use Rattle.lr_rows.specs.declared.inputs.Host.{Host}
use Rattle.lr_rows.specs.declared.inputs.NeighbourInput.{NeighbourInput}

-- what leaves by the port of this name for the address of a host is for its MAC
abbrev pub resolving_rule : ℕ → List ℕ → Host → Rule
resolving_rule priority name host =
    rule LrInArpResolve priority (all_of (is_port Outport name ∷ equals Reg0 (as_ip4 host.addr.0) ∷ [])) (steps (becomes EthDst (as_mac host.mac) ∷ step.Next ∷ []))

-- the rule of a static binding, which comes before those of neighbours
unfoldable pub binding_rules : BindingInput → List Rule
binding_rules input = resolving_rule 150 input.name input.host ∷ []

-- the rules of a switch port for a router port on its switch, one for each of its addresses
unfoldable pub neighbour_rules : NeighbourInput → List Rule
neighbour_rules input = map (resolving_rule 100 input.name) input.hosts
