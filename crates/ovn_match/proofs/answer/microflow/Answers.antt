use Rattle.expr_core.specs.declared.role.Role.TheVariants as role
use Rattle.ovn_match.proofs.answer.microflow.Goals as goal

-- what the check answers is well-typed
pub packet_of-requires : goal.packet_of-requires
packet_of-requires c = (c.a_checked_match_is_well_typed.ensures role.Micro c.args.expr.now c.in_ok-typed.typed c.in_ok-typed.ensures.typed).1
