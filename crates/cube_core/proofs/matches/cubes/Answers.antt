use Rattle.std.proofs.Common.{Some, ap, sym, ◌∙◌}
use Rattle.cube_core.specs.Cubes.{names_of}
use Rattle.cube_core.proofs.Meaning.{match_covered}
use Rattle.cube_core.proofs.matches.cubes.Goals as goal

pub returns-clause-covers : goal.returns-clause-covers
returns-clause-covers g c = λ role packet typed are is_packet.
    match_covered role (names_of (g.E.Env.lookup c.args.env.now) (g.E.SetMembers.members c.args.env.now)) c.args.typed.now _ (c.in_ok-list.ensures.0 ∙ ap Some (sym c.into_items.ensures)) packet are typed is_packet
