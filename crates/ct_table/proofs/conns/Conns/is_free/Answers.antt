use Rattle.std.proofs.Common.{◌≡◌, ◌∙◌, Bool, true, false, not, is_some, refl, ap}
use Rattle.std.specs.List.{position}
use Rattle.pkt_core.specs.Tuple.{swap}
use Rattle.ct_core.specs.declared.look.Side.TheVariants.{Reply}
use Rattle.ct_core.specs.Entry.{has}
use Rattle.ct_core.specs.Translation.{with_source}
use Rattle.ct_core.proofs.Positions.{position-any}
use Rattle.ct_table.proofs.conns.Conns.is_free.Goals as goal

turned : (a b : Bool) → a ≡ not b → b ≡ not a
turned true true e = e
turned true false e = refl
turned false true e = refl
turned false false e = e

pub returns : goal.returns
returns c =
    let conns = c.args.self.now in
    let reply = swap (with_source c.args.external c.args.port c.args.tuple) in
    turned _ _ c.is_none.ensures
    ∙ ap (λ o. not (is_some o)) (c.first_reply.ensures ∙ ap (λ t. position (has Reply c.args.zone t) conns) c.swap.ensures)
    ∙ ap not (position-any (has Reply c.args.zone reply) conns)
