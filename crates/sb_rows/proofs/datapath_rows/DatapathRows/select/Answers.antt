use Rattle.std.proofs.Common.{◌≡◌, ◌<◌, length, get_or, ap, sym, ◌∙◌, arith}
use Rattle.std.specs.Prelude.{None}
use Rattle.std.specs.Option.{option_copied}
use Rattle.std.proofs.lemmas.List.{get_or_default}
use Rattle.sb_model.specs.Stage.{stage_place}
use Rattle.sb_model.proofs.Stages.{place_below}
use Rattle.sb_rows.specs.Match.{select}
use Rattle.sb_rows.specs.inner.OfDatapath.{found_in}
use Rattle.sb_rows.proofs.datapath_rows.DatapathRows.select.Goals as goal

pub bounds-tables-from : goal.bounds-tables-from
bounds-tables-from g c = omega (arith, place_below c.args.stage, c.place.ensures, c.from.ensures, c.self.invariant.long)

pub returns : goal.returns
returns g c =
    let net = g.E.Env.lookup c.args.env.now in
    let tables = c.self.inside.tables in
    let place : c.from.result ≡ stage_place c.args.stage = c.from.ensures ∙ c.place.ensures in
    let inside : stage_place c.args.stage < length tables = omega (arith, place_below c.args.stage, c.self.invariant.long) in
    let is = get_or_default tables (stage_place c.args.stage) None c.index-tables-from.result inside ∙ ap (λ n. get_or tables n c.index-tables-from.result) (sym place) ∙ sym c.index-tables-from.is ∙ c.in_ok-table.was in
    c.first.ensures ∙ ap (λ t. found_in net c.args.packet.now (option_copied t)) (sym is) ∙ c.self.invariant.selected c.args.stage net c.args.packet.now
    ∙ ap (λ v. select v.0 c.args.stage net c.args.packet.now v.1) c.self.view_is

pub returns-in_err-table : goal.returns-in_err-table
returns-in_err-table g c =
    let net = g.E.Env.lookup c.args.env.now in
    let tables = c.self.inside.tables in
    let place : c.from.result ≡ stage_place c.args.stage = c.from.ensures ∙ c.place.ensures in
    let inside : stage_place c.args.stage < length tables = omega (arith, place_below c.args.stage, c.self.invariant.long) in
    let is = get_or_default tables (stage_place c.args.stage) None c.index-tables-from.result inside ∙ ap (λ n. get_or tables n c.index-tables-from.result) (sym place) ∙ sym c.index-tables-from.is ∙ c.in_err-table.was in
    ap option_copied c.from_residual.ensures ∙ ap (λ t. found_in net c.args.packet.now (option_copied t)) (sym is) ∙ c.self.invariant.selected c.args.stage net c.args.packet.now
    ∙ ap (λ v. select v.0 c.args.stage net c.args.packet.now v.1) c.self.view_is
