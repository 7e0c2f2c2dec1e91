use Rattle.std.proofs.Common.{◌≡◌, ap, sym, ◌∙◌}
use Rattle.std.specs.Prelude.{find, ◌&&◌}
use Rattle.std.specs.Option.{option_copied}
use Rattle.nb_records.specs.declared.switch.Switch.{Switch}
use Rattle.nb_model.specs.Belongs.{is_among}
use Rattle.nv_table.specs.Table.{NumbersRise, is_after}
use Rattle.nb_store.proofs.Owned.{switch_with_found}
use Rattle.nb_find.proofs.OnList.{first_is_it, has_it, from}
use Rattle.nb_find.proofs.balancers.switch_has.Goals as goal

pub returns-in-Some : goal.returns-in-Some
returns-in-Some c =
    let all = c.args.records.now.switches in
    let rise : NumbersRise (λ (x : Switch). x.id) all = rw (← c.switches.ensures) c.tagged.ensures.rise in
    let searched : option_copied c.tagged.result ≡ find (from (λ (x : Switch). x.id) (λ x. is_among c.args.lb x.lbs) c.args.switch.now.id) all =
    c.tagged.ensures.record ∙ switch_with_found c.args.lb c.below.result c.switches.result.now
    ∙ ap (find (λ x. is_after c.below.result x.id && is_among c.args.lb x.lbs)) c.switches.ensures
    ∙ (λ i. find (λ x. c.below.ensures x.id i && is_among c.args.lb x.lbs) all) in
    c.eq.ensures ∙ ap (has_it (λ (x : Switch). x.id) c.args.switch.now.id) (ap option_copied (sym c.in-Some.is) ∙ searched)
    ∙ first_is_it (λ (x : Switch). x.id) (λ x. is_among c.args.lb x.lbs) c.args.switch.now all rise c.requires

pub returns : goal.returns
returns c =
    let all = c.args.records.now.switches in
    let rise : NumbersRise (λ (x : Switch). x.id) all = rw (← c.switches.ensures) c.tagged.ensures.rise in
    let searched : option_copied c.tagged.result ≡ find (from (λ (x : Switch). x.id) (λ x. is_among c.args.lb x.lbs) c.args.switch.now.id) all =
    c.tagged.ensures.record ∙ switch_with_found c.args.lb c.below.result c.switches.result.now
    ∙ ap (find (λ x. is_after c.below.result x.id && is_among c.args.lb x.lbs)) c.switches.ensures
    ∙ (λ i. find (λ x. c.below.ensures x.id i && is_among c.args.lb x.lbs) all) in
    ap (has_it (λ (x : Switch). x.id) c.args.switch.now.id) (ap option_copied (sym c.in-None.is) ∙ searched)
    ∙ first_is_it (λ (x : Switch). x.id) (λ x. is_among c.args.lb x.lbs) c.args.switch.now all rise c.requires
