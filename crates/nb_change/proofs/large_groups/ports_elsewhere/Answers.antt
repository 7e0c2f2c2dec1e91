use Rattle.std.proofs.Common.{◌&&◌, Bool, [], ◌∷◌, ◌++◌, take, arith, sym, ap, ◌∙◌}
use Rattle.std.proofs.lemmas.List.{take_more}
use Rattle.std.specs.List.{list_any}
use Rattle.nv_base.specs.declared.object.ObjId.{ObjId}
use Rattle.nb_records.specs.declared.switch.Port.{Port}
use Rattle.nb_model.specs.Effect.{without}
use Rattle.nb_model.specs.Network.{same}
use Rattle.nb_change.proofs.ManyLeave.{one_stays, one_goes}
use Rattle.nb_change.proofs.large_groups.ports_elsewhere.Goals as goal
use Rattle.nb_change.proofs.large_groups.ports_elsewhere.Goals.{then-not-is_on+in_ok-push, else-not-is_on}

pub loop-at-preserved : goal.loop-at-preserved
loop-at-preserved c =
    let ports = c.args.ports.now in
    let at = c.loop-at.at in
    let number : ObjId = c.number_at-number.result in
    let gone : ObjId → Bool = λ n. list_any (λ (port : Port). same port.id n && same c.args.switch port.switch) c.args.records.now.ports in
    let next = take_more ports at number (omega (arith, c.len-at-end.ensures.count, c.loop-at-test.true)) ∙ ap (λ (n : ObjId). take at ports ++ n ∷ []) (sym c.number_at-number.ensures.indexed) in
    elim c.if-not-is_on.branch [
      | then-not-is_on+in_ok-push w ↦
          ap (λ v. v.items) w.left-is ∙ w.in_ok-push.ensures.items ∙ ap (λ l. l ++ number ∷ []) c.loop-at.invariant
          ∙ sym (one_stays gone (take at ports) number (sym c.is_on.ensures ∙ w.if-not-is_on.true)) ∙ ap (without gone) (sym next)
      | else-not-is_on w ↦
          ap (λ v. v.items) w.left-is ∙ c.loop-at.invariant ∙ sym (one_goes gone (take at ports) number (sym c.is_on.ensures ∙ w.if-not-is_on.false)) ∙ ap (without gone) (sym next)
    ]
