use Rattle.std.proofs.Common.{◌≡◌, sym, ap, ◌∙◌, subst, take, length, List, [], ◌∷◌, ◌++◌, arith, rules}
use Rattle.std.proofs.lemmas.List.{take_all, take_more}
use Rattle.std.proofs.lemmas.List.Filters.{dedup_is}
use Rattle.nv_base.specs.declared.object.ObjId.{ObjId}
use Rattle.nb_records.specs.declared.switch.Port.{Port}
use Rattle.nv_table.specs.Table.{record_of}
use Rattle.nb_limits.proofs.Noted.{AreNoted, none_noted, one_noted, no_more_noted, noted_count}
use Rattle.nb_limits.proofs.acl_limits.switch_count.Goals as goal
use Rattle.nb_limits.proofs.acl_limits.switch_count.Goals.{in-Some+in_ok-push, in_default}

pub loop-at-init : goal.loop-at-init
loop-at-init c = subst (AreNoted c.args.records.now []) (sym c.new-switches.ensures.items) (none_noted c.args.records.now)

pub loop-at-preserved : goal.loop-at-preserved
loop-at-preserved c =
    let ports = c.args.group.now.ports in
    let at = c.loop-at.at in
    let so_far = take at ports in
    let number : ObjId = c.number_at-number.result in
    let next = take_more ports at number (omega (arith, c.len-at-end.ensures.count, c.loop-at-test.true)) ∙ ap (λ (n : ObjId). so_far ++ n ∷ []) (sym c.number_at-number.ensures.indexed) in
    subst (λ (ports : List ObjId). AreNoted c.args.records.now ports c.match-get.switches.items) (sym next)
    (elim c.match-get.branch [
      | in-Some+in_ok-push w ↦
          subst (AreNoted c.args.records.now _) (sym (ap (λ v. v.items) w.switches-is ∙ w.in_ok-push.ensures.items))
          (one_noted c.args.records.now c.requires.limitless so_far c.loop-at.switches.items c.loop-at.invariant number w.in-Some.port.now
          (w.in-Some.ensures.record ∙ ap (record_of (λ (port : Port). port.id) number) c.ports.ensures))
      | in_default w ↦
          subst (AreNoted c.args.records.now _) (sym (ap (λ v. v.items) w.switches-is))
          (no_more_noted c.args.records.now c.requires.limitless so_far c.loop-at.switches.items c.loop-at.invariant number
          (w.in_default.ensures.record ∙ ap (record_of (λ (port : Port). port.id) number) c.ports.ensures))
    ])

pub returns : goal.returns
returns c =
    let count : c.len.result ≡ length c.dedup.new.self.items = search rules in
    count ∙ ap length (dedup_is _ _ _ c.dedup.ensures.filtered)
    ∙ noted_count c.args.records.now c.requires.limitless c.args.group.now (take c.loop-at.at c.args.group.now.ports) c.loop-at.switches.items _
    c.loop-at.invariant c.sort_unstable.ensures.permutation c.sort_unstable.ensures.sorted
    (take_all c.loop-at.at c.args.group.now.ports (omega (arith, c.len-at-end.ensures.count, c.loop-at-test.false)))
