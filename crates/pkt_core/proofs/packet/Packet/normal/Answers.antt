use Rattle.std.proofs.Common.{◌≡◌, length, rules, refl, sym, arith, ◌∙◌}
use Rattle.pkt_core.specs.Prerequisite.{is_there, normal}
use Rattle.pkt_core.proofs.Only.{keeps, clears, ends, only_value}
use Rattle.pkt_core.proofs.Normal.{meets_stays, settled}
use Rattle.pkt_core.proofs.packet.Packet.normal.Goals as goal
use Rattle.pkt_core.proofs.packet.Packet.normal.Goals.{then-not-meets, else-not-meets}
use Rattle.nv_base.specs.Field.{field_count}

pub loop-field-preserved : goal.loop-field-preserved
loop-field-preserved c = elim c.if-not-meets.branch [
  | then-not-meets w ↦
      let long : length c.args.self.now ≡ field_count = search rules in
      rw (w.normal-is, w.set.ensures.set, c.all-field-items.ensures) (clears _ (is_there c.args.self.now) _ _ _ (omega arith) long (sym (rw (c.prerequisite.ensures, c.all-field-items.ensures) at c.meets.ensures) ∙ w.if-not-meets.true) c.loop-field.invariant)
  | else-not-meets w ↦ rw (w.normal-is) (keeps _ (is_there c.args.self.now) _ _ _ (omega arith) (sym (rw (c.prerequisite.ensures, c.all-field-items.ensures) at c.meets.ensures) ∙ w.if-not-meets.false) c.loop-field.invariant)
]

pub returns : goal.returns
returns c =
    let packet = c.args.self.now in
    let long : length packet ≡ field_count = search rules in
    let last : c.loop-field.field-index ≡ field_count = omega arith in
    let is_normal : c.loop-field.normal ≡ normal packet = ends _ (is_there packet) _ long (rw last at c.loop-field.invariant) in
    rw is_normal (record { value = refl; fields = only_value packet (is_there packet); kind = meets_stays packet; settled = settled packet })
