use Rattle.std.proofs.Common.{◌≡◌, length, rules, refl, sym, ap, not, arith, ◌∙◌}
use Rattle.pkt_core.specs.Packet.{is_working, workings}
use Rattle.pkt_core.proofs.Only.{keeps, clears_header, ends, only_value}
use Rattle.pkt_core.proofs.packet.Packet.workings.Goals as goal
use Rattle.pkt_core.proofs.packet.Packet.workings.Goals.{then-is_header, else-is_header}
use Rattle.nv_base.specs.Field.{field_count}

pub loop-field-preserved : goal.loop-field-preserved
loop-field-preserved c = elim c.if-is_header.branch [
  | then-is_header w ↦
      let long : length c.args.self.now ≡ field_count = search rules in
      rw (w.workings-is, w.set.ensures.set, c.all-field-items.ensures) (clears_header _ _ _ _ (omega arith) long (sym (rw c.all-field-items.ensures at c.is_header.ensures) ∙ w.if-is_header.true) c.loop-field.invariant)
  | else-is_header w ↦ rw (w.workings-is) (keeps _ is_working _ _ _ (omega arith) (ap not (sym (rw c.all-field-items.ensures at c.is_header.ensures) ∙ w.if-is_header.false)) c.loop-field.invariant)
]

pub returns : goal.returns
returns c =
    let packet = c.args.self.now in
    let long : length packet ≡ field_count = search rules in
    let last : c.loop-field.field-index ≡ field_count = omega arith in
    let alone : c.loop-field.workings ≡ workings packet = ends _ is_working _ long (rw last at c.loop-field.invariant) in
    rw alone (record { value = refl; fields = only_value packet is_working })
