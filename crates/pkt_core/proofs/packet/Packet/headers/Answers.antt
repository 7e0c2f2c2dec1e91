use Rattle.std.proofs.Common.{◌≡◌, length, rules, refl, sym, arith, ◌∙◌}
use Rattle.nv_base.specs.Field.{field_count, is_header}
use Rattle.pkt_core.specs.Packet.{headers}
use Rattle.pkt_core.proofs.Only.{keeps, clears, ends, only_value}
use Rattle.pkt_core.proofs.packet.Packet.headers.Goals as goal
use Rattle.pkt_core.proofs.packet.Packet.headers.Goals.{then-not-is_header, else-not-is_header}

pub loop-field-preserved : goal.loop-field-preserved
loop-field-preserved c = elim c.if-not-is_header.branch [
  | then-not-is_header w ↦
      let long : length c.args.self.now ≡ field_count = search rules in
      rw (w.headers-is, w.set.ensures.set, c.all-field-items.ensures) (clears _ is_header _ _ _ (omega arith) long (sym (rw c.all-field-items.ensures at c.is_header.ensures) ∙ w.if-not-is_header.true) c.loop-field.invariant)
  | else-not-is_header w ↦ rw (w.headers-is) (keeps _ is_header _ _ _ (omega arith) (sym (rw c.all-field-items.ensures at c.is_header.ensures) ∙ w.if-not-is_header.false) c.loop-field.invariant)
]

pub returns : goal.returns
returns c =
    let packet = c.args.self.now in
    let long : length packet ≡ field_count = search rules in
    let last : c.loop-field.field-index ≡ field_count = omega arith in
    let alone : c.loop-field.headers ≡ headers packet = ends _ is_header _ long (rw last at c.loop-field.invariant) in
    rw alone (record { value = refl; fields = only_value packet is_header })
