use Rattle.std.proofs.Common.{◌++◌, ◌∙◌, ap, sym}
use Rattle.std.proofs.lemmas.Result.{err_from_is_err_and}
use Rattle.std.proofs.lemmas.List.{at_drop_all}
use Rattle.nv_base.specs.Growth.{GrowsAtEnd}
use Rattle.nv_base.proofs.Growth.{appended_twice, grows_on, on_err}
use Rattle.pkt_core.specs.Text.{conditions}
use Rattle.pkt_core.proofs.Conditions.{passed, appended}
use Rattle.pkt_core.proofs.text.put_conditions.Goals as goal
use Rattle.pkt_core.proofs.text.put_conditions.Goals.{then-is_said+in_ok-extend_from_slice+in_ok-put_condition, else-is_said}

pub returns-in_err-put_condition-clause-err : goal.returns-in_err-put_condition-clause-err
returns-in_err-put_condition-clause-err c =
    let p = err_from_is_err_and c.from_residual-in_err-put_condition.result c.from_residual-in_err-put_condition.ensures.1 in
    let there = grows_on _ _ _ _ c.loop-field.invariant.grown c.in_ok-extend_from_slice.ensures.items in
    let more = c.in_err-put_condition.ensures.err in
    rw (p.1) (grows_on _ _ _ _ there more.1)

pub loop-field-preserved : goal.loop-field-preserved
loop-field-preserved c = elim c.if-is_said.branch [
  | then-is_said+in_ok-extend_from_slice+in_ok-put_condition w ↦
      let l = c.loop-field in
      let put = appended_twice _ _ _ _ _ w.in_ok-extend_from_slice.ensures.items w.in_ok-put_condition.ensures.ok in
      let front = w.as_bytes.ensures.value ∙ w.separator.ensures in
      rw (w.out-is, w.before-is) (record {
        grown = grows_on _ _ _ _ l.invariant.grown put;
        whole = appended c.args.packet.now c.args.fields.now l.field-index _ l.before _ _ _ _ c.loop-field-test.true c.get-number.ensures.value w.if-is_said.true front put ∙ l.invariant.whole;
      })
  | else-is_said w ↦
      let l = c.loop-field in
      let zero = sym c.get-number.ensures.value ∙ w.if-is_said.false in
      let nothing = passed c.args.packet.now c.args.fields.now l.field-index _ l.before c.loop-field-test.true zero in
      rw (w.out-is, w.before-is) (record {
        grown = l.invariant.grown;
        whole = ap (λ text. l.out.items ++ text) nothing ∙ l.invariant.whole;
      })
]

pub returns-in_err-extend_from_slice-clause-err : goal.returns-in_err-extend_from_slice-clause-err
returns-in_err-extend_from_slice-clause-err c =
    let grown = c.loop-field.invariant.grown in
    let same : GrowsAtEnd c.args.out.now.items c.extend_from_slice.new.self.items = (grown.0, c.in_err-extend_from_slice.ensures.items ∙ grown.1) in
    on_err _ _ same

pub returns-in_err-extend_from_slice-2-clause-err : goal.returns-in_err-extend_from_slice-2-clause-err
returns-in_err-extend_from_slice-2-clause-err c =
    let grown = c.loop-field.invariant.grown in
    let same : GrowsAtEnd c.args.out.now.items c.extend_from_slice-2.new.self.items = (grown.0, c.in_err-extend_from_slice-2.ensures.items ∙ grown.1) in
    on_err _ _ same

pub returns-clause-ok : goal.returns-clause-ok
returns-clause-ok c =
    let l = c.loop-field in
    let end = c.as_bytes-2.ensures.value ∙ c.ending.ensures in
    let none = at_drop_all (λ fields. l.out.items ++ conditions c.args.packet.now fields l.before) c.args.fields.now _ c.loop-field-test.false in
    c.in_ok-extend_from_slice-2.ensures.items ∙ ap (λ text. l.out.items ++ text) end ∙ sym none ∙ l.invariant.whole
