use Rattle.std.proofs.Common.{◌++◌, ap, ◌∙◌}
use Rattle.nv_base.specs.Field.{field_name}
use Rattle.nv_base.specs.Growth.{GrowsAtEnd}
use Rattle.nv_base.proofs.Growth.{on_err, grown_more, appended_twice}
use Rattle.pkt_core.proofs.text.put_condition.Goals as goal

pub returns-in_err-extend_from_slice-2-clause-err : goal.returns-in_err-extend_from_slice-2-clause-err
returns-in_err-extend_from_slice-2-clause-err c =
    let grown : GrowsAtEnd c.args.out.now.items c.extend_from_slice-2.new.self.items = (_, c.in_err-extend_from_slice-2.ensures.items ∙ c.in_ok-extend_from_slice.ensures.items) in
    on_err _ _ grown

pub returns-in_err-put_number-clause-err : goal.returns-in_err-put_number-clause-err
returns-in_err-put_number-clause-err c =
    let grown : GrowsAtEnd c.extend_from_slice.new.self.items c.put_number.new.out.items = (_, c.in_err-put_number.ensures.err ∙ c.in_ok-extend_from_slice-2.ensures.items) in
    on_err _ _ (grown_more _ _ _ _ c.in_ok-extend_from_slice.ensures.items grown)

pub returns-clause-ok : goal.returns-clause-ok
returns-clause-ok c =
    let there = c.args.out.now.items in
    let name = c.in_ok-extend_from_slice.ensures.items ∙ ap (λ text. there ++ text) (c.as_bytes.ensures.value ∙ c.name.ensures) in
    appended_twice there _ _ _ _ (appended_twice there _ _ (field_name c.args.field) _ name c.in_ok-extend_from_slice-2.ensures.items) c.in_ok-put_number.ensures.ok
