use Rattle.std.proofs.Common.{true, false, sym, ◌∙◌}
use Rattle.expr_const.proofs.Choices.{read_back}
use Rattle.expr_const.proofs.Numbers.{number_form, no_number}
use Rattle.expr_const.proofs.constant.number_of.Goals as goal
use Rattle.expr_const.proofs.constant.number_of.Goals.{then-starts_with, else-starts_with}

pub returns-in_err-value : goal.returns-in_err-value
returns-in_err-value c = c.from_residual.ensures ∙ no_number c.args.text.now (read_back _ _ _ _ c.read_number.ensures c.in_err-value.ensures.value)

pub returns : goal.returns
returns c =
    let value = read_back _ _ _ _ c.read_number.ensures c.in_ok-value.ensures.value in
    elim c.if-starts_with.branch [
      | then-starts_with w ↦
          let form = number_form c.args.text.now true (sym w.if-starts_with.ensures.value) in
          rw (c.new.ensures, w.form-is) (sym (rw (← value) at form))
      | else-starts_with w ↦
          let form = number_form c.args.text.now false (sym w.if-starts_with.ensures.value) in
          rw (c.new.ensures, w.form-is) (sym (rw (← value) at form))
    ]
