-- Constants of matches and actions.
use Rattle.std.specs.Prelude.{ℕ}
use Rattle.expr_core.specs.declared.constant.Form.{Form}

-- a number, and how it is spelled
pub record Constant : Type 0 where
  pub form : Form
  pub value : ℕ

-- the constant of this form and number
abbrev pub constant : Form → ℕ → Constant
constant f n = record { form = f; value = n }
