use Rattle.std.proofs.Common.{◌∙◌, sym}
use Rattle.expr_core.specs.inner.Exact.{formula, typed_atom}
use Rattle.sb_rows.proofs.by_text.is_same.Goals as goal

pub returns : goal.returns
returns c = λ is. formula _ typed_atom _ _ (sym c.eq.ensures ∙ is)
