-- The end of the command that adds an ACL.
use Rattle.std.specs.Prelude.{ℕ, List, ◌++◌, codes, decimal}
use Rattle.expr_core.specs.Text.{typed_text}
use Rattle.nb_records.specs.Refusal.{spaced}
use Rattle.nb_records.specs.declared.acl.Acl.{Acl}
use Rattle.nb_text.specs.Words.{in_quotes, way_text, verdict_text}

-- what is after the owner
abbrev pub rule_text : Acl → List ℕ
rule_text a = spaced (way_text a.way) ++ spaced (decimal a.priority) ++ spaced (in_quotes (typed_text a.matching)) ++ spaced (verdict_text a.verdict) ++ codes "\n"
