-- What a part's name means.
use Rattle.std.specs.Prelude.{ℕ, List, Option, Some, None}
use Rattle.std.specs.Option.{option_map}
use Rattle.nv_base.specs.declared.field.Field.{Field}
use Rattle.nv_base.specs.Field.{field_of}
use Rattle.expr_core.specs.Predicate.{pred_of}
use Rattle.expr_core.specs.declared.subject.Subject.{Subject}
use Rattle.expr_core.specs.declared.subject.Subject.TheVariants as subject

-- a field, or else the predicate of this name
abbrev pub field_or_predicate : List ℕ → Option Field → Option Subject
field_or_predicate name (Some f) = Some (subject.Field f)
field_or_predicate name None = option_map subject.Pred (pred_of name)

-- the field or the predicate of this name
abbrev pub subject_of : List ℕ → Option Subject
subject_of name = field_or_predicate name (field_of name)
