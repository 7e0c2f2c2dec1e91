-- The rows that are said by rules, piece after piece.
use Rattle.std.proofs.Common.{◌≡◌, List, ◌++◌, append_assoc, sym, ap, ◌∙◌}
use Rattle.std.proofs.lemmas.List.{map-append}
use Rattle.sb_model.specs.declared.row.Row.{Row}
use Rattle.net_rows.specs.Unit.{row_of, said_by}
use Rattle.net_rows.specs.declared.rule.Rule.{Rule}
use Rattle.net_rows.specs.declared.rule.Unit.{Unit}

module _ (unit : Unit) (rules : List Rule) (before middle : List Row) (done : middle ≡ before ++ said_by unit rules) (more : List Rule) where
  -- rows that come after those of some rules are those of all these rules
  pub and_then : (after : List Row) → after ≡ middle ++ said_by unit more → after ≡ before ++ said_by unit (rules ++ more)
  and_then after next =
      next
      ∙ ap (λ rows. rows ++ said_by unit more) done
      ∙ append_assoc before (said_by unit rules) (said_by unit more)
      ∙ ap (λ rows. before ++ rows) (sym (map-append (row_of unit) rules more))
