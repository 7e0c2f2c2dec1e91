use Rattle.std.proofs.Common.{◌≡◌, List, Option, sym, subst}
use Rattle.std.specs.List.{All}
use Rattle.std.specs.Option.{IfSome}
use Rattle.sb_model.specs.declared.row.Row.{Row}
use Rattle.sb_rows.specs.inner.Tables.{key_of}
use Rattle.sb_rows.proofs.table.Table.put.Goals as goal

pub spaced-requires : goal.spaced-requires
spaced-requires c =
    let left = subst (λ (o : Option Row). IfSome o (λ (r : Row). (r ≡ c.args.row) × (c.put_where_free.new.self ≡ c.args.self.now))) c.in-Some.is c.in_ok-row.ensures.left in
    (key_of c.args.row, subst (λ (rows : List Row). All (λ (r : Row). key_of r ≡ key_of c.args.row) rows) (sym left.1) c.requires)
