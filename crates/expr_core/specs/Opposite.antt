-- The relation between numbers that holds where another does not.
use Rattle.expr_core.specs.declared.comparison.Rel.{Rel}
use Rattle.expr_core.specs.declared.comparison.Rel.TheVariants.{Eq, Ne, Lt, Le, Gt, Ge}

-- the relation that holds where the other does not
abbrev pub opposite : Rel → Rel
opposite Eq = Ne
opposite Ne = Eq
opposite Lt = Ge
opposite Le = Gt
opposite Gt = Le
opposite Ge = Lt
