-- The opposite relation holds exactly where a relation does not.
use Rattle.std.proofs.Common.{◌≡◌, ℕ, Bool, true, false, not, nat_lt, nat_le, refl, arith}
use Rattle.std.proofs.lemmas.Bool.Decides.{nat_tests}
use Rattle.expr_core.specs.Opposite.{opposite}
use Rattle.expr_core.specs.declared.comparison.Rel.{Rel}
use Rattle.expr_core.specs.declared.comparison.Rel.TheVariants.{Eq, Ne, Lt, Le, Gt, Ge}
use Rattle.expr_eval.specs.Relation.{compares}

twice_not : (b : Bool) → b ≡ not (not b)
twice_not true = refl
twice_not false = refl

not_below : (m n : ℕ) → nat_le n m ≡ not (nat_lt m n)
not_below m n = grind (arith, nat_tests)

not_above : (m n : ℕ) → nat_lt n m ≡ not (nat_le m n)
not_above m n = grind (arith, nat_tests)

pub opposed : (n : ℕ) (rel : Rel) (c : ℕ) → compares n (opposite rel) c ≡ not (compares n rel c)
opposed n Eq c = refl
opposed n Ne c = twice_not _
opposed n Lt c = not_below n c
opposed n Le c = not_above n c
opposed n Gt c = not_below c n
opposed n Ge c = not_above c n
