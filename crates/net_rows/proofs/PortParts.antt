-- What the rules of a port are told apart by: their stages, and numbers in their matches.
use Rattle.std.proofs.Common.{◌≡◌, ℕ, Bool, true, false}
use Rattle.expr_core.specs.Formula.{Formula}
use Rattle.expr_core.specs.Formula.Formula.{Leaf, And}
use Rattle.expr_core.specs.Formula.Formulas.{Nil, Cons}
use Rattle.expr_core.specs.declared.comparison.Item.TheVariants.{One}
use Rattle.expr_core.specs.declared.comparison.Right.{Right}
use Rattle.expr_core.specs.declared.comparison.Right.TheVariants as right
use Rattle.expr_core.specs.declared.typed.TypedAtom.{TypedAtom}
use Rattle.expr_core.specs.declared.typed.TypedAtom.TheVariants.{Compare}
use Rattle.sb_model.specs.declared.stage.Stage.{Stage}
use Rattle.sb_model.specs.declared.stage.Stage.TheVariants.{LsInCheckPortSec, LsInPreAcl, LsInArpRsp, LsInL2Lkup, LsOutPreAcl}
use Rattle.net_rows.specs.declared.rule.Rule.{Rule}

-- ---- stages

-- what comes in is checked
abbrev pub is_ingress_check : Stage → Bool
is_ingress_check LsInCheckPortSec = true
is_ingress_check other = false

abbrev pub is_arp : Stage → Bool
is_arp LsInArpRsp = true
is_arp other = false

-- the part that a stage is of: 0 of port security, 1 of ACLs, 2 of ARP replies and the lookup
abbrev pub part : Stage → ℕ
part LsInPreAcl = 1
part LsOutPreAcl = 1
part LsInArpRsp = 2
part LsInL2Lkup = 2
part other = 0

-- a rule of port security
abbrev pub IsOfSecurity : Rule → Type 0
IsOfSecurity r = part r.stage ≡ 0

-- a rule of ACLs
abbrev pub IsOfAcls : Rule → Type 0
IsOfAcls r = part r.stage ≡ 1

-- a rule of a later stage
abbrev pub IsLater : Rule → Type 0
IsLater r = part r.stage ≡ 2

-- ---- numbers

-- the number that a right side is
abbrev pub number_of : Right → ℕ
number_of (right.Item (One c)) = c.value
number_of other = 0

-- the number that a test compares with
abbrev pub compared : Formula TypedAtom → ℕ
compared (Leaf (Compare f bits rel side)) = number_of side
compared other = 0

-- that of the second operand
abbrev pub second_number : Formula TypedAtom → ℕ
second_number (And (Cons t (Cons u ts))) = compared u
second_number other = 0

-- that of the last of two or three operands
abbrev pub last_number : Formula TypedAtom → ℕ
last_number (And (Cons t (Cons u Nil))) = compared u
last_number (And (Cons t (Cons u (Cons v ts)))) = compared v
last_number other = 0
