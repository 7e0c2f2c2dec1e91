-- The order in which ACLs decide, and that by rising number the higher priority is enough.
use Rattle.std.proofs.Common.{◌≡◌, ◌<◌, Bool, true, false, cond, nat_lt, List, [], ◌∷◌, Option, Some, None, arith, refl, ap, ◌∙◌}
use Rattle.std.specs.Prelude.{fold, ⊤}
use Rattle.std.specs.List.{AllByRecursion}
use Rattle.std.proofs.lemmas.Bool.Decides.{nat_tests}
use Rattle.nb_records.specs.declared.acl.Acl.{Acl}
use Rattle.nv_table.specs.Table.{NumbersRise}
use Rattle.net_meaning.specs.AclVerdict.{higher}
use Rattle.net_choice.specs.inner.Acls.{first, is_before}

-- no ACL is before itself
pub not_itself : (a : Acl) → is_before a a ≡ false
not_itself a = grind (arith, nat_tests)

-- what is not before an ACL is not before one that is
pub not_before : (a b c : Acl) → is_before b c ≡ true → is_before a c ≡ false → is_before a b ≡ false
not_before a b c before not = grind (arith, nat_tests, before, not)

-- two ACLs of which neither is before the other have one number
pub one_number : (a b : Acl) → is_before a b ≡ false → is_before b a ≡ false → a.id ≡ b.id
one_number a b not not' = let same : a.id.0 ≡ b.id.0 = grind (arith, nat_tests, not, not') in ap (λ n. record { 0 = n }) same

-- the numbers to come are above that of the first so far
abbrev IsBelow : Option Acl → List Acl → Type 0
IsBelow None acls = ⊤
IsBelow (Some best) acls = AllByRecursion (λ acl. best.id.0 < acl.id.0) acls

pub by_rising_number : (acls : List Acl) (best : Option Acl) → NumbersRise (λ (a : Acl). a.id) acls → IsBelow best acls → fold higher best acls ≡ fold first best acls
by_rising_number [] best rise below = refl
by_rising_number (acl ∷ acls) None rise below = by_rising_number acls (Some acl) rise.1 rise.0
by_rising_number (acl ∷ acls) (Some best) rise below =
    ap (λ b. fold higher (cond b (Some acl) (Some best)) acls) priority_decides ∙ by_rising_number acls (cond (is_before acl best) (Some acl) (Some best)) rise.1 (next_below (is_before acl best))
  where
    priority_decides : nat_lt best.priority acl.priority ≡ is_before acl best
    priority_decides = let less : best.id.0 < acl.id.0 = below.0 in grind (arith, nat_tests, less)

    next_below : (b : Bool) → IsBelow (cond b (Some acl) (Some best)) acls
    next_below true = rise.0
    next_below false = below.1
