-- To which switches ACLs apply, where ports, groups and switches change.
use Rattle.std.proofs.Common.{◌≡◌, ℕ, ◌*◌, ◌≤◌, ⊎_elim, Bool, ◌&&◌, ◌||◌, List, map, subst}
use Rattle.std.specs.Prelude.{IsTrue, filter, length}
use Rattle.std.specs.List.{list_all, list_any}
use Rattle.std.proofs.lemmas.Bool.{and_parts, and_from, or_cases, or_left, or_right}
use Rattle.std.proofs.lemmas.Nat.{mul-le}
use Rattle.expr_core.specs.Text.{typed_text}
use Rattle.nv_base.specs.declared.object.ObjId.{ObjId}
use Rattle.nb_model.specs.Amounts.{total}
use Rattle.nb_model.specs.Belongs.{is_among}
use Rattle.nb_model.specs.Network.{same, Acl, Group, Port}
use Rattle.nb_model.proofs.AnyOf.{any_kept, any_changed, any_as}
use Rattle.nb_model.proofs.Totals.{total_le, le_self}

-- a switch has a port of a group
abbrev pub has_port : List Port → ObjId → List ObjId → Bool
has_port ports id members = list_any (λ port. same port.switch id && is_among port.id members) ports

-- ACLs of an owner apply to a switch: it owns them, or has a port of the group that does
abbrev pub applies : List Port → List Group → ObjId → ObjId → Bool
applies ports groups owner id = same id owner || list_any (λ group. same group.id owner && has_port ports id group.ports) groups

-- the matches of ACLs, each once for each switch, where each ACL applies to no more switches
pub texts : (p : Acl → Bool) (f g : Acl → ℕ) (acls : List Acl) → IsTrue (list_all p acls) → ((acl : Acl) → IsTrue (p acl) → f acl ≤ g acl)
    → total (λ acl. length (typed_text acl.matching) * f acl) acls ≤ total (λ acl. length (typed_text acl.matching) * g acl) acls
texts p f g acls all less =
    total_le (λ acl. length (typed_text acl.matching) * f acl) (λ acl. length (typed_text acl.matching) * g acl) p acls all
    (λ acl passes. mul-le (length (typed_text acl.matching)) (f acl) (length (typed_text acl.matching)) (g acl) (le_self (length (typed_text acl.matching))) (less acl passes))

-- what is among fewer is among all
pub among_kept : (n : ObjId) (q : ObjId → Bool) (ns : List ObjId) → IsTrue (is_among n (filter q ns)) → IsTrue (is_among n ns)
among_kept n q ns there = any_kept (same n) q ns there

-- both tests are weaker
both_weaker : (a b c d : Bool) → (IsTrue a → IsTrue c) → (IsTrue b → IsTrue d) → IsTrue (a && b) → IsTrue (c && d)
both_weaker a b c d first second both = let parts = and_parts a b both in and_from c d (first parts.0) (second parts.1)

-- either test is weaker
either_weaker : (a b c d : Bool) → (IsTrue a → IsTrue c) → (IsTrue b → IsTrue d) → IsTrue (a || b) → IsTrue (c || d)
either_weaker a b c d first second one = ⊎_elim (λ x. or_left c d (first x)) (λ y. or_right c d (second y)) (or_cases a b one)

-- ACLs apply where they did before, if a switch has a port of a group, changed, only where it had one of the group
pub applies_before : (all : Group → Bool) (ports ports' : List Port) (groups : List Group) (change : Group → Group) (owner id : ObjId) → IsTrue (list_all all groups)
    → ((group : Group) → (change group).id ≡ group.id)
    → ((group : Group) → IsTrue (all group) → IsTrue (has_port ports' id (change group).ports) → IsTrue (has_port ports id group.ports))
    → IsTrue (applies ports' (map change groups) owner id) → IsTrue (applies ports groups owner id)
applies_before all ports ports' groups change owner id holds keeps before there =
    either_weaker (same id owner) (list_any (λ group. same group.id owner && has_port ports' id group.ports) (map change groups))
    (same id owner) (list_any (λ group. same group.id owner && has_port ports id group.ports) groups) (λ is. is)
    (any_changed all (λ group. same group.id owner && has_port ports' id group.ports) (λ group. same group.id owner && has_port ports id group.ports) change groups holds
    (λ group of. both_weaker (same (change group).id owner) (has_port ports' id (change group).ports) (same group.id owner) (has_port ports id group.ports)
    (λ is. subst (λ number. IsTrue (same number owner)) (keeps group) is) (before group of)))
    there

-- likewise where groups stay
pub applies_where : (all : Group → Bool) (ports ports' : List Port) (groups : List Group) (owner id : ObjId) → IsTrue (list_all all groups)
    → ((group : Group) → IsTrue (all group) → IsTrue (has_port ports' id group.ports) → IsTrue (has_port ports id group.ports))
    → IsTrue (applies ports' groups owner id) → IsTrue (applies ports groups owner id)
applies_where all ports ports' groups owner id holds before there =
    either_weaker (same id owner) (list_any (λ group. same group.id owner && has_port ports' id group.ports) groups)
    (same id owner) (list_any (λ group. same group.id owner && has_port ports id group.ports) groups) (λ is. is)
    (any_as all (λ group. same group.id owner && has_port ports' id group.ports) (λ group. same group.id owner && has_port ports id group.ports) groups holds
    (λ group of. both_weaker (same group.id owner) (has_port ports' id group.ports) (same group.id owner) (has_port ports id group.ports) (λ is. is) (before group of)))
    there

-- and where there are fewer groups, or more of which the owner is none
pub applies_of : (ports : List Port) (groups groups' : List Group) (owner id : ObjId)
    → (IsTrue (list_any (λ group. same group.id owner && has_port ports id group.ports) groups') → IsTrue (list_any (λ group. same group.id owner && has_port ports id group.ports) groups))
    → IsTrue (applies ports groups' owner id) → IsTrue (applies ports groups owner id)
applies_of ports groups groups' owner id before there =
    either_weaker (same id owner) (list_any (λ group. same group.id owner && has_port ports id group.ports) groups')
    (same id owner) (list_any (λ group. same group.id owner && has_port ports id group.ports) groups) (λ is. is) before there
