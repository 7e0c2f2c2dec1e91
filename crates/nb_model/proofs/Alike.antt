-- Two records say the same whichever of them is named first.
use Rattle.std.proofs.Common.{◌≡◌, ℕ, Bool, true, false, not, ◌&&◌, Some, None, Option, List, refl, sym, subst}
use Rattle.std.specs.Prelude.{◌==◌, if◌then◌else◌}
use Rattle.std.specs.Bool.{IsTrue}
use Rattle.std.specs.Str.{bytes_eq}
use Rattle.std.proofs.lemmas.Bool.{eqb-true, eq-eqb}
use Rattle.std.proofs.lemmas.Slice.Eq.{bytes_eq-Decides}
use Rattle.expr_core.specs.Text.{typed_text}
use Rattle.nv_base.specs.Block.{Block}
use Rattle.nv_base.specs.declared.object.ObjId.{ObjId}
use Rattle.nb_records.specs.declared.acl.Way.{Way}
use Rattle.nb_records.specs.declared.acl.Way.TheVariants.{From, To}
use Rattle.nb_records.specs.declared.balancer.Frontend.{Frontend}
use Rattle.nb_records.specs.declared.router.RouteBy.{RouteBy}
use Rattle.nb_records.specs.declared.router.RouteBy.TheVariants.{Dst, Src}
use Rattle.nb_model.specs.Belongs.{same_block, same_port, same_frontend, same_policy, is_snat, same_way, same_route, same_nat, same_acl, same_binding}
use Rattle.nb_model.specs.Network.{same, Acl, Binding, Nat, Route}

-- two tests that imply each other are one
one_test : (x y : Bool) → (x ≡ true → y ≡ true) → (y ≡ true → x ≡ true) → x ≡ y
one_test true y there back = sym (there refl)
one_test false true there back = back refl
one_test false false there back = refl

-- two numbers that are each like a third are alike
pub number_key : (k a b : ℕ) → IsTrue (k == a) → IsTrue (k == b) → IsTrue (a == b)
number_key k a b e f = subst (λ n. IsTrue (n == b)) (eqb-true k a e) f

pub same_names : (a b : List ℕ) → IsTrue (bytes_eq a b) → a ≡ b
same_names a b is = (bytes_eq-Decides a b).0 is

pub names_sym : (a b : List ℕ) → bytes_eq a b ≡ bytes_eq b a
names_sym a b =
    one_test (bytes_eq a b) (bytes_eq b a) (λ is. (bytes_eq-Decides b a).1 (sym ((bytes_eq-Decides a b).0 is)))
    (λ is. (bytes_eq-Decides a b).1 (sym ((bytes_eq-Decides b a).0 is)))

pub numbers_sym : (a b : ℕ) → (a == b) ≡ (b == a)
numbers_sym a b = one_test (a == b) (b == a) (λ is. eq-eqb b a (sym (eqb-true a b is))) (λ is. eq-eqb a b (sym (eqb-true b a is)))

pub same_sym : (a b : ObjId) → same a b ≡ same b a
same_sym a b = numbers_sym a.0 b.0

block_sym : (a b : Block) → same_block a b ≡ same_block b a
block_sym a b = λ i. numbers_sym a.base.0 b.base.0 i && numbers_sym a.len b.len i

port_sym : (a b : Option ℕ) → same_port a b ≡ same_port b a
port_sym None None = refl
port_sym None (Some b) = refl
port_sym (Some a) None = refl
port_sym (Some a) (Some b) = numbers_sym a b

pub frontend_sym : (a b : Frontend) → same_frontend a b ≡ same_frontend b a
frontend_sym a b = λ i. numbers_sym a.addr.0 b.addr.0 i && port_sym a.port b.port i

policy_sym : (a b : RouteBy) → same_policy a b ≡ same_policy b a
policy_sym Dst Dst = refl
policy_sym Dst Src = refl
policy_sym Src Dst = refl
policy_sym Src Src = refl

way_sym : (a b : Way) → same_way a b ≡ same_way b a
way_sym From From = refl
way_sym From To = refl
way_sym To From = refl
way_sym To To = refl

pub route_sym : (a b : Route) → same_route a b ≡ same_route b a
route_sym a b = λ i. same_sym a.router b.router i && policy_sym a.by b.by i && block_sym a.prefix b.prefix i

-- what two rules are told apart by goes by their kinds
either_sym : (a b logical other external rest : Bool) → logical ≡ other → external ≡ rest
    → (if a then b && logical else not b && external) ≡ (if b then a && other else not a && rest)
either_sym true true logical other external rest same alike = same
either_sym true false logical other external rest same alike = refl
either_sym false true logical other external rest same alike = refl
either_sym false false logical other external rest same alike = alike

pub nat_sym : (a b : Nat) → same_nat a b ≡ same_nat b a
nat_sym a b =
    λ i. same_sym a.router b.router i
    && either_sym (is_snat a.kind) (is_snat b.kind) (same_block a.logical b.logical) (same_block b.logical a.logical) (a.external.0 == b.external.0) (b.external.0 == a.external.0)
    (block_sym a.logical b.logical) (numbers_sym a.external.0 b.external.0) i

pub acl_sym : (a b : Acl) → same_acl a b ≡ same_acl b a
acl_sym a b =
    λ i. same_sym a.owner b.owner i && way_sym a.way b.way i && numbers_sym a.priority b.priority i && names_sym (typed_text a.matching) (typed_text b.matching) i

pub binding_sym : (a b : Binding) → same_binding a b ≡ same_binding b a
binding_sym a b = λ i. same_sym a.port b.port i && numbers_sym a.addr.0 b.addr.0 i
