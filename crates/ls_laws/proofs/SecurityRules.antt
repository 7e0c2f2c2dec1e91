-- The rules of port security of one pipeline: those of a switch, and those of a port.
use Rattle.std.proofs.Common.{◌≡◌, ℕ, Bool, true, false, cond, List, [], ◌∷◌, map, sym, ap, refl, ◌∙◌, subst, ◌⊎◌, inl, inr}
use Rattle.std.specs.Prelude.{◌&&◌, not}
use Rattle.std.specs.List.{Contains, flat_map}
use Rattle.std.proofs.lemmas.Bool.{false≢true}
use Rattle.std.proofs.lemmas.List.Elements.{Contains-append_left, Contains-append_right, Contains-append_cases}
use Rattle.nv_base.specs.Field.{field_prerequisite}
use Rattle.nv_base.specs.declared.field.Field.{Field}
use Rattle.nv_base.specs.declared.field.Field.TheVariants.{Inport, Outport, EthSrc, EthDst}
use Rattle.nv_base.specs.declared.field.Prerequisite.TheVariants.{Nothing}
use Rattle.act_core.specs.declared.action.Action.{Action}
use Rattle.expr_core.specs.Formula.{Formula}
use Rattle.expr_core.specs.declared.predicate.Pred.TheVariants.{EthMcast}
use Rattle.expr_core.specs.declared.typed.TypedAtom.{TypedAtom}
use Rattle.nb_records.specs.declared.switch.Guard.{Guard}
use Rattle.nb_records.specs.declared.switch.Port.{Port}
use Rattle.nb_model.specs.Network.{Network}
use Rattle.nb_model.specs.Applies.{is_empty}
use Rattle.sb_model.specs.Make.{takes_each, bit, is_predicate, equals, is_port, as_mac, all_of, goes_on, drops, goes_out}
use Rattle.sb_model.specs.Stage.{stage_place}
use Rattle.sb_model.specs.declared.stage.Stage.{Stage}
use Rattle.sb_model.specs.declared.stage.Stage.TheVariants.{LsInCheckPortSec, LsOutCheckPortSec}
use Rattle.net_rows.specs.Acls.{switch_acl_rules}
use Rattle.net_rows.specs.Build.{port_sec_input, port_rules}
use Rattle.net_rows.specs.Lookup.{switch_l2_rules}
use Rattle.net_rows.specs.PortSecurity.{open_rules, closed_rules, guard_rules, guarded_rules, disabled_rules, port_sec_rules}
use Rattle.net_rows.specs.Unit.{rule}
use Rattle.net_rows.specs.declared.rule.Rule.{Rule}
use Rattle.net_rows.proofs.Elements.{one_of, one_of_none, one_first, one_later, Contains-from_map, Contains-map, Contains-from_flat_map, Contains-flat_map, Contains-from_filter}
use Rattle.ls_laws.proofs.GuardTerms.{Terms, open_in_terms, closed_in_terms, in_terms, open_out_terms, closed_out_terms, out_terms}
use Rattle.ls_laws.proofs.RuleStages.{is_at, rules_at, among_rules_at, from_rules_at, the_only, is_of_acls, is_of_balancing, is_later, later_rules, later_stage, rules_where}

-- The stage of port security of a pipeline: the fields of the port and of its MAC, what is done with what may pass, what guards ask for,
-- what all that is for many or from many meets, and whether a disabled port lets in nothing.
pub record Side : Type 0 where
  pub stage : Stage
  pub port : Field
  pub mac : Field
  pub goes : List Action
  pub terms : Guard → List Terms
  pub many : Formula TypedAtom
  pub many_does : List Action
  pub disables : Bool

-- its rules, the highest first
abbrev pub many_rule : Side → Rule
many_rule side = rule side.stage 100 side.many side.many_does

abbrev pub off_rule : Side → List ℕ → Rule
off_rule side name = rule side.stage 100 (is_port side.port name) drops

abbrev pub let_rule : Side → List ℕ → Guard → Terms → Rule
let_rule side name guard terms = rule side.stage 90 (all_of (is_port side.port name ∷ equals side.mac (as_mac guard.mac) ∷ terms)) side.goes

abbrev pub shut_rule : Side → List ℕ → Rule
shut_rule side name = rule side.stage 50 (is_port side.port name) drops

abbrev pub last_rule : Side → Rule
last_rule side = rule side.stage 0 takes_each side.goes

-- the rule of a disabled port, where there is one
abbrev off_rules : Side → List ℕ → Bool → List Rule
off_rules side name off = cond off (off_rule side name ∷ []) []

-- the rules are these in the stage
pub record IsSide (side : Side) : Type 0 where
  pub of_switch : (tracking balances unknown : Bool) → rules_at side.stage (rules_where tracking balances unknown) ≡ many_rule side ∷ last_rule side ∷ []
  pub of_disabled : (name : List ℕ) (enabled : Bool) → rules_at side.stage (disabled_rules enabled name) ≡ off_rules side name (side.disables && not enabled)
  pub of_guarded : (name : List ℕ) (guard : Guard) (guards : List Guard)
      → rules_at side.stage (guarded_rules name (guard ∷ guards)) ≡ shut_rule side name ∷ rules_at side.stage (flat_map (guard_rules name) (guard ∷ guards))
  pub of_guard : (name : List ℕ) (guard : Guard) → rules_at side.stage (guard_rules name guard) ≡ map (let_rule side name guard) (side.terms guard)
  pub no_other : is_later side.stage ≡ false
  pub no_acl : is_of_acls side.stage ≡ false
  pub no_vip : is_of_balancing side.stage ≡ false
  pub plain_port : field_prerequisite side.port ≡ Nothing
  pub plain_mac : field_prerequisite side.mac ≡ Nothing
  pub off_drops : side.disables ≡ true → side.many_does ≡ drops

-- ---- ingress and egress

abbrev pub ingress_side : Side
ingress_side = record { stage = LsInCheckPortSec; port = Inport; mac = EthSrc; goes = goes_on; terms = in_terms; many = bit EthSrc 40; many_does = drops; disables = true }

abbrev pub egress_side : Side
egress_side = record { stage = LsOutCheckPortSec; port = Outport; mac = EthDst; goes = goes_out; terms = out_terms; many = is_predicate EthMcast; many_does = goes_out; disables = false }

pub ingress_is : IsSide ingress_side
unfolding switch_acl_rules switch_l2_rules stage_place
ingress_is = record {
  of_switch = of_switch;
  of_disabled = of_disabled;
  of_guarded = λ name guard guards. refl;
  of_guard = λ name guard. of_guard name guard (is_empty guard.nets);
  no_other = refl;
  no_acl = refl;
  no_vip = refl;
  plain_port = refl;
  plain_mac = refl;
  off_drops = λ e. refl;
}
  where
    of_switch : (tracking balances unknown : Bool) → rules_at LsInCheckPortSec (rules_where tracking balances unknown) ≡ many_rule ingress_side ∷ last_rule ingress_side ∷ []
    of_switch true balances true = refl
    of_switch true balances false = refl
    of_switch false balances true = refl
    of_switch false balances false = refl

    of_disabled : (name : List ℕ) (enabled : Bool) → rules_at LsInCheckPortSec (disabled_rules enabled name) ≡ off_rules ingress_side name (not enabled)
    of_disabled name true = refl
    of_disabled name false = refl

    of_guard : (name : List ℕ) (guard : Guard) (empty : Bool)
        → rules_at LsInCheckPortSec (cond empty (open_rules name guard) (closed_rules name guard)) ≡ map (let_rule ingress_side name guard) (cond empty (open_in_terms guard) (closed_in_terms guard))
    of_guard name guard true = refl
    of_guard name guard false = refl

pub egress_is : IsSide egress_side
unfolding switch_acl_rules switch_l2_rules stage_place
egress_is = record {
  of_switch = of_switch;
  of_disabled = of_disabled;
  of_guarded = λ name guard guards. refl;
  of_guard = λ name guard. of_guard name guard (is_empty guard.nets);
  no_other = refl;
  no_acl = refl;
  no_vip = refl;
  plain_port = refl;
  plain_mac = refl;
  off_drops = λ e. absurd (false≢true e);
}
  where
    of_switch : (tracking balances unknown : Bool) → rules_at LsOutCheckPortSec (rules_where tracking balances unknown) ≡ many_rule egress_side ∷ last_rule egress_side ∷ []
    of_switch true balances true = refl
    of_switch true balances false = refl
    of_switch false balances true = refl
    of_switch false balances false = refl

    of_disabled : (name : List ℕ) (enabled : Bool) → rules_at LsOutCheckPortSec (disabled_rules enabled name) ≡ []
    of_disabled name true = refl
    of_disabled name false = refl

    of_guard : (name : List ℕ) (guard : Guard) (empty : Bool)
        → rules_at LsOutCheckPortSec (cond empty (open_rules name guard) (closed_rules name guard)) ≡ map (let_rule egress_side name guard) (cond empty open_out_terms (closed_out_terms guard))
    of_guard name guard true = refl
    of_guard name guard false = refl

-- ---- the rules of a port

-- what a rule of a port says in the stage
pub data IsSecRule (side : Side) (port : Port) (says : Rule) : Type 0 where
  Off : (side.disables && not port.enabled) ≡ true → says ≡ off_rule side port.name → IsSecRule side port says
  Shut : is_empty port.security ≡ false → says ≡ shut_rule side port.name → IsSecRule side port says
  Lets : (guard : Guard) (terms : Terms) → Contains port.security guard → Contains (side.terms guard) terms → says ≡ let_rule side port.name guard terms → IsSecRule side port says

module _ (side : Side) (is : IsSide side) (net : Network) (port : Port) where
  abbrev disabled : List Rule
  disabled = disabled_rules port.enabled port.name

  abbrev guarded : List Rule
  guarded = guarded_rules port.name port.security

  abbrev all_guards : List Guard → List Rule
  all_guards guards = flat_map (guard_rules port.name) guards

  -- each rule of the port in the stage is one of these
  module _ (says : Rule) (of : says.stage ≡ side.stage) where
    from_disabled : Contains disabled says → IsSecRule side port says
    from_disabled there = by (side.disables && not port.enabled) refl (subst (λ rs. Contains rs says) (is.of_disabled port.name port.enabled) (among_rules_at side.stage disabled says there of))
      where
        by : (off : Bool) → (side.disables && not port.enabled) ≡ off → Contains (off_rules side port.name off) says → IsSecRule side port says
        by true e at = Off e (the_only (off_rule side port.name) says at)
        by false e at = absurd (one_of_none says at)

    from_guards : Contains (all_guards port.security) says → IsSecRule side port says
    from_guards there =
        let from = Contains-from_flat_map (guard_rules port.name) port.security says there in
        let at = subst (λ rs. Contains rs says) (is.of_guard port.name from.0) (among_rules_at side.stage (guard_rules port.name from.0) says from.2 of) in
        let let_by = Contains-from_map (let_rule side port.name from.0) (side.terms from.0) says at in
        Lets from.0 let_by.0 from.1 let_by.1 (sym let_by.2)

    from_guarded : Contains guarded says → IsSecRule side port says
    from_guarded there = by port.security refl there
      where
        by : (guards : List Guard) → port.security ≡ guards → Contains (guarded_rules port.name guards) says → IsSecRule side port says
        by [] e at = absurd (one_of_none says at)
        by (guard ∷ guards) e at =
            first (one_of (shut_rule side port.name) (rules_at side.stage (all_guards (guard ∷ guards))) says (subst (λ rs. Contains rs says) (is.of_guarded port.name guard guards) (among_rules_at side.stage (guarded_rules port.name (guard ∷ guards)) says at of)))
          where
            first : (shut_rule side port.name ≡ says) ⊎ Contains (rules_at side.stage (all_guards (guard ∷ guards))) says → IsSecRule side port says
            first (inl same) = Shut (ap is_empty e) (sym same)
            first (inr later) = from_guards (subst (λ gs. Contains (all_guards gs) says) (sym e) (Contains-from_filter (is_at side.stage) (all_guards (guard ∷ guards)) says later))

    pub sec_rule-gives : Contains (port_rules net port) says → IsSecRule side port says
    unfolding port_sec_rules
    sec_rule-gives there = by (Contains-append_cases (port_sec_rules (port_sec_input port)) (later_rules net port) says there)
      where
        of_sec : Contains disabled says ⊎ Contains guarded says → IsSecRule side port says
        of_sec (inl at) = from_disabled at
        of_sec (inr at) = from_guarded at

        by : Contains (port_sec_rules (port_sec_input port)) says ⊎ Contains (later_rules net port) says → IsSecRule side port says
        by (inl at) = of_sec (Contains-append_cases disabled guarded says at)
        by (inr at) = absurd (false≢true (sym is.no_other ∙ sym (ap is_later of) ∙ later_stage net port says at))

  -- and each of these is a rule of the port
  in_disabled : (says : Rule) → Contains disabled says → Contains (port_rules net port) says
  unfolding port_sec_rules
  in_disabled says there = Contains-append_left (port_sec_rules (port_sec_input port)) (later_rules net port) says (Contains-append_left disabled guarded says there)

  in_guarded : (says : Rule) → Contains guarded says → Contains (port_rules net port) says
  unfolding port_sec_rules
  in_guarded says there = Contains-append_left (port_sec_rules (port_sec_input port)) (later_rules net port) says (Contains-append_right disabled guarded says there)

  pub off-from : (side.disables && not port.enabled) ≡ true → Contains (port_rules net port) (off_rule side port.name)
  off-from off =
      in_disabled (off_rule side port.name) (from_rules_at side.stage disabled (off_rules side port.name true) (off_rule side port.name)
      (is.of_disabled port.name port.enabled ∙ ap (off_rules side port.name) off) (one_first (off_rule side port.name) [] (off_rule side port.name) refl))

  pub shut-from : is_empty port.security ≡ false → Contains (port_rules net port) (shut_rule side port.name)
  shut-from some = in_guarded (shut_rule side port.name) (by port.security some)
    where
      by : (guards : List Guard) → is_empty guards ≡ false → Contains (guarded_rules port.name guards) (shut_rule side port.name)
      by [] e = absurd (false≢true (sym e))
      by (guard ∷ guards) e =
          let rest = rules_at side.stage (all_guards (guard ∷ guards)) in
          from_rules_at side.stage (guarded_rules port.name (guard ∷ guards)) (shut_rule side port.name ∷ rest) (shut_rule side port.name) (is.of_guarded port.name guard guards) (one_first (shut_rule side port.name) rest (shut_rule side port.name) refl)

  pub let-from : (guard : Guard) (terms : Terms) → Contains port.security guard → Contains (side.terms guard) terms → Contains (port_rules net port) (let_rule side port.name guard terms)
  let-from guard terms among asked = in_guarded (let_rule side port.name guard terms) (by port.security among)
    where
      of_it : Contains (guard_rules port.name guard) (let_rule side port.name guard terms)
      of_it = from_rules_at side.stage (guard_rules port.name guard) (map (let_rule side port.name guard) (side.terms guard)) (let_rule side port.name guard terms) (is.of_guard port.name guard) (Contains-map (let_rule side port.name guard) (side.terms guard) terms asked)

      by : (guards : List Guard) → Contains guards guard → Contains (guarded_rules port.name guards) (let_rule side port.name guard terms)
      by [] there = absurd (one_of_none guard there)
      by (first ∷ guards) there =
          let says = let_rule side port.name guard terms in
          let rest = all_guards (first ∷ guards) in
          from_rules_at side.stage (guarded_rules port.name (first ∷ guards)) (shut_rule side port.name ∷ rules_at side.stage rest) says (is.of_guarded port.name first guards)
          (one_later (shut_rule side port.name) (rules_at side.stage rest) says (among_rules_at side.stage rest says (Contains-flat_map (guard_rules port.name) (first ∷ guards) guard says there of_it) refl))
