-- Targets and actions that are equal by `==` are one value.
use Rattle.std.proofs.Common.{◌≡◌, refl, ap, ◌∙◌, eqb}
use Rattle.std.proofs.lemmas.Bool.{false≢true, and_parts}
use Rattle.nv_base.specs.inner.Exact as tells
use Rattle.nv_base.specs.inner.Exact.{Tells}
use Rattle.expr_core.specs.inner.Exact as parts
use Rattle.act_core.specs.contracts.step.TargetPartialEq.TheImpl as target_eq
use Rattle.act_core.specs.contracts.step.StepPartialEq.TheImpl as step_eq
use Rattle.act_core.specs.contracts.action.ActionPartialEq.TheImpl as action_eq
use Rattle.act_core.specs.declared.step.Step.TheVariants.{Next, Jump, Output, Drop, Set, Copy, SetOutport, Exchange, DecTtl, CtNext, CtLb, CtLbTo, CtCommit, CtSnat, CtSnatTo, CtDnat, CtDnatTo, PutArp, GetArp}
use Rattle.act_core.specs.declared.action.Action.TheVariants as action_of

pub target : Tells ((target_eq.ghosts).eq)
target a b e =
    let parts = and_parts _ _ e in
    let addresses : a.addr ≡ b.addr = tells.address _ _ parts.0 in
    let ports : a.port ≡ b.port = tells.option eqb tells.number _ _ parts.1 in
    λ i. record { addr = addresses i; port = ports i }

pub step : Tells ((step_eq.ghosts).eq)
step Next Next e = refl
step Next _ e = absurd (false≢true e)
step (Jump a0 a1) (Jump b0 b1) e =
    let equal = and_parts _ _ e in
    ap (λ x. Jump x a1) (tells.boolean _ _ equal.0) ∙ ap (λ x. Jump b0 x) (tells.number _ _ equal.1)
step (Jump a0 a1) _ e = absurd (false≢true e)
step Output Output e = refl
step Output _ e = absurd (false≢true e)
step Drop Drop e = refl
step Drop _ e = absurd (false≢true e)
step (Set a0 a1 a2) (Set b0 b1 b2) e =
    let equal = and_parts _ _ e in
    let rest = and_parts _ _ equal.1 in
    ap (λ x. Set x a1 a2) (tells.field _ _ equal.0) ∙ ap (λ x. Set b0 x a2) (parts.bits _ _ rest.0) ∙ ap (λ x. Set b0 b1 x) (parts.constant _ _ rest.1)
step (Set a0 a1 a2) _ e = absurd (false≢true e)
step (Copy a0 a1 a2) (Copy b0 b1 b2) e =
    let equal = and_parts _ _ e in
    let rest = and_parts _ _ equal.1 in
    ap (λ x. Copy x a1 a2) (tells.field _ _ equal.0) ∙ ap (λ x. Copy b0 x a2) (parts.bits _ _ rest.0) ∙ ap (λ x. Copy b0 b1 x) (tells.field _ _ rest.1)
step (Copy a0 a1 a2) _ e = absurd (false≢true e)
step (SetOutport a0) (SetOutport b0) e = ap SetOutport (tells.list _ tells.number _ _ e)
step (SetOutport a0) _ e = absurd (false≢true e)
step (Exchange a0 a1) (Exchange b0 b1) e =
    let equal = and_parts _ _ e in
    ap (λ x. Exchange x a1) (tells.field _ _ equal.0) ∙ ap (λ x. Exchange b0 x) (tells.field _ _ equal.1)
step (Exchange a0 a1) _ e = absurd (false≢true e)
step DecTtl DecTtl e = refl
step DecTtl _ e = absurd (false≢true e)
step CtNext CtNext e = refl
step CtNext _ e = absurd (false≢true e)
step CtLb CtLb e = refl
step CtLb _ e = absurd (false≢true e)
step (CtLbTo a0) (CtLbTo b0) e = ap CtLbTo (tells.list _ target _ _ e)
step (CtLbTo a0) _ e = absurd (false≢true e)
step (CtCommit a0) (CtCommit b0) e = ap CtCommit (tells.boolean _ _ e)
step (CtCommit a0) _ e = absurd (false≢true e)
step CtSnat CtSnat e = refl
step CtSnat _ e = absurd (false≢true e)
step (CtSnatTo a0) (CtSnatTo b0) e = ap CtSnatTo (tells.address _ _ e)
step (CtSnatTo a0) _ e = absurd (false≢true e)
step CtDnat CtDnat e = refl
step CtDnat _ e = absurd (false≢true e)
step (CtDnatTo a0) (CtDnatTo b0) e = ap CtDnatTo (tells.address _ _ e)
step (CtDnatTo a0) _ e = absurd (false≢true e)
step PutArp PutArp e = refl
step PutArp _ e = absurd (false≢true e)
step GetArp GetArp e = refl
step GetArp _ e = absurd (false≢true e)

pub action : Tells ((action_eq.ghosts).eq)
action (action_of.Step a) (action_of.Step b) e = ap action_of.Step (step a b e)
action (action_of.Step a) (action_of.Arp b) e = absurd (false≢true e)
action (action_of.Step a) (action_of.Icmp4 b) e = absurd (false≢true e)
action (action_of.Step a) (action_of.TcpReset b) e = absurd (false≢true e)
action (action_of.Step a) (action_of.Reject b) e = absurd (false≢true e)
action (action_of.Arp a) (action_of.Step b) e = absurd (false≢true e)
action (action_of.Arp a) (action_of.Arp b) e = ap action_of.Arp (tells.list _ step a b e)
action (action_of.Arp a) (action_of.Icmp4 b) e = absurd (false≢true e)
action (action_of.Arp a) (action_of.TcpReset b) e = absurd (false≢true e)
action (action_of.Arp a) (action_of.Reject b) e = absurd (false≢true e)
action (action_of.Icmp4 a) (action_of.Step b) e = absurd (false≢true e)
action (action_of.Icmp4 a) (action_of.Arp b) e = absurd (false≢true e)
action (action_of.Icmp4 a) (action_of.Icmp4 b) e = ap action_of.Icmp4 (tells.list _ step a b e)
action (action_of.Icmp4 a) (action_of.TcpReset b) e = absurd (false≢true e)
action (action_of.Icmp4 a) (action_of.Reject b) e = absurd (false≢true e)
action (action_of.TcpReset a) (action_of.Step b) e = absurd (false≢true e)
action (action_of.TcpReset a) (action_of.Arp b) e = absurd (false≢true e)
action (action_of.TcpReset a) (action_of.Icmp4 b) e = absurd (false≢true e)
action (action_of.TcpReset a) (action_of.TcpReset b) e = ap action_of.TcpReset (tells.list _ step a b e)
action (action_of.TcpReset a) (action_of.Reject b) e = absurd (false≢true e)
action (action_of.Reject a) (action_of.Step b) e = absurd (false≢true e)
action (action_of.Reject a) (action_of.Arp b) e = absurd (false≢true e)
action (action_of.Reject a) (action_of.Icmp4 b) e = absurd (false≢true e)
action (action_of.Reject a) (action_of.TcpReset b) e = absurd (false≢true e)
action (action_of.Reject a) (action_of.Reject b) e = ap action_of.Reject (tells.list _ step a b e)
