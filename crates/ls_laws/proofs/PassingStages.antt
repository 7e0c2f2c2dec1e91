-- Where a switch tracks no connections, the stages of load balancers and of connections pass each packet on.
use Rattle.std.proofs.Common.{◌≡◌, Bool, true, false, [], ◌∷◌, sym, ap, refl, ◌∙◌, subst, inl, inr}
use Rattle.std.specs.Prelude.{Some}
use Rattle.std.specs.List.{Contains}
use Rattle.std.proofs.lemmas.Bool.{false≢true}
use Rattle.pkt_core.specs.Packet.{Values}
use Rattle.sb_model.specs.Make.{takes_each, goes_on}
use Rattle.sb_model.specs.Stage.{all_stages, next_stage, stage_at, stage_place}
use Rattle.sb_model.specs.declared.row.Row.{Row}
use Rattle.sb_model.specs.declared.stage.Stage.{Stage}
use Rattle.sb_model.specs.declared.stage.Stage.TheVariants.{LsInPreAcl, LsInPreStateful, LsInAclEval, LsInLb, LsInStateful, LsInArpRsp, LsOutPreAcl, LsOutPreStateful, LsOutAclEval, LsOutStateful, LsOutCheckPortSec}
use Rattle.nb_records.specs.declared.switch.Switch.{Switch}
use Rattle.nb_model.specs.Network.{Network}
use Rattle.nb_model.specs.Applies.{tracks, balances}
use Rattle.net_rows.specs.Acls.{switch_acl_rules}
use Rattle.net_rows.specs.Build.{has_unknown, switch_rules}
use Rattle.net_rows.specs.Lookup.{switch_l2_rules}
use Rattle.net_rows.specs.Unit.{unit_of_datapath, rule, row_of}
use Rattle.net_rows.specs.declared.rule.Rule.{Rule}
use Rattle.net_rows.proofs.Elements.{one_first}
use Rattle.tr_stage.specs.Machine.{on_to, step}
use Rattle.tr_stage.specs.Machine.StageEnd.{On}
use Rattle.ls_laws.specs.Steps.{IsOn, IsUntracked, PassesUntracked, flows_at}
use Rattle.ls_laws.proofs.RuleStages.{rules_at, among_rules_at, from_rules_at, the_only, is_of_decisions, is_of_untracked_ports, untracked_port_stage, rules_where, switch_rules-untracked, untracked_stage}
use Rattle.ls_laws.proofs.Tables.{IsRule, attached_tracks, row_of_switch}
use Rattle.ls_laws.proofs.Takers.{step_by}

-- the rule that passes each packet on
abbrev pub passing : Stage → Rule
passing stage = rule stage 0 takes_each goes_on

-- the only rule of a stage where the switch tracks no connections, whatever else it has
abbrev IsOnlyUntracked : Stage → Type 0
IsOnlyUntracked stage = (balances unknown : Bool) → rules_at stage (rules_where false balances unknown) ≡ passing stage ∷ []

module _ (net : Network) (switch : Switch) (packet : Values) (on : IsOn net switch packet) (stage next : Stage) (follows : next_stage stage ≡ Some next) where
  -- a stage with this rule alone, in which no port has a rule and no ACL decides, passes each packet on where the switch tracks no connections
  passes_untracked : IsOnlyUntracked stage → is_of_untracked_ports stage ≡ false → is_of_decisions stage ≡ false → IsUntracked net switch → step (flows_at net switch.id) stage packet ≡ On next packet
  passes_untracked only no_port no_decision none =
      step_by net switch packet on stage (row_of (unit_of_datapath switch.id) (passing stage))
      (row_of_switch net switch (passing stage) on.among (from_rules_at stage (switch_rules net switch.id) (passing stage ∷ []) (passing stage) are (one_first (passing stage) [] (passing stage) refl)))
      refl refl refl (λ x of takes. inl (by x of))
      ∙ ap (λ stage. on_to stage packet) follows
    where
      are : rules_at stage (switch_rules net switch.id) ≡ passing stage ∷ []
      are = ap (rules_at stage) (switch_rules-untracked net switch.id none) ∙ only (balances net switch.id) (has_unknown net switch.id)

      by : (x : Row) → IsRule net switch.id stage x → x.actions ≡ goes_on
      by x (inl of) =
          let at = among_rules_at stage (switch_rules net switch.id) of.says of.in_rules of.of_stage in
          ap (λ (r : Row). r.actions) of.is ∙ ap (λ (r : Rule). r.actions) (the_only (passing stage) of.says (subst (λ rs. Contains rs of.says) are at))
      by x (inr (inl of)) =
          absurd (false≢true (sym no_port ∙ sym (ap is_of_untracked_ports of.of_stage) ∙ untracked_port_stage net of.port of.says (ap (tracks net) of.of_switch ∙ none) of.in_rules))
      by x (inr (inr (inl of))) = absurd (false≢true (sym no_decision ∙ sym (ap is_of_decisions of.of_stage) ∙ untracked_stage net switch.id none of.acl of.says of.in_rules))
      by x (inr (inr (inr of))) = absurd (false≢true (sym none ∙ attached_tracks net switch.id of.lb of.attached))

-- ---- the stages with this rule alone

only-LsInLb : IsOnlyUntracked LsInLb
unfolding switch_acl_rules switch_l2_rules stage_place
only-LsInLb balances true = refl
only-LsInLb balances false = refl

only-LsInPreAcl : IsOnlyUntracked LsInPreAcl
unfolding switch_acl_rules switch_l2_rules stage_place
only-LsInPreAcl balances true = refl
only-LsInPreAcl balances false = refl

only-LsInPreStateful : IsOnlyUntracked LsInPreStateful
unfolding switch_acl_rules switch_l2_rules stage_place
only-LsInPreStateful balances true = refl
only-LsInPreStateful balances false = refl

only-LsInStateful : IsOnlyUntracked LsInStateful
unfolding switch_acl_rules switch_l2_rules stage_place
only-LsInStateful balances true = refl
only-LsInStateful balances false = refl

only-LsOutPreAcl : IsOnlyUntracked LsOutPreAcl
unfolding switch_acl_rules switch_l2_rules stage_place
only-LsOutPreAcl balances true = refl
only-LsOutPreAcl balances false = refl

only-LsOutPreStateful : IsOnlyUntracked LsOutPreStateful
unfolding switch_acl_rules switch_l2_rules stage_place
only-LsOutPreStateful balances true = refl
only-LsOutPreStateful balances false = refl

only-LsOutStateful : IsOnlyUntracked LsOutStateful
unfolding switch_acl_rules switch_l2_rules stage_place
only-LsOutStateful balances true = refl
only-LsOutStateful balances false = refl

-- ---- the laws

pub passes-LsInLb : PassesUntracked LsInLb LsInStateful
unfolding next_stage stage_at all_stages
passes-LsInLb net switch packet on none = passes_untracked net switch packet on LsInLb LsInStateful refl only-LsInLb refl refl none

pub passes-LsInPreAcl : PassesUntracked LsInPreAcl LsInPreStateful
unfolding next_stage stage_at all_stages
passes-LsInPreAcl net switch packet on none = passes_untracked net switch packet on LsInPreAcl LsInPreStateful refl only-LsInPreAcl refl refl none

pub passes-LsInPreStateful : PassesUntracked LsInPreStateful LsInAclEval
unfolding next_stage stage_at all_stages
passes-LsInPreStateful net switch packet on none = passes_untracked net switch packet on LsInPreStateful LsInAclEval refl only-LsInPreStateful refl refl none

pub passes-LsInStateful : PassesUntracked LsInStateful LsInArpRsp
unfolding next_stage stage_at all_stages
passes-LsInStateful net switch packet on none = passes_untracked net switch packet on LsInStateful LsInArpRsp refl only-LsInStateful refl refl none

pub passes-LsOutPreAcl : PassesUntracked LsOutPreAcl LsOutPreStateful
unfolding next_stage stage_at all_stages
passes-LsOutPreAcl net switch packet on none = passes_untracked net switch packet on LsOutPreAcl LsOutPreStateful refl only-LsOutPreAcl refl refl none

pub passes-LsOutPreStateful : PassesUntracked LsOutPreStateful LsOutAclEval
unfolding next_stage stage_at all_stages
passes-LsOutPreStateful net switch packet on none = passes_untracked net switch packet on LsOutPreStateful LsOutAclEval refl only-LsOutPreStateful refl refl none

pub passes-LsOutStateful : PassesUntracked LsOutStateful LsOutCheckPortSec
unfolding next_stage stage_at all_stages
passes-LsOutStateful net switch packet on none = passes_untracked net switch packet on LsOutStateful LsOutCheckPortSec refl only-LsOutStateful refl refl none
