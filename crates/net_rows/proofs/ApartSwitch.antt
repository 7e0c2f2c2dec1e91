-- No two rules of a switch agree in stage and priority.
use Rattle.std.proofs.Common.{◌≡◌, Bool, true, false, List, ◌++◌, refl}
use Rattle.nv_base.specs.declared.object.ObjId.{ObjId}
use Rattle.nb_model.specs.Network.{Network}
use Rattle.nb_model.specs.Readable.{are_apart}
use Rattle.sb_model.specs.Stage.{stage_place}
use Rattle.nb_model.specs.Applies.{balances, tracks}
use Rattle.net_rows.specs.Acls.{switch_acl_rules}
use Rattle.net_rows.specs.Build.{has_unknown, switch_rules}
use Rattle.net_rows.specs.LoadBalancers.{switch_lb_rules}
use Rattle.net_rows.specs.Lookup.{switch_l2_rules}
use Rattle.net_rows.specs.PortSecurity.{switch_sec_rules}
use Rattle.net_rows.specs.declared.rule.Rule.{Rule}
use Rattle.net_rows.proofs.Differ.{RulesDiffer, by_place, same_place}
use Rattle.net_rows.proofs.Pairs.{OfPairs, pairs_as}
use Rattle.net_rows.proofs.SoundObjects.{Unlike, unlike_pairs}

-- the rules of a switch, by what they depend on
abbrev rules_where : Bool → Bool → Bool → List Rule
rules_where tracking balancing unknown =
    switch_sec_rules ++ (switch_acl_rules (record { tracks = tracking; balances = balancing }) ++ (switch_lb_rules ++ switch_l2_rules (record { unknown = unknown })))

-- no two are at one place, whatever they depend on
places_apart : (tracking balancing unknown : Bool) → are_apart same_place (rules_where tracking balancing unknown) ≡ true
unfolding switch_acl_rules switch_l2_rules stage_place
places_apart true balancing true = refl
places_apart true balancing false = refl
places_apart false balancing true = refl
places_apart false balancing false = refl

pub switch_rules_apart : (net : Network) (switch : ObjId) → OfPairs RulesDiffer (switch_rules net switch)
switch_rules_apart net switch =
    pairs_as (Unlike same_place) RulesDiffer (switch_rules net switch) by_place
    (unlike_pairs same_place (switch_rules net switch) (places_apart (tracks net switch) (balances net switch) (has_unknown net switch)))
