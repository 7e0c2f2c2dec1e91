-- The stages of port security do what the meaning of port security says.
use Rattle.std.proofs.Common.{◌≡◌, ℕ, ◌<◌, ◌^◌, Bool, true, false, cond, List, [], ◌∷◌, eqb, sym, ap, refl, ◌∙◌, subst, ◌⊎◌, inl, inr, lit<}
use Rattle.std.specs.Prelude.{◌&&◌, ◌||◌, not, Some}
use Rattle.std.specs.List.{Contains, flat_map, list_all, list_any}
use Rattle.std.proofs.lemmas.Bool.{false≢true, and_parts, and_from, ltb-true}
use Rattle.nv_base.specs.declared.field.Field.TheVariants.{EthSrc, EthDst}
use Rattle.pkt_core.specs.Packet.{Values, value}
use Rattle.pkt_core.specs.Prerequisite.{is_there}
use Rattle.act_core.specs.declared.action.Action.{Action}
use Rattle.expr_core.specs.Formula.{formulas}
use Rattle.expr_eval.specs.MatchMeaning.{holds, all_hold}
use Rattle.nb_records.specs.declared.switch.Guard.{Guard}
use Rattle.nb_records.specs.declared.switch.Port.{Port}
use Rattle.nb_records.specs.declared.switch.Switch.{Switch}
use Rattle.nb_model.specs.Names.{names}
use Rattle.nb_model.specs.Network.{Network}
use Rattle.nb_model.specs.Readable.{are_addresses, are_apart, are_guards, is_block, is_ip4, is_mac, may_name, nets_of}
use Rattle.nb_model.specs.Sound.{IsSound}
use Rattle.nb_model.proofs.Readable.{of_port}
use Rattle.nv_base.specs.Name.{is_object_name}
use Rattle.net_meaning.specs.Address.{is_multicast}
use Rattle.nb_model.specs.Applies.{is_empty, tracks, balances}
use Rattle.net_meaning.specs.Guards.{lets_any_in, lets_nets_in, lets_in, lets_nets_out, lets_out, some_guard}
use Rattle.net_meaning.specs.declared.cause.Cause.TheVariants.{PortSec}
use Rattle.sb_model.specs.Make.{drops, goes_on, goes_out, equals, is_port, as_mac}
use Rattle.sb_model.specs.Stage.{all_stages, next_stage, stage_at, pipeline_of}
use Rattle.sb_model.specs.declared.row.Row.{Row}
use Rattle.sb_model.specs.declared.stage.Stage.TheVariants.{LsInCheckPortSec, LsInPreAcl, LsOutCheckPortSec}
use Rattle.net_rows.specs.Build.{acl_on_input, has_unknown, port_rules, switch_rules}
use Rattle.net_rows.specs.Unit.{unit_of, unit_of_datapath, row_of}
use Rattle.net_rows.specs.declared.rule.Rule.{Rule}
use Rattle.net_rows.proofs.Elements.{one_of, one_of_none, one_first, one_later, any_from, any_gives, Contains-flat_map}
use Rattle.net_rows.proofs.Sound.{each_passes}
use Rattle.tr_stage.specs.Machine.{run_actions, step}
use Rattle.tr_stage.specs.Machine.StageEnd.{On, Ends}
use Rattle.tr_stage.specs.declared.outcome.Outcome.TheVariants.{Deliver, Drop}
use Rattle.ls_laws.specs.Steps.{IsOn, IsPortOf, ChecksIn, ChecksOut, flows_at}
use Rattle.ls_laws.proofs.AtPort.{always_there, at_port-gives, at_port-from, same_port}
use Rattle.ls_laws.proofs.GuardTerms.{Terms, AreNets, in_meaning, out_meaning}
use Rattle.ls_laws.proofs.RuleStages.{rules_at, among_rules_at, from_rules_at, is_of_acls, acl_rule_stage}
use Rattle.ls_laws.proofs.SecurityRules.{Side, IsSide, many_rule, off_rule, let_rule, shut_rule, last_rule, ingress_side, egress_side, ingress_is, egress_is, IsSecRule, sec_rule-gives, off-from, shut-from, let-from}
use Rattle.ls_laws.proofs.SecurityRules.IsSecRule.{Off, Shut, Lets}
use Rattle.ls_laws.proofs.Tables.{IsSwitchRule, IsPortRule, IsRule, of_no_vip, row_of_port, row_of_switch}
use Rattle.ls_laws.proofs.Takers.{step_by}

-- the networks of the guards of a port of a sound network have addresses of 32 bits
guard_nets : (net : Network) → IsSound net → (port : Port) → Contains net.ports port → (guard : Guard) → Contains port.security guard → AreNets guard
guard_nets net sound port there guard among block at =
    let readable = each_passes of_port net.ports port sound.readable.ports there in
    let guards = and_parts (is_object_name port.name && may_name port.router_port && are_addresses port.addresses) (are_guards port.security) readable in
    let apart = and_parts (list_all (λ (g : Guard). is_mac g.mac) port.security && are_apart (λ (a b : Guard). eqb a.mac b.mac) port.security && list_all is_block (flat_map nets_of port.security)) _ guards.1 in
    let blocks = and_parts (list_all (λ (g : Guard). is_mac g.mac) port.security && are_apart (λ (a b : Guard). eqb a.mac b.mac) port.security) (list_all is_block (flat_map nets_of port.security)) apart.0 in
    let one = each_passes is_block (flat_map nets_of port.security) block blocks.1 (Contains-flat_map nets_of port.security guard block among at) in
    ltb-true block.base.0 (2 ^ 32) (and_parts (is_ip4 block.base) _ one).0

module _ (side : Side) (is : IsSide side) (net : Network) (switch : Switch) (packet : Values) (on : IsOn net switch packet) (port : Port) (of : IsPortOf net switch port) (at : value packet side.port ≡ port.id.0)
    (lets : Guard → Bool) (meaning : (guard : Guard) → Contains port.security guard → list_any (λ terms. all_hold (names net) packet (formulas terms)) (side.terms guard) ≡ lets guard) where
  -- what holds of the packet
  abbrev is_many : Bool
  is_many = holds (names net) packet side.many

  abbrev is_off : Bool
  is_off = side.disables && not port.enabled

  abbrev passes : Guard → Bool
  passes guard = eqb (value packet side.mac) guard.mac && lets guard

  -- ---- rules of guards

  abbrev terms_hold : Terms → Bool
  terms_hold terms = all_hold (names net) packet (formulas terms)

  -- a rule of a guard takes the packet where the guard lets it through
  let_rule-gives : (guard : Guard) (terms : Terms) → Contains port.security guard → Contains (side.terms guard) terms → holds (names net) packet (let_rule side port.name guard terms).matching ≡ true
      → list_any passes port.security ≡ true
  let_rule-gives guard terms among asked does =
      let at_port = and_parts (holds (names net) packet (is_port side.port port.name)) (holds (names net) packet (equals side.mac (as_mac guard.mac)) && terms_hold terms) does in
      let from_mac = and_parts (holds (names net) packet (equals side.mac (as_mac guard.mac))) (terms_hold terms) at_port.1 in
      let mac = and_parts (is_there packet side.mac) (eqb (value packet side.mac) guard.mac) from_mac.0 in
      let let_through : lets guard ≡ true = sym (meaning guard among) ∙ any_from terms_hold (side.terms guard) terms asked from_mac.1 in
      any_from passes port.security guard among (and_from (eqb (value packet side.mac) guard.mac) (lets guard) mac.1 let_through)

  let_rule-from : (guard : Guard) (terms : Terms) → eqb (value packet side.mac) guard.mac ≡ true → terms_hold terms ≡ true → holds (names net) packet (let_rule side port.name guard terms).matching ≡ true
  let_rule-from guard terms mac hold =
      and_from (holds (names net) packet (is_port side.port port.name)) (holds (names net) packet (equals side.mac (as_mac guard.mac)) && terms_hold terms)
      (at_port-from net packet side.port is.plain_port on.sound port of.0 at)
      (and_from (holds (names net) packet (equals side.mac (as_mac guard.mac))) (terms_hold terms)
      (and_from (is_there packet side.mac) (eqb (value packet side.mac) guard.mac) (always_there packet side.mac is.plain_mac) mac) hold)

  -- ---- the rows that take the packet

  pub data IsTaker (row : Row) : Type 0 where
    ByMany : is_many ≡ true → row.actions ≡ side.many_does → row.priority ≡ 100 → IsTaker row
    ByOff : is_off ≡ true → row.actions ≡ drops → row.priority ≡ 100 → IsTaker row
    ByLets : list_any passes port.security ≡ true → row.actions ≡ side.goes → row.priority ≡ 90 → IsTaker row
    ByShut : is_empty port.security ≡ false → row.actions ≡ drops → row.priority ≡ 50 → IsTaker row
    ByLast : row.actions ≡ side.goes → row.priority ≡ 0 → IsTaker row

  switch_rules_are : rules_at side.stage (switch_rules net switch.id) ≡ many_rule side ∷ last_rule side ∷ []
  switch_rules_are = is.of_switch (tracks net switch.id) (balances net switch.id) (has_unknown net switch.id)

  module _ (row : Row) (takes : holds (names net) packet row.matching ≡ true) where
    by_switch_rule : IsSwitchRule net switch.id side.stage row → IsTaker row
    by_switch_rule from = by (one_of (many_rule side) (last_rule side ∷ []) from.says (subst (λ rs. Contains rs from.says) switch_rules_are (among_rules_at side.stage (switch_rules net switch.id) from.says from.in_rules from.of_stage)))
      where
        as_row : (says : Rule) → says ≡ from.says → row ≡ row_of (unit_of_datapath switch.id) says
        as_row says same = from.is ∙ ap (row_of (unit_of_datapath switch.id)) (sym same)

        last : (last_rule side ≡ from.says) ⊎ Contains [] from.says → IsTaker row
        last (inl same) = let row_is = as_row (last_rule side) same in ByLast (ap (λ (r : Row). r.actions) row_is) (ap (λ (r : Row). r.priority) row_is)
        last (inr none) = absurd (one_of_none from.says none)

        by : (many_rule side ≡ from.says) ⊎ Contains (last_rule side ∷ []) from.says → IsTaker row
        by (inl same) =
            let row_is = as_row (many_rule side) same in
            ByMany (sym (ap (λ (r : Row). holds (names net) packet r.matching) row_is) ∙ takes) (ap (λ (r : Row). r.actions) row_is) (ap (λ (r : Row). r.priority) row_is)
        by (inr later) = last (one_of (last_rule side) [] from.says later)

    by_port_rule : IsPortRule net switch.id side.stage row → IsTaker row
    by_port_rule from = by (sec_rule-gives side is net from.port from.says from.of_stage from.in_rules)
      where
        as_row : (says : Rule) → from.says ≡ says → row ≡ row_of (unit_of switch.id from.port.id) says
        as_row says same = from.is ∙ ap (row_of (unit_of switch.id from.port.id)) same

        -- the rule is one of the packet's port
        its_port : (says : Rule) → from.says ≡ says → (holds (names net) packet says.matching ≡ true → holds (names net) packet (is_port side.port from.port.name) ≡ true) → from.port ≡ port
        its_port says same first =
            let does = sym (ap (λ (r : Row). holds (names net) packet r.matching) (as_row says same)) ∙ takes in
            same_port net on.sound from.port port from.among of.0 (sym (at_port-gives net packet side.port is.plain_port on.sound from.port from.among (first does)) ∙ at)

        by : IsSecRule side from.port from.says → IsTaker row
        by (Off off same) =
            let row_is = as_row (off_rule side from.port.name) same in
            let one = its_port (off_rule side from.port.name) same (λ does. does) in
            ByOff (sym (ap (λ (p : Port). side.disables && not p.enabled) one) ∙ off) (ap (λ (r : Row). r.actions) row_is) (ap (λ (r : Row). r.priority) row_is)
        by (Shut some same) =
            let row_is = as_row (shut_rule side from.port.name) same in
            let one = its_port (shut_rule side from.port.name) same (λ does. does) in
            ByShut (sym (ap (λ (p : Port). is_empty p.security) one) ∙ some) (ap (λ (r : Row). r.actions) row_is) (ap (λ (r : Row). r.priority) row_is)
        by (Lets guard terms among asked same) =
            let row_is = as_row (let_rule side from.port.name guard terms) same in
            let does = sym (ap (λ (r : Row). holds (names net) packet r.matching) row_is) ∙ takes in
            let one = its_port (let_rule side from.port.name guard terms) same
            (λ does. (and_parts (holds (names net) packet (is_port side.port from.port.name)) (holds (names net) packet (equals side.mac (as_mac guard.mac)) && terms_hold terms) does).0) in
            ByLets
            (let_rule-gives guard terms (subst (λ (p : Port). Contains p.security guard) one among) asked (sym (ap (λ (p : Port). holds (names net) packet (let_rule side p.name guard terms).matching) one) ∙ does))
            (ap (λ (r : Row). r.actions) row_is) (ap (λ (r : Row). r.priority) row_is)

    taker : IsRule net switch.id side.stage row → IsTaker row
    taker (inl from) = by_switch_rule from
    taker (inr (inl from)) = by_port_rule from
    taker (inr (inr (inl from))) = absurd (false≢true (sym is.no_acl ∙ sym (ap is_of_acls from.of_stage) ∙ acl_rule_stage (acl_on_input net from.acl switch.id) from.says from.in_rules))
    taker (inr (inr (inr from))) = absurd (of_no_vip net switch.id side.stage row is.no_vip from)

  -- ---- what is done

  abbrev Does : List Action → Type 0
  Does actions = step (flows_at net switch.id) side.stage packet ≡ run_actions (names net) side.stage actions packet

  -- what a row does is done, where each row that takes the packet does it or is lower
  done_by_switch : (says : Rule) → Contains (switch_rules net switch.id) says → says.stage ≡ side.stage → holds (names net) packet says.matching ≡ true
      → ((row : Row) → IsTaker row → (row.actions ≡ says.actions) ⊎ (row.priority < says.priority)) → Does says.actions
  done_by_switch says there of_stage takes others =
      step_by net switch packet on side.stage (row_of (unit_of_datapath switch.id) says) (row_of_switch net switch says on.among there) refl of_stage takes (λ row from does. others row (taker row does from))

  done_by_port : (says : Rule) → Contains (port_rules net port) says → says.stage ≡ side.stage → holds (names net) packet says.matching ≡ true
      → ((row : Row) → IsTaker row → (row.actions ≡ says.actions) ⊎ (row.priority < says.priority)) → Does says.actions
  done_by_port says there of_stage takes others =
      step_by net switch packet on side.stage (row_of (unit_of port.switch port.id) says) (row_of_port net port says of.0 there) of.1 of_stage takes (λ row from does. others row (taker row does from))

  among_switch_rules : (says : Rule) → Contains (many_rule side ∷ last_rule side ∷ []) says → Contains (switch_rules net switch.id) says
  among_switch_rules says there = from_rules_at side.stage (switch_rules net switch.id) (many_rule side ∷ last_rule side ∷ []) says switch_rules_are there

  lower : (p q n : ℕ) → p ≡ n → n < q → p < q
  lower p q n is below = subst (λ m. m < q) (sym is) below

  by_many : is_many ≡ true → Does side.many_does
  by_many many = done_by_switch (many_rule side) (among_switch_rules (many_rule side) (one_first (many_rule side) (last_rule side ∷ []) (many_rule side) refl)) refl many others
    where
      others : (row : Row) → IsTaker row → (row.actions ≡ side.many_does) ⊎ (row.priority < 100)
      others row (ByMany h actions priority) = inl actions
      others row (ByOff off actions priority) = inl (actions ∙ sym (is.off_drops (and_parts side.disables (not port.enabled) off).0))
      others row (ByLets h actions priority) = inr (lower row.priority 100 90 priority (lit< tt))
      others row (ByShut h actions priority) = inr (lower row.priority 100 50 priority (lit< tt))
      others row (ByLast actions priority) = inr (lower row.priority 100 0 priority (lit< tt))

  at_port : holds (names net) packet (is_port side.port port.name) ≡ true
  at_port = at_port-from net packet side.port is.plain_port on.sound port of.0 at

  by_off : is_many ≡ false → is_off ≡ true → Does drops
  by_off one off = done_by_port (off_rule side port.name) (off-from side is net port off) refl at_port others
    where
      others : (row : Row) → IsTaker row → (row.actions ≡ drops) ⊎ (row.priority < 100)
      others row (ByMany many actions priority) = absurd (false≢true (sym one ∙ many))
      others row (ByOff h actions priority) = inl actions
      others row (ByLets h actions priority) = inr (lower row.priority 100 90 priority (lit< tt))
      others row (ByShut h actions priority) = inl actions
      others row (ByLast actions priority) = inr (lower row.priority 100 0 priority (lit< tt))

  by_last : is_many ≡ false → is_off ≡ false → is_empty port.security ≡ true → Does side.goes
  by_last one on_port none =
      done_by_switch (last_rule side) (among_switch_rules (last_rule side) (one_later (many_rule side) (last_rule side ∷ []) (last_rule side) (one_first (last_rule side) [] (last_rule side) refl))) refl refl others
    where
      others : (row : Row) → IsTaker row → (row.actions ≡ side.goes) ⊎ (row.priority < 0)
      others row (ByMany many actions priority) = absurd (false≢true (sym one ∙ many))
      others row (ByOff off actions priority) = absurd (false≢true (sym on_port ∙ off))
      others row (ByLets h actions priority) = inl actions
      others row (ByShut some actions priority) = absurd (false≢true (sym some ∙ none))
      others row (ByLast actions priority) = inl actions

  by_lets : is_many ≡ false → is_off ≡ false → list_any passes port.security ≡ true → Does side.goes
  by_lets one on_port some =
      let guard = any_gives passes port.security some in
      let parts = and_parts (eqb (value packet side.mac) guard.0.mac) (lets guard.0) guard.2 in
      let terms = any_gives terms_hold (side.terms guard.0) (meaning guard.0 guard.1 ∙ parts.1) in
      done_by_port (let_rule side port.name guard.0 terms.0) (let-from side is net port guard.0 terms.0 guard.1 terms.1) refl (let_rule-from guard.0 terms.0 parts.0 terms.2) others
    where
      others : (row : Row) → IsTaker row → (row.actions ≡ side.goes) ⊎ (row.priority < 90)
      others row (ByMany many actions priority) = absurd (false≢true (sym one ∙ many))
      others row (ByOff off actions priority) = absurd (false≢true (sym on_port ∙ off))
      others row (ByLets h actions priority) = inl actions
      others row (ByShut h actions priority) = inr (lower row.priority 90 50 priority (lit< tt))
      others row (ByLast actions priority) = inl actions

  by_shut : is_many ≡ false → is_empty port.security ≡ false → list_any passes port.security ≡ false → Does drops
  by_shut one some none = done_by_port (shut_rule side port.name) (shut-from side is net port some) refl at_port others
    where
      others : (row : Row) → IsTaker row → (row.actions ≡ drops) ⊎ (row.priority < 50)
      others row (ByMany many actions priority) = absurd (false≢true (sym one ∙ many))
      others row (ByOff h actions priority) = inl actions
      others row (ByLets let_through actions priority) = absurd (false≢true (sym none ∙ let_through))
      others row (ByShut h actions priority) = inl actions
      others row (ByLast actions priority) = inr (lower row.priority 50 0 priority (lit< tt))

  -- what is for many, or from many, meets its rule; else a disabled port drops, and one with guards wants one to let the packet through
  pub decided : Does (cond is_many side.many_does (cond is_off drops (cond (is_empty port.security || list_any passes port.security) side.goes drops)))
  decided = by is_many is_off (is_empty port.security) (list_any passes port.security) refl refl refl refl
    where
      by : (many off none some : Bool) → is_many ≡ many → is_off ≡ off → is_empty port.security ≡ none → list_any passes port.security ≡ some
          → Does (cond many side.many_does (cond off drops (cond (none || some) side.goes drops)))
      by true off none some m o n s = by_many m
      by false true none some m o n s = by_off m o
      by false false true some m o n s = by_last m o n
      by false false false true m o n s = by_lets m o s
      by false false false false m o n s = by_shut m n s

-- ---- the laws

pub checks_in : ChecksIn
unfolding next_stage stage_at all_stages
checks_in net switch packet on port of at =
    decided ingress_side ingress_is net switch packet on port of at (λ guard. is_empty guard.nets && lets_any_in guard packet || not (is_empty guard.nets) && lets_nets_in guard packet)
    (λ guard among. in_meaning (names net) packet on.formed guard (guard_nets net on.sound port of.0 guard among))
    ∙ ends (is_multicast (value packet EthSrc)) port.enabled (some_guard (lets_in packet) port)
  where
    ends : (many enabled passes : Bool)
        → run_actions (names net) LsInCheckPortSec (cond many drops (cond (not enabled) drops (cond passes goes_on drops))) packet ≡ cond (not many && enabled && passes) (On LsInPreAcl packet) (Ends (Some (Drop PortSec)))
    ends true enabled passes = refl
    ends false false passes = refl
    ends false true true = refl
    ends false true false = refl

pub checks_out : ChecksOut
unfolding pipeline_of
checks_out net switch packet on port of at =
    decided egress_side egress_is net switch packet on port of at (λ guard. is_empty guard.nets || lets_nets_out guard packet)
    (λ guard among. out_meaning (names net) packet on.formed guard (guard_nets net on.sound port of.0 guard among))
    ∙ ends (is_multicast (value packet EthDst)) (some_guard (lets_out packet) port)
  where
    ends : (many passes : Bool)
        → run_actions (names net) LsOutCheckPortSec (cond (many || false) goes_out (cond passes goes_out drops)) packet ≡ cond (many || passes) (Ends (Some (Deliver packet))) (Ends (Some (Drop PortSec)))
    ends true passes = refl
    ends false true = refl
    ends false false = refl
