-- What leaves by a router may be hidden: the row of the rule that decides takes it, and is before each other row that does.
use Rattle.std.proofs.Common.{◌≡◌, ℕ, ◌+◌, ◌<◌, ◌^◌, Bool, true, false, cond, List, [], ◌∷◌, sym, ap, refl, subst, ◌∙◌, ◌⊎◌, inl, inr, arith}
use Rattle.std.specs.Prelude.{◌==◌, ◌&&◌, not, nat_le, Option, Some, None, fold, filter}
use Rattle.std.specs.Bool.{IsTrue}
use Rattle.std.specs.List.{Contains}
use Rattle.std.specs.Option.{option_map_or}
use Rattle.std.proofs.lemmas.Bool.{and_from, and_parts, eqb-true, false≢true, leb-true, ltb-true}
use Rattle.nv_base.specs.Block.{Block}
use Rattle.nv_base.specs.declared.field.Field.TheVariants.{CtState, Ip4Src}
use Rattle.nv_base.specs.declared.ip4.Ip4.{Ip4}
use Rattle.nv_base.specs.declared.object.ObjId.{ObjId}
use Rattle.expr_core.specs.Formula.Formula.{Not}
use Rattle.expr_core.specs.Lookup.{Lookup}
use Rattle.expr_core.specs.declared.predicate.Pred.TheVariants.{CtRpl}
use Rattle.expr_eval.specs.MatchMeaning.{holds, negation_holds}
use Rattle.pkt_core.specs.Packet.{Values, value}
use Rattle.pkt_core.specs.Prerequisite.{is_ip4}
use Rattle.pkt_core.specs.Tuple.{tuple, with_tuple}
use Rattle.pkt_core.specs.declared.tuple.Tuple.{Tuple}
use Rattle.ct_core.specs.Changes.{recorded}
use Rattle.ct_core.specs.Look.{flags_of, look}
use Rattle.ct_core.specs.Translation.{begun_as, snat_port, with_source}
use Rattle.ct_core.specs.declared.entry.Entry.{Entry}
use Rattle.ct_core.specs.declared.look.Look.{Look}
use Rattle.ct_core.specs.declared.look.Look.TheVariants.{Invalid, New, Found}
use Rattle.ct_core.specs.declared.look.Side.TheVariants.{Orig, Reply}
use Rattle.ct_core.specs.declared.zone.Zone.{Zone}
use Rattle.ct_core.specs.declared.zone.Zone.TheVariants.{Snat}
use Rattle.nb_records.specs.declared.router.Nat.{Nat}
use Rattle.nb_records.specs.declared.router.Router.{Router}
use Rattle.nb_model.specs.Names.{names}
use Rattle.nb_model.specs.Belongs.{is_snat, same_block}
use Rattle.nb_model.specs.Network.{Network, same}
use Rattle.nb_model.specs.Readable as readable
use Rattle.nb_model.specs.Readable.{is_block, is_logical}
use Rattle.nb_model.specs.Sound.{IsSound}
use Rattle.nb_read.specs.Readings.{cleared}
use Rattle.nv_table.specs.Table.{NumbersRise}
use Rattle.nb_router.specs.Vocabulary.{dnats, nats_of}
use Rattle.sb_model.specs.Make.{all_of, is_predicate}
use Rattle.sb_model.specs.Stage.{all_stages, next_stage, stage_at, stage_place}
use Rattle.sb_model.specs.declared.row.Row.{Row}
use Rattle.sb_model.specs.declared.stage.Stage.{Stage}
use Rattle.sb_model.specs.declared.stage.Stage.TheVariants.{LrOutSnat, LrOutDelivery}
use Rattle.net_router.specs.Input.{is_in_network}
use Rattle.net_router.specs.Translation as meaning
use Rattle.net_router.specs.Translation.{changes_source, closer, hidden_behind, hidden_by}
use Rattle.net_rows.specs.Build.{vip_input}
use Rattle.net_rows.specs.Unit.{row_of, unit_of, unit_of_datapath}
use Rattle.net_rows.specs.declared.rule.Rule.{Rule}
use Rattle.net_rows.proofs.Elements.{one_first, one_of_none, Contains-filter, Contains-from_filter}
use Rattle.net_rows.proofs.Sound.{each_passes, rises}
use Rattle.net_rows.proofs.SoundObjects.{IsBlock}
use Rattle.lr_rows.specs.Make.{is_within}
use Rattle.lr_rows.specs.Nat.{router_nat_rules}
use Rattle.lr_units.specs.Network.{network_rows}
use Rattle.lr_units.specs.Units.{binding_input, nat_rule_input, neighbour_input, router_nat_input, static_route_input, vip_addr_input}
use Rattle.ls_laws.proofs.PassingStages.{passing}
use Rattle.ls_laws.proofs.RuleStages.{from_rules_at, rules_at, the_only}
use Rattle.ls_laws.proofs.Tables.{filter_passes}
use Rattle.tr_pipe.specs.Machine as machine
use Rattle.tr_pipe.specs.Machine.{StageEnd, step}
use Rattle.tr_pipe.specs.Machine.StageEnd.{On}
use Rattle.tr_pipe.specs.Tracking.{Flight, with_packet}
use Rattle.lr_laws.specs.Steps.{IsOnRouter, flows_at}
use Rattle.lr_laws.proofs.Networks.{network_item}
use Rattle.lr_laws.proofs.OwnRules.{binding_stage, is_of_hosts, is_of_ports, is_of_routes, neighbour_stage, own_rule-gives, port_stage, route_stage}
use Rattle.lr_laws.proofs.PortRules.{port_has_net, port_rule-gives}
use Rattle.lr_laws.proofs.StageLayers.{does, step_by_row}
use Rattle.lr_laws.proofs.Tables.{IsNatRule, IsRule, own_rules, rows-nat, rows-router_nat}
use Rattle.lr_laws.proofs.Tables.IsRule.{OfRouter, OfPort, OfRoute, OfBinding, OfNeighbour, OfTranslation}
use Rattle.lr_laws.proofs.Tables.Translates.{OfNat, OfVip, OfVipAddr}
use Rattle.lr_laws.proofs.TranslationRules.{IsNatSays, hiding-from, hiding_rule, nat_rule-gives, vip_addr_rule-gives, vip_rule-gives}
use Rattle.lr_laws.proofs.TranslationRules.IsNatSays.{Answers, GivesBack, Hides as SaysHiding, Redirects}
use Rattle.lr_nat_laws.specs.Steps.{Hides, IsFlagged, changed_to, is_answer}
use Rattle.lr_nat_laws.proofs.Choosing.{IsAfter, IsFirst, ahead, chosen_alike, first_of, rises_kept}

-- ---- the rules of the stage

own : (dnats : Bool) → rules_at LrOutSnat (own_rules dnats) ≡ passing LrOutSnat ∷ []
unfolding router_nat_rules stage_place
own true = refl
own false = refl

of_router_nat : (dnats : Bool) → rules_at LrOutSnat (router_nat_rules (record { dnats = dnats })) ≡ passing LrOutSnat ∷ []
unfolding router_nat_rules stage_place
of_router_nat true = refl
of_router_nat false = refl

abbrev is_snat_stage : Stage → Bool
is_snat_stage LrOutSnat = true
is_snat_stage _ = false

-- ---- what hiding does is what is meant

module _ (flight : Flight) where
  room : (t : Tuple) (left : Option (List Entry)) → machine.where_room (Some LrOutDelivery) (with_packet flight (with_tuple flight.packet t)) left ≡ changed_to LrOutDelivery flight (meaning.where_room left (with_tuple flight.packet t) flight.state)
  room t (Some conns) = refl
  room t None = refl

  with_port_is : (zone : Zone) (external : Ip4) (port : Option ℕ) → machine.with_port (Some LrOutDelivery) zone external port flight ≡ changed_to LrOutDelivery flight (meaning.with_port zone external port flight.packet flight.state)
  with_port_is zone external (Some port) =
      room (with_source external port (tuple flight.packet)) (recorded (begun_as zone (with_source external port (tuple flight.packet)) flight.packet) flight.state.conns)
  with_port_is zone external None = refl

  pub hiding_is : (zone : Zone) (external : Ip4) (found : Look) → machine.hidden_by (Some LrOutDelivery) zone external flight found ≡ changed_to LrOutDelivery flight (hidden_behind zone external flight.packet flight.state found)
  hiding_is zone external New = with_port_is zone external (snat_port flight.state.conns zone (tuple flight.packet) external)
  hiding_is zone external Invalid = refl
  hiding_is zone external (Found place side related blocked) = refl

-- ---- the networks of rules

of_kind : (b : Bool) (net : Block) → IsTrue (cond b (is_block net && same_block net (cleared net)) (readable.is_ip4 net.base && (net.len == 32))) → IsBlock net
of_kind true net is =
    let block = (and_parts (is_block net) (same_block net (cleared net)) is).0 in
    let parts = and_parts (readable.is_ip4 net.base) (nat_le net.len 32) block in
    record { base = ltb-true net.base.0 (2 ^ 32) parts.0; len = leb-true net.len 32 parts.1 }
of_kind false net is =
    let parts = and_parts (readable.is_ip4 net.base) (net.len == 32) is in
    let len = eqb-true net.len 32 parts.1 in
    record { base = ltb-true net.base.0 (2 ^ 32) parts.0; len = omega (arith, len) }

logical_block : (net : Network) → IsSound net → (nat : Nat) → Contains net.nats nat → IsBlock nat.logical
logical_block net sound nat there =
    let fits = each_passes (λ (n : Nat). readable.is_ip4 n.external && is_logical n.kind n.logical) net.nats nat sound.readable.nats there in
    of_kind (is_snat nat.kind) nat.logical (and_parts (readable.is_ip4 nat.external) (is_logical nat.kind nat.logical) fits).1

-- ---- the stage

abbrev length_of : Nat → ℕ
length_of nat = nat.logical.len

abbrev number_of : Nat → ObjId
number_of nat = nat.id

closer_is : (best : Option Nat) (nat : Nat) → closer best nat ≡ ahead length_of number_of best nat
closer_is None nat = refl
closer_is (Some first) nat = refl

module _ (net : Network) (router : Router) (flight : Flight) (on : IsOnRouter net router flight.packet) (flagged : IsFlagged flight) where
  abbrev packet : Values
  packet = flight.packet

  abbrev known : Lookup
  known = names net

  abbrev Takes : Row → Type 0
  Takes row = holds known packet row.matching ≡ true

  -- what a rule's network asks of the packet
  abbrev is_in : Block → Bool
  is_in logical = is_in_network (value packet Ip4Src) logical

  abbrev no_answer : Bool
  no_answer = not (is_answer flight.look)

  no_reply : (found : Option Look) → value packet CtState ≡ option_map_or flags_of found 0 → negation_holds known packet (is_predicate CtRpl) ≡ not (is_answer found)
  no_reply None is = rw is refl
  no_reply (Some Invalid) is = rw is refl
  no_reply (Some New) is = rw is refl
  no_reply (Some (Found place Orig true blocked)) is = rw is refl
  no_reply (Some (Found place Orig false blocked)) is = rw is refl
  no_reply (Some (Found place Reply true blocked)) is = rw is refl
  no_reply (Some (Found place Reply false blocked)) is = rw is refl

  hides_match : (logical : Block) → IsBlock logical → holds known packet (all_of (Not (is_predicate CtRpl) ∷ is_within Ip4Src logical ∷ [])) ≡ (no_answer && ((is_ip4 packet && is_in logical) && true))
  hides_match logical is = λ i. no_reply flight.look flagged i && ((is_ip4 packet && network_item known (value packet Ip4Src) (on.formed.fits Ip4Src) logical is i) && true)

  -- ---- the rows

  abbrev last_row : Row
  last_row = row_of (unit_of_datapath router.id) (passing LrOutSnat)

  abbrev row_for : Nat → Row
  row_for nat = row_of (unit_of router.id nat.id) (hiding_rule (nat_rule_input nat))

  abbrev IsOwn : Nat → Type 0
  IsOwn nat = Contains (nats_of net router.id) nat

  data IsTaker (row : Row) : Type 0 where
    ByRule : (nat : Nat) → IsOwn nat → changes_source nat.kind ≡ true → row ≡ row_for nat → IsTaker row
    ByLast : row ≡ last_row → IsTaker row

  other_stage : {A : Type 0} (says : Rule) → says.stage ≡ LrOutSnat → is_snat_stage says.stage ≡ false → A
  other_stage says of_stage other = absurd (false≢true (sym other ∙ ap is_snat_stage of_stage))

  by_nat : (row : Row) (of : IsNatRule net router.id LrOutSnat row) → IsNatSays (nat_rule_input of.nat) of.says → IsTaker row
  by_nat row of (Answers is) = other_stage of.says of.of_stage (ap (λ (r : Rule). is_snat_stage r.stage) is)
  by_nat row of (GivesBack changes is) = other_stage of.says of.of_stage (ap (λ (r : Rule). is_snat_stage r.stage) is)
  by_nat row of (SaysHiding changes is) = ByRule of.nat of.among changes (of.is ∙ ap (row_of (unit_of router.id of.nat.id)) is)
  by_nat row of (Redirects changes is) = other_stage of.says of.of_stage (ap (λ (r : Rule). is_snat_stage r.stage) is)

  taker : (row : Row) → IsRule net router.id LrOutSnat row → IsTaker row
  taker row (OfRouter of) =
      let is = the_only (passing LrOutSnat) of.says (own_rule-gives LrOutSnat (passing LrOutSnat ∷ []) of.says (dnats net router.id) own of.in_rules of.of_stage) in
      ByLast (of.is ∙ ap (row_of (unit_of_datapath router.id)) is)
  taker row (OfPort of) =
      absurd (false≢true (ap is_of_ports (sym of.of_stage) ∙ port_stage net of.port of.says (port_rule-gives net of.port (port_has_net net on.sound of.port of.among) of.says of.in_rules)))
  taker row (OfRoute of) = absurd (false≢true (ap is_of_routes (sym of.of_stage) ∙ route_stage (static_route_input net of.route) of.says of.in_rules))
  taker row (OfBinding of) = absurd (false≢true (ap is_of_hosts (sym of.of_stage) ∙ binding_stage (binding_input of.port of.binding) of.says of.in_rules))
  taker row (OfNeighbour of) = absurd (false≢true (ap is_of_hosts (sym of.of_stage) ∙ neighbour_stage (neighbour_input net of.port of.other) of.says of.in_rules))
  taker row (OfTranslation (OfNat of)) = by_nat row of (nat_rule-gives (nat_rule_input of.nat) of.says of.in_rules)
  taker row (OfTranslation (OfVip of)) = other_stage of.says of.of_stage (ap (λ (r : Rule). is_snat_stage r.stage) (vip_rule-gives (vip_input of.lb of.vip) of.says of.in_rules).is)
  taker row (OfTranslation (OfVipAddr of)) = other_stage of.says of.of_stage (ap (λ (r : Rule). is_snat_stage r.stage) (vip_addr_rule-gives (vip_addr_input of.addr) of.says of.in_rules))

  -- ---- the rules that take the packet

  abbrev wanted : Nat → Bool
  wanted nat = changes_source nat.kind && is_in nat.logical

  abbrev candidates : List Nat
  candidates = filter wanted (nats_of net router.id)

  abbrev may : Bool
  may = is_ip4 packet && no_answer

  of_network : (nat : Nat) → IsOwn nat → Contains net.nats nat
  of_network nat own_one = Contains-from_filter (λ (n : Nat). same router.id n.router) net.nats nat own_one

  record IsTaken (nat : Nat) : Type 0 where
    may_be : may ≡ true
    among : Contains candidates nat

  taken : (nat : Nat) → IsOwn nat → changes_source nat.kind ≡ true → Takes (row_for nat) → IsTaken nat
  taken nat own_one changes takes =
      let all = and_parts no_answer ((is_ip4 packet && is_in nat.logical) && true) (sym (hides_match nat.logical (logical_block net on.sound nat (of_network nat own_one))) ∙ takes) in
      let both = and_parts (is_ip4 packet) (is_in nat.logical) (and_parts (is_ip4 packet && is_in nat.logical) true all.1).0 in
      record { may_be = and_from (is_ip4 packet) no_answer both.0 all.0; among = Contains-filter wanted (nats_of net router.id) nat own_one (and_from (changes_source nat.kind) (is_in nat.logical) changes both.1) }

  takes_it : (nat : Nat) → may ≡ true → Contains candidates nat → Takes (row_for nat)
  takes_it nat is there =
      let own_one = Contains-from_filter wanted (nats_of net router.id) nat there in
      let both = and_parts (is_ip4 packet) no_answer is in
      let in_it = (and_parts (changes_source nat.kind) (is_in nat.logical) (filter_passes wanted (nats_of net router.id) nat there)).1 in
      hides_match nat.logical (logical_block net on.sound nat (of_network nat own_one))
      ∙ and_from no_answer ((is_ip4 packet && is_in nat.logical) && true) both.1 (and_from (is_ip4 packet && is_in nat.logical) true (and_from (is_ip4 packet) (is_in nat.logical) both.0 in_it) refl)

  -- a row says the same as another, or is after it
  abbrev IsBelow : Row → Row → Type 0
  IsBelow r x = (does net router flight on LrOutSnat x ≡ does net router flight on LrOutSnat r) ⊎ ((x.priority < r.priority) ⊎ ((x.priority ≡ r.priority) × (r.hint.0 < x.hint.0)))

  -- ---- where no rule takes it

  abbrev its_step : StageEnd
  its_step = step (flows_at net router.id) LrOutSnat flight

  last_there : Contains (network_rows net) last_row
  last_there =
      rows-router_nat net router (passing LrOutSnat) on.among
      (from_rules_at LrOutSnat (router_nat_rules (router_nat_input net router)) (passing LrOutSnat ∷ []) (passing LrOutSnat) (of_router_nat (dnats net router.id)) (one_first (passing LrOutSnat) [] (passing LrOutSnat) refl))

  last_does : does net router flight on LrOutSnat last_row ≡ On LrOutDelivery flight
  unfolding next_stage stage_at all_stages
  last_does = refl

  goes_on_if : ((nat : Nat) → IsOwn nat → changes_source nat.kind ≡ true → Takes (row_for nat) → ⊥) → its_step ≡ On LrOutDelivery flight
  goes_on_if none = step_by_row net router flight on LrOutSnat last_row last_there refl refl refl others ∙ last_does
    where
      by : (x : Row) → Takes x → IsTaker x → IsBelow last_row x
      by x takes (ByRule nat own_one changes is) = absurd (none nat own_one changes (subst Takes is takes))
      by x takes (ByLast is) = inl (ap (does net router flight on LrOutSnat) is)

      others : (x : Row) → IsRule net router.id LrOutSnat x → Takes x → IsBelow last_row x
      others x of takes = by x takes (taker x of)

  -- ---- where one does

  hides_by : (nat : Nat) → may ≡ true → Contains candidates nat → ((other : Nat) → Contains candidates other → IsAfter length_of number_of other nat)
      → its_step ≡ changed_to LrOutDelivery flight (hidden_by router.id (Some nat) packet flight.state)
  unfolding next_stage stage_at all_stages
  hides_by nat is there first =
      step_by_row net router flight on LrOutSnat (row_for nat) in_network refl refl (takes_it nat is there) others
      ∙ ap (λ b. cond b (machine.hidden_by (Some LrOutDelivery) (Snat router.id) nat.external flight (look flight.state.conns (Snat router.id) packet)) (On LrOutDelivery flight)) (and_parts (is_ip4 packet) no_answer is).0
      ∙ hiding_is flight (Snat router.id) nat.external (look flight.state.conns (Snat router.id) packet)
    where
      own_one : IsOwn nat
      own_one = Contains-from_filter wanted (nats_of net router.id) nat there

      changes_it : changes_source nat.kind ≡ true
      changes_it = (and_parts (changes_source nat.kind) (is_in nat.logical) (filter_passes wanted (nats_of net router.id) nat there)).0

      of_router : router.id ≡ nat.router
      of_router =
          let number = eqb-true router.id.0 nat.router.0 (filter_passes (λ (n : Nat). same router.id n.router) net.nats nat own_one) in
          λ i. record { 0 = number i }

      in_network : Contains (network_rows net) (row_for nat)
      in_network =
          subst (λ (d : ObjId). Contains (network_rows net) (row_of (unit_of d nat.id) (hiding_rule (nat_rule_input nat)))) (sym of_router)
          (rows-nat net nat (hiding_rule (nat_rule_input nat)) (of_network nat own_one) (hiding-from (nat_rule_input nat) changes_it))

      by_order : (x : Row) (other : Nat) → x ≡ row_for other → IsAfter length_of number_of other nat → IsBelow (row_for nat) x
      by_order x other is (inl one) = inl (ap (does net router flight on LrOutSnat) (is ∙ ap row_for one))
      by_order x other is (inr (inl lower)) = let priority = ap (λ (r : Row). r.priority) is in inr (inl (omega (arith, lower, priority)))
      by_order x other is (inr (inr even)) =
          inr (inr (ap (λ (r : Row). r.priority) is ∙ ap (λ n. n + 1) even.0, subst (λ (h : ObjId). nat.id.0 < h.0) (sym (ap (λ (r : Row). r.hint) is)) even.1))

      by : (x : Row) → Takes x → IsTaker x → IsBelow (row_for nat) x
      by x takes (ByRule other own_other changes is_row) = by_order x other is_row (first other (taken other own_other changes (subst Takes is_row takes)).among)
      by x takes (ByLast is_row) = let priority = ap (λ (r : Row). r.priority) is_row in inr (inl (omega (arith, priority)))

      others : (x : Row) → IsRule net router.id LrOutSnat x → Takes x → IsBelow (row_for nat) x
      others x of takes = by x takes (taker x of)

  -- ---- the law

  abbrev hidden : List Nat → StageEnd
  hidden list = changed_to LrOutDelivery flight (hidden_by router.id (fold closer None list) packet flight.state)

  numbers_rise : NumbersRise number_of candidates
  numbers_rise = rises_kept length_of number_of wanted (nats_of net router.id) (rises_kept length_of number_of (λ (n : Nat). same router.id n.router) net.nats (rises number_of net.nats on.sound.numbered.order.nats))

  by_candidates : (list : List Nat) → candidates ≡ list → may ≡ true → its_step ≡ hidden candidates
  by_candidates [] none is = goes_on_if (λ nat own_one changes takes. one_of_none nat (subst (λ c. Contains c nat) none (taken nat own_one changes takes).among)) ∙ sym (ap hidden none)
  by_candidates (f ∷ more) some is =
      let first : IsFirst length_of number_of (f ∷ more) (fold (ahead length_of number_of) (Some f) more) = first_of length_of number_of f more (subst (NumbersRise number_of) some numbers_rise) in
      let chosen : fold closer (Some f) more ≡ Some first.one = chosen_alike closer (ahead length_of number_of) closer_is (Some f) more ∙ first.is in
      hides_by first.one is (subst (λ c. Contains c first.one) (sym some) first.among) (λ other there. first.others other (subst (λ c. Contains c other) some there))
      ∙ sym (ap hidden some ∙ ap (λ (n : Option Nat). changed_to LrOutDelivery flight (hidden_by router.id n packet flight.state)) chosen)

  hides_it : its_step ≡ cond may (hidden candidates) (On LrOutDelivery flight)
  hides_it = by may refl
    where
      by : (b : Bool) → may ≡ b → its_step ≡ cond b (hidden candidates) (On LrOutDelivery flight)
      by true is = by_candidates candidates refl is
      by false is = goes_on_if (λ nat own_one changes takes. false≢true (sym is ∙ (taken nat own_one changes takes).may_be))

pub hides : Hides
hides net router flight on flagged = hides_it net router flight on flagged
