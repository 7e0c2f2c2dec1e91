-- Which runs tell something: those of switches and routers, whose rows run. The number 0 is no datapath's.
use Rattle.std.proofs.Common.{◌≡◌, ℕ, ◌<◌, false, nat_lt, ◌&&◌, List, [], ap, sym, refl, subst, ◌∙◌, inl, inr, ◌⊎◌, arith}
use Rattle.std.specs.Prelude.{Option, Some, None, option_map, unwrap_or}
use Rattle.std.specs.Bool.{IsTrue}
use Rattle.std.specs.List.{Contains, list_all}
use Rattle.std.proofs.lemmas.Bool.{false_from_ne_true, and_parts, eqb-true, ltb-true}
use Rattle.std.proofs.lemmas.List.Elements.{Contains-append_cases}
use Rattle.nv_base.specs.declared.object.ObjId.{ObjId}
use Rattle.pkt_core.specs.Packet.{Values}
use Rattle.expr_eval.specs.MatchMeaning.{holds}
use Rattle.nb_records.specs.declared.router.RouterPort.{RouterPort}
use Rattle.nb_records.specs.declared.switch.Port.{Port}
use Rattle.nb_records.specs.declared.switch.Switch.{Switch}
use Rattle.nb_model.specs.Applies.{applies}
use Rattle.nb_model.specs.Belongs.{either}
use Rattle.nb_model.specs.Names.{names}
use Rattle.nb_model.specs.Network.{Network, same}
use Rattle.nb_model.specs.Sound.{IsSound, router_ids, switch_ids}
use Rattle.nb_model.proofs.Numbered.{are_used}
use Rattle.net_meaning.specs.Places.{datapath_at, router_port, switch_port}
use Rattle.net_rows.specs.Build.{all_rows}
use Rattle.net_rows.proofs.Elements.{any_gives, Contains-from_filter, Contains-map}
use Rattle.net_rows.proofs.Sound.{each_passes}
use Rattle.net_rows.proofs.Units.{IsRow, all_rows-gives}
use Rattle.lr_units.specs.Build.{router_rows}
use Rattle.lr_units.specs.Network.{network_rows}
use Rattle.lr_units.proofs.Datapaths.{row_on_router}
use Rattle.lr_units.proofs.Whole.{network_members}
use Rattle.sb_model.specs.Stage.{stage_at}
use Rattle.sb_model.specs.declared.row.Row.{Row}
use Rattle.sb_model.specs.declared.stage.Pipeline.{Pipeline}
use Rattle.sb_model.specs.declared.stage.Stage.{Stage}
use Rattle.sb_rows.specs.Match.{is_in_table}
use Rattle.sb_rows.proofs.Tables.{in_table-gives}
use Rattle.ct_core.specs.State.{State}
use Rattle.tr_stage.specs.Machine.{Flows, acting, flows_of, hit_at, kind_of}
use Rattle.tr_pipe.specs.Machine.{PipelineRun, go_on, on_to, over, run_from, run_pipeline, step}
use Rattle.tr_pipe.specs.Runnable.{IsRunnable}
use Rattle.tr_pipe.specs.Tracking.{Flight, coming}
use Rattle.ls_laws.specs.Steps.{flows_at}
use Rattle.tr_router.proofs.Networks.{router_there}
use Rattle.tr_walk.specs.inner.Telling.{AreRowsOf}
use Rattle.tr_walk.proofs.Datapaths.{switch_there}
use Rattle.tr_walk.proofs.Ends.{router_runs, switch_runs}
use Rattle.tr_walk.proofs.NetworkPorts.{find_gives, none_passes}

-- ---- where no row is

-- where no row takes a packet, nothing is told, and the state stays
stuck : (flows : Flows) (stage : Stage) (flight : Flight) → acting flows stage flight.packet ≡ None → run_from flows 128 stage flight ≡ over None flight.state
unfolding run_from step hit_at
stuck flows stage flight none = rw none refl

-- nor where there is no stage
nowhere : (flows : Flows) (pipeline : Pipeline) (table : ℕ) (packet : Values) (state : State) → ((stage : Stage) → acting flows stage packet ≡ None) → run_pipeline flows pipeline table packet state ≡ over None state
unfolding run_pipeline
nowhere flows pipeline table packet state none = by (stage_at (kind_of flows) pipeline table)
  where
    by : (at : Option Stage) → go_on (run_from flows 128) (on_to at (coming packet state)) ≡ over None state
    by None = refl
    by (Some stage) = stuck flows stage (coming packet state) (none stage)

-- ---- the number 0

module _ (net : Network) (sound : IsSound net) where
  from_one : (numbers : List ObjId) (number : ObjId) → IsTrue (list_all (λ n. nat_lt 0 n.0 && nat_lt n.0 net.next) numbers) → Contains numbers number → 0 < number.0
  from_one numbers number all there =
      ltb-true 0 number.0 (and_parts (nat_lt 0 number.0) (nat_lt number.0 net.next) (each_passes (λ (n : ObjId). nat_lt 0 n.0 && nat_lt n.0 net.next) numbers number all there)).0

  of_switch : (switch : Switch) → Contains net.switches switch → 0 < switch.id.0
  of_switch switch there = from_one (switch_ids net) switch.id (are_used net sound.numbered.below).switches (Contains-map (λ (s : Switch). s.id) net.switches switch there)

  -- each row is on a datapath
  of_row : (row : Row) → IsRow net row → 0 < row.dp.0
  of_row row (inl at) = subst (λ (d : ObjId). 0 < d.0) (ap (λ (r : Row). r.dp) at.is) (of_switch at.switch at.among)
  of_row row (inr (inl at)) =
      let of = switch_there net at.port sound at.among in subst (λ (d : ObjId). 0 < d.0) (of.2 ∙ ap (λ (r : Row). r.dp) at.is) (of_switch of.0 of.1)
  of_row row (inr (inr (inr at))) = subst (λ (d : ObjId). 0 < d.0) (ap (λ (r : Row). r.dp) at.is) (of_switch at.switch at.among)
  of_row row (inr (inr (inl at))) =
      subst (λ (d : ObjId). 0 < d.0) (ap (λ (r : Row). r.dp) at.is) (of_switch at.switch (Contains-from_filter (λ (s : Switch). applies net s.id at.acl) net.switches at.switch at.applied))

  of_router_row : (row : Row) → Contains (router_rows net) row → 0 < row.dp.0
  of_router_row row there =
      let at = any_gives (same row.dp) (router_ids net) (row_on_router net sound row there) in
      let above = from_one (router_ids net) at.0 (are_used net sound.numbered.below).routers at.1 in
      let is = eqb-true row.dp.0 at.0.0 at.2 in
      omega (arith, above, is)

  on_datapath : (row : Row) → Contains (network_rows net) row → 0 < row.dp.0
  on_datapath row there = by (Contains-append_cases (all_rows net) (router_rows net) row ((network_members net row).0 there))
    where
      by : Contains (all_rows net) row ⊎ Contains (router_rows net) row → 0 < row.dp.0
      by (inl at) = of_row row (all_rows-gives net row at)
      by (inr at) = of_router_row row at

  module _ (dp : ObjId) (zero_is : dp.0 ≡ 0) (packet : Values) where
    not_in_table : (stage : Stage) (row : Row) → Contains (network_rows net) row → (is_in_table dp stage row && holds (names net) packet row.matching) ≡ false
    not_in_table stage row there = false_from_ne_true _ (λ both.
        let in_it = in_table-gives dp stage row (and_parts (is_in_table dp stage row) (holds (names net) packet row.matching) both).0 in
        let same_number : row.dp.0 ≡ dp.0 = ap (λ (d : ObjId). d.0) in_it.0 in
        let above = on_datapath row there in
        omega (arith, above, same_number, zero_is))

    none_acts : (stage : Stage) → acting (flows_at net dp) stage packet ≡ None
    none_acts stage = none_passes (λ row. is_in_table dp stage row && holds (names net) packet row.matching) (network_rows net) (not_in_table stage)

    no_run : (pipeline : Pipeline) (table : ℕ) (state : State) → run_pipeline (flows_at net dp) pipeline table packet state ≡ over None state
    no_run pipeline table state = nowhere (flows_at net dp) pipeline table packet state none_acts

    -- nothing is told, nothing becomes of the packet, and the state stays
    module _ (pipeline : Pipeline) (table : ℕ) (state : State) where
      pub no_hits : (run_pipeline (flows_at net dp) pipeline table packet state).hits ≡ []
      no_hits = ap (λ (r : PipelineRun). r.hits) (no_run pipeline table state)

      pub no_outcome : (run_pipeline (flows_at net dp) pipeline table packet state).outcome ≡ None
      no_outcome = ap (λ (r : PipelineRun). r.outcome) (no_run pipeline table state)

      pub no_change : (run_pipeline (flows_at net dp) pipeline table packet state).state ≡ state
      no_change = ap (λ (r : PipelineRun). r.state) (no_run pipeline table state)

-- ---- the datapath of a port

-- that of a port of a switch, else of a router
abbrev dp_of : Option Port → Option RouterPort → ObjId
dp_of one other = unwrap_or (either (option_map (λ (p : Port). p.switch) one) (option_map (λ (p : RouterPort). p.router) other)) (record { 0 = 0 })

module _ (net : Network) (all : List Row) (are : AreRowsOf net all) where
  abbrev Runs : ObjId → Type 0
  Runs dp = IsRunnable (flows_of all (names net) dp)

  -- the rows of a switch, and of a router, run
  of_rows : (dp : ObjId) → IsRunnable (flows_at net dp) → Runs dp
  of_rows dp run = subst (λ (rows : List Row). IsRunnable (flows_of rows (names net) dp)) (sym are.all) run

  on_switch : (port : Port) → Contains net.ports port → Runs port.switch
  on_switch port there =
      let own = switch_there net port are.sound there in
      of_rows port.switch (subst (λ (d : ObjId). IsRunnable (flows_at net d)) own.2 (switch_runs net are.sound own.0 own.1 (are.run.switches own.0 own.1)))

  on_router : (port : RouterPort) → Contains net.router_ports port → Runs port.router
  on_router port there =
      let own = router_there net are.sound port there in
      of_rows port.router (subst (λ (d : ObjId). IsRunnable (flows_at net d)) (sym own.2) (router_runs net are.sound own.0 own.1 (are.run.routers own.0 own.1)))

  -- so do those of the datapath of a port, if there is one
  pub datapath_runs : (number : ObjId) → ((datapath_at net number).0 ≡ 0 → ⊥) → Runs (datapath_at net number)
  datapath_runs number some =
      by (switch_port net number) (λ port found. (find_gives (λ (p : Port). same p.id number) net.ports port found).0)
      (router_port net number) (λ port found. (find_gives (λ (p : RouterPort). same p.id number) net.router_ports port found).0) some
    where
      by : (one : Option Port) → ((port : Port) → one ≡ Some port → Contains net.ports port) → (other : Option RouterPort) → ((port : RouterPort) → other ≡ Some port → Contains net.router_ports port)
          → ((dp_of one other).0 ≡ 0 → ⊥) → Runs (dp_of one other)
      by (Some port) at other or_at some = on_switch port (at port refl)
      by None at (Some port) or_at some = on_router port (or_at port refl)
      by None at None or_at some = absurd (some refl)
