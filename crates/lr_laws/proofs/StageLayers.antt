-- What a packet's step through a stage of a router is, where the rows of the stage are told by layers.
use Rattle.std.proofs.Common.{◌≡◌, ◌<◌, true, List, sym, ap, ◌∙◌, ◌⊎◌, inl, inr}
use Rattle.std.proofs.lemmas.Bool.{false≢true}
use Rattle.std.specs.List.{AllByRecursion, Contains}
use Rattle.nb_records.specs.declared.router.Router.{Router}
use Rattle.nb_model.specs.Names.{names}
use Rattle.nb_model.specs.Network.{Network}
use Rattle.expr_eval.specs.MatchMeaning.{holds}
use Rattle.sb_model.specs.declared.row.Row.{Row}
use Rattle.sb_model.specs.declared.stage.Stage.{Stage}
use Rattle.sb_rows.proofs.Tables.{in_table-from, in_table-gives}
use Rattle.ls_laws.proofs.RuleStages.{each_of}
use Rattle.ls_laws.proofs.Takers.{IsMet, later_after, lower_after, met}
use Rattle.tr_pipe.specs.Machine.{StageEnd, acted, run_actions, step}
use Rattle.tr_pipe.specs.Tracking.{Flight}
use Rattle.lr_units.specs.Network.{network_rows}
use Rattle.lr_laws.specs.Steps.{IsOnRouter, flows_at}
use Rattle.lr_laws.proofs.Layers.{Fall, IsOfLayer, Layer, Meets, any_holds, first_end, meets_first}
use Rattle.lr_units.proofs.Whole.{network_in_order}
use Rattle.lr_laws.proofs.Tables.{IsRule, table-gives}

module _ (net : Network) (router : Router) (flight : Flight) (on : IsOnRouter net router flight.packet) (stage : Stage) where
  -- what a row does with the packet
  abbrev pub does : Row → StageEnd
  does row = run_actions (names net) router.id stage row.actions flight

  -- the match of a row holds of the packet
  abbrev pub Takes : Row → Type 0
  Takes row = holds (names net) flight.packet row.matching ≡ true

  -- each row that takes the packet is of a layer
  abbrev pub TakersAreOf : List (Layer StageEnd) → Type 0
  TakersAreOf layers = (row : Row) → IsRule net router.id stage row → Takes row → IsOfLayer does layers row

  -- a row of the network in this table, of a layer
  pub record HasRow (l : Layer StageEnd) : Type 0 where
    pub row : Row
    pub among : Contains (network_rows net) row
    pub of_dp : row.dp ≡ router.id
    pub of_stage : row.stage ≡ stage
    pub takes : Takes row
    pub priority : row.priority ≡ l.priority

  -- each layer whose test holds has a row that takes the packet
  abbrev pub HaveRows : List (Layer StageEnd) → Type 0
  HaveRows layers = (l : Layer StageEnd) → Contains layers l → l.test ≡ true → HasRow l

  pub step_by_layers : (layers : List (Layer StageEnd)) (last : StageEnd) → Fall layers → TakersAreOf layers → HaveRows layers → any_holds layers ≡ true → step (flows_at net router.id) stage flight ≡ first_end layers last
  unfolding step
  step_by_layers layers last fall takers rows_of any = ap (acted (names net) router.id stage flight) met.is ∙ met.done
    where
      met : Meets (names net) router.id stage flight.packet (network_rows net) does (first_end layers last)
      met =
          meets_first (names net) router.id stage flight.packet (network_rows net) (network_in_order net) does layers last fall
          (λ row takes. takers row (table-gives net router flight.packet on stage row takes.among takes.in_table) takes.takes)
          (λ l there holds. let own = rows_of l there holds in (own.row, record { among = own.among; in_table = in_table-from router.id stage own.row own.of_dp own.of_stage; takes = own.takes }, own.priority)) any

  -- a layer and its row, each by itself
  pub have_rows : (layers : List (Layer StageEnd)) → AllByRecursion (λ (l : Layer StageEnd). l.test ≡ true → HasRow l) layers → HaveRows layers
  have_rows layers all l there = each_of (λ (m : Layer StageEnd). m.test ≡ true → HasRow m) layers l all there

  -- The packet's step does what a row does that takes the packet, where each other row of the table that takes it does the same, or has a
  -- lower priority, or the same and a higher hint.
  pub step_by_row : (r : Row) → Contains (network_rows net) r → r.dp ≡ router.id → r.stage ≡ stage → Takes r
      → ((x : Row) → IsRule net router.id stage x → Takes x → (does x ≡ does r) ⊎ ((x.priority < r.priority) ⊎ ((x.priority ≡ r.priority) × (r.hint.0 < x.hint.0))))
      → step (flows_at net router.id) stage flight ≡ does r
  unfolding step
  step_by_row r there of_dp of_stage takes others = ap (acted (names net) router.id stage flight) at.is ∙ by (others at.row (table-gives net router flight.packet on stage at.row at.among at.in_table) at.takes)
    where
      at : IsMet (names net) router.id stage flight.packet (network_rows net) r
      at = met (names net) router.id stage flight.packet r (in_table-from router.id stage r of_dp of_stage) takes (network_rows net) (network_in_order net) there

      here : (at.row.dp ≡ router.id) × (at.row.stage ≡ stage)
      here = in_table-gives router.id stage at.row at.in_table

      by : (does at.row ≡ does r) ⊎ ((at.row.priority < r.priority) ⊎ ((at.row.priority ≡ r.priority) × (r.hint.0 < at.row.hint.0))) → does at.row ≡ does r
      by (inl same) = same
      by (inr (inl lower)) = absurd (false≢true (sym at.not_after ∙ lower_after at.row r (here.0 ∙ sym of_dp) (here.1 ∙ sym of_stage) lower))
      by (inr (inr later)) = absurd (false≢true (sym at.not_after ∙ later_after at.row r (here.0 ∙ sym of_dp) (here.1 ∙ sym of_stage) later.0 later.1))
