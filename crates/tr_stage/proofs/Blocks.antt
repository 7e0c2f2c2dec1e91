-- What is left of a block's actions after one of them.
use Rattle.std.proofs.Common.{◌≡◌, false, List, [], ◌∷◌, length, sym, ap, ◌∙◌}
use Rattle.std.specs.Prelude.{◌==◌}
use Rattle.std.specs.Bool.{IsTrue}
use Rattle.std.specs.List.{list_all}
use Rattle.std.proofs.lemmas.Bool.{false≢true, and_parts}
use Rattle.pkt_core.specs.Packet.{Values}
use Rattle.expr_core.specs.Lookup.{Lookup}
use Rattle.act_core.specs.WellFormed.{is_step}
use Rattle.act_core.specs.declared.step.Step.{Step}
use Rattle.net_meaning.specs.declared.answer.Answer.{Answer}
use Rattle.sb_model.specs.declared.stage.Stage.{Stage}
use Rattle.tr_stage.specs.Machine.{StageEnd, Effect, after_change, effect, run_block}
use Rattle.tr_stage.specs.Machine.Effect.{Changed}
use Rattle.tr_stage.specs.Runnable.{is_change, is_block}

module _ (net : Lookup) (stage : Stage) (answer : Answer) (whole : StageEnd) where
  -- the actions that are left do what the whole block does, and the machine runs them
  abbrev pub IsLeft : List Step → Values → Type 0
  IsLeft rest packet = (whole ≡ run_block net stage answer rest packet) × IsTrue (list_all is_step rest) × IsTrue (is_block net stage rest)

  -- after a change the others are left
  pub goes_on : (step : Step) (others : List Step) (packet changed : Values) → (length others == 0) ≡ false → effect net stage step packet ≡ Changed changed
      → IsLeft (step ∷ others) packet → IsLeft others changed
  goes_on step [] packet changed some does left = absurd (false≢true (sym some))
  goes_on step (other ∷ others) packet changed some does left =
      let formed = and_parts (is_step step) (list_all is_step (other ∷ others)) left.1 in
      let run = and_parts (is_change net step) (is_block net stage (other ∷ others)) left.2 in
      (left.0 ∙ ap (λ (e : Effect). after_change e (run_block net stage answer (other ∷ others))) does, formed.1, run.1)
