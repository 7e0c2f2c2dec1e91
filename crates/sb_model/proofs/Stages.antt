-- The stages, each at its place, and the first and the next ones.
use Rattle.std.proofs.Common.{lit<, ◌≡◌, ◌≢◌, ℕ, ◌+◌, ◌<◌, ◌≤◌, Bool, true, Option, Some, None, get_or, length, eqb, refl, sym, ap, subst, arith, ◌∙◌}
use Rattle.std.specs.Prelude.{◌&&◌}
use Rattle.std.specs.List.{slice_get}
use Rattle.std.proofs.lemmas.Bool.{eqb-true, and_parts}
use Rattle.std.proofs.lemmas.Option.{slice_get_read, slice_get_past}
use Rattle.sb_model.specs.declared.stage.DatapathKind.{DatapathKind}
use Rattle.sb_model.specs.declared.stage.DatapathKind.TheVariants.{Switch, Router}
use Rattle.sb_model.specs.declared.stage.Pipeline.{Pipeline}
use Rattle.sb_model.specs.declared.stage.Pipeline.TheVariants.{Ingress, Egress}
use Rattle.sb_model.specs.declared.stage.Stage.{Stage}
use Rattle.sb_model.specs.declared.stage.Stage.TheVariants.{LsInCheckPortSec}
use Rattle.sb_model.specs.Stage.{all_stages, stage_place, stage_at, stage_table, next_stage, is_same_kind}
use Rattle.sb_model.specs.inner.Beside.{if_beside}

-- each stage has a place, below 26
pub place_within : (s : Stage) → stage_place s < 26
unfolding stage_place
place_within LsInCheckPortSec = lit< tt
place_within _ = lit< tt

-- so there are fewer than 32
pub place_below : (s : Stage) → stage_place s < 32
place_below s = let within = place_within s in omega (arith, within)

-- each stage is at its place
pub at_its_place : (s : Stage) → get_or all_stages (stage_place s) LsInCheckPortSec ≡ s
unfolding all_stages stage_place
at_its_place LsInCheckPortSec = refl
at_its_place _ = refl

-- stages of one place are one stage
pub stage_from_place : (s t : Stage) → stage_place s ≡ stage_place t → s ≡ t
stage_from_place s t e = sym (at_its_place s) ∙ ap (λ n. get_or all_stages n LsInCheckPortSec) e ∙ at_its_place t

-- each pipeline has a first stage
pub first_is_there : (kind : DatapathKind) (pipeline : Pipeline) → stage_at kind pipeline 0 ≢ None
unfolding stage_at all_stages
first_is_there Switch Ingress e = cc
first_is_there Switch Egress e = cc
first_is_there Router Ingress e = cc
first_is_there Router Egress e = cc

-- the next stage is the one at the next place, if that is of the same pipeline
pub next_is_beside : (s : Stage) → next_stage s ≡ if_beside s (slice_get all_stages (stage_place s + 1))
unfolding next_stage stage_at all_stages stage_place
next_is_beside LsInCheckPortSec = refl
next_is_beside _ = refl

-- so it is told by what is at that place, or by the end of the stages
pub next_at : (s other : Stage) (n : ℕ) → n ≡ stage_place s + 1 → n < length all_stages → other ≡ get_or all_stages n other → next_stage s ≡ if_beside s (Some other)
next_at s other n is within there = next_is_beside s ∙ ap (if_beside s) (rw is at (slice_get_read all_stages (length all_stages) n other refl within there))

pub next_past : (s : Stage) (n : ℕ) → n ≡ stage_place s + 1 → length all_stages ≤ n → next_stage s ≡ None
next_past s n is past = next_is_beside s ∙ ap (if_beside s) (rw is at (slice_get_past all_stages n past))

-- they are 26
pub counted : length all_stages ≡ 26
unfolding all_stages
counted = refl

-- whether a next stage has the next place, and is of the same kind of datapath
goes_up : Stage → Option Stage → Bool
goes_up stage None = true
goes_up stage (Some later) = eqb (stage_place later) (stage_place stage + 1) && is_same_kind (stage_table stage).kind (stage_table later).kind

each_goes_up : (s : Stage) → goes_up s (next_stage s) ≡ true
unfolding goes_up next_stage stage_at all_stages stage_place
each_goes_up LsInCheckPortSec = refl
each_goes_up _ = refl

-- the next stage is of the same kind of datapath, at the next place
pub next_goes_up : (s later : Stage) → next_stage s ≡ Some later → (is_same_kind (stage_table s).kind (stage_table later).kind ≡ true) × (stage_place later ≡ stage_place s + 1)
unfolding goes_up
next_goes_up s later there =
    let parts = and_parts _ _ (subst (λ found. goes_up s found ≡ true) there (each_goes_up s)) in
    (parts.1, eqb-true _ _ parts.0)
