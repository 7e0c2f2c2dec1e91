-- What is known of a stage stands at its place.
use Rattle.std.proofs.Common.{◌≡◌, ℕ, get_or, ap, refl, ◌∙◌}
use Rattle.sb_model.specs.declared.stage.Facts.{Facts}
use Rattle.sb_model.specs.declared.stage.TheConstants.{FACTS}
use Rattle.sb_model.specs.declared.stage.Stage.{Stage}
use Rattle.sb_model.specs.declared.stage.Stage.TheVariants.{LsInCheckPortSec}
use Rattle.sb_model.specs.Stage.{stage_place}
use Rattle.sb_model.specs.inner.Facts.{facts_of}

at_its_place : (s : Stage) (d : Facts) → get_or FACTS (stage_place s) d ≡ facts_of s
unfolding stage_place
at_its_place LsInCheckPortSec d = refl
at_its_place _ d = refl

pub facts_at : (s : Stage) (n : ℕ) (d : Facts) → n ≡ stage_place s → get_or FACTS n d ≡ facts_of s
facts_at s n d is = ap (λ (k : ℕ). get_or FACTS k d) is ∙ at_its_place s d
