-- Kinds of datapaths, pipelines, stages and rows that are equal by `==` are one value.
use Rattle.std.proofs.Common.{◌≡◌, Bool, true}
use Rattle.std.proofs.lemmas.Bool.{eqb-true, and_parts}
use denote.Enum.Bare.{sameb, same_true}
use Rattle.nv_base.specs.inner.Exact as tells
use Rattle.nv_base.specs.inner.Exact.{Tells}
use Rattle.expr_core.specs.inner.Exact as of_matches
use Rattle.act_core.specs.inner.Exact as of_actions
use Rattle.sb_model.specs.contracts.stage.DatapathKind as kinds
use Rattle.sb_model.specs.contracts.stage.Pipeline as pipelines
use Rattle.sb_model.specs.contracts.stage.Stage as stages
use Rattle.sb_model.specs.contracts.row.RowPartialEq.TheImpl as row_eq
use Rattle.sb_model.specs.declared.stage.DatapathKind.{DatapathKind}
use Rattle.sb_model.specs.declared.stage.Pipeline.{Pipeline}
use Rattle.sb_model.specs.declared.stage.Stage.{Stage}
use Rattle.sb_model.specs.declared.row.Row.{Row}

-- the derived `==` of rows
abbrev pub same_row : Row → Row → Bool
same_row = (row_eq.ghosts).eq

pub kind : (a b : DatapathKind) → sameb kinds.the_type a b ≡ true → a ≡ b
kind = same_true kinds.the_type tt

pub pipeline : (a b : Pipeline) → sameb pipelines.the_type a b ≡ true → a ≡ b
pipeline = same_true pipelines.the_type tt

pub stage : (a b : Stage) → sameb stages.the_type a b ≡ true → a ≡ b
stage = same_true stages.the_type tt

pub row : Tells same_row
row a b e =
    let dp = and_parts _ _ e in
    let of_stage = and_parts _ _ dp.1 in
    let priority = and_parts _ _ of_stage.1 in
    let hint = and_parts _ _ priority.1 in
    let last = and_parts _ _ hint.1 in
    let dps : a.dp ≡ b.dp = tells.object _ _ dp.0 in
    let same_stages : a.stage ≡ b.stage = stage _ _ of_stage.0 in
    let priorities : a.priority ≡ b.priority = eqb-true _ _ priority.0 in
    let hints : a.hint ≡ b.hint = tells.object _ _ hint.0 in
    let same_matches : a.matching ≡ b.matching = of_matches.formula _ of_matches.typed_atom _ _ last.0 in
    let same_actions : a.actions ≡ b.actions = tells.list _ of_actions.action _ _ last.1 in
    λ i. record { dp = dps i; stage = same_stages i; priority = priorities i; hint = hints i; matching = same_matches i; actions = same_actions i }
