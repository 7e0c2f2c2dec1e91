-- No two rules of an ACL agree in stage, priority and match.
use Rattle.std.proofs.Common.{◌≡◌, ℕ, ◌+◌, Bool, true, false, List, [], ◌++◌, get_or, refl, ap, arith}
use Rattle.std.specs.Prelude.{if◌then◌else◌}
use Rattle.expr_core.specs.Formula.{Formula}
use Rattle.expr_core.specs.declared.typed.TypedAtom.{TypedAtom}
use Rattle.nb_records.specs.declared.acl.Verdict.{Verdict}
use Rattle.nb_records.specs.declared.acl.Verdict.TheVariants.{Allow, AllowRelated, AllowStateless, Drop, Reject}
use Rattle.nb_records.specs.declared.acl.Way.{Way}
use Rattle.nb_records.specs.declared.acl.Way.TheVariants.{From, To}
use Rattle.nb_model.specs.Readable.{is_priority}
use Rattle.sb_model.specs.declared.stage.Stage.{Stage}
use Rattle.sb_model.specs.declared.stage.Stage.TheVariants.{LsInPreAcl, LsOutPreAcl}
use Rattle.net_rows.specs.Acls.{acl_on_rules, acl_rules_at, refusing_rules, stage_of, tracked_rules, untracking_rules}
use Rattle.net_rows.specs.declared.inputs.AclOnInput.{AclOnInput}
use Rattle.net_rows.proofs.Differ.{RulesDiffer, by_stage}
use Rattle.net_rows.proofs.Pairs.{OfPairs}

-- What is to become of packets of a connection, and of others, is told by the first byte of the match: `ct.est && ..` and `!ct.est && ..`.
-- An ACL's match may open as many levels as a text may, so what is joined to it need not be read from its text.
refusing_apart : (stage : Stage) (priority : ℕ) (matching : Formula TypedAtom) (verdict : Verdict) → OfPairs RulesDiffer (refusing_rules stage priority matching verdict)
refusing_apart stage priority matching verdict =
    ((record { never = λ same_stage same_priority same_text. let first_bytes : 99 ≡ 33 = ap (λ (text : List ℕ). get_or text 0 0) same_text in absurd (omega arith) }, tt), (tt, tt))

-- the stages in which packets are to be tracked
abbrev is_before : Stage → Bool
is_before LsInPreAcl = true
is_before LsOutPreAcl = true
is_before other = false

tracked_apart : (way : Way) (priority : ℕ) (matching : Formula TypedAtom) (verdict : Verdict)
    → OfPairs RulesDiffer (untracking_rules way priority matching verdict ++ tracked_rules (stage_of way) priority matching verdict)
tracked_apart way priority matching Allow = (tt, tt)
tracked_apart way priority matching AllowRelated = (tt, tt)
tracked_apart From priority matching AllowStateless = ((by_stage is_before _ _ refl refl, tt), (tt, tt))
tracked_apart To priority matching AllowStateless = ((by_stage is_before _ _ refl refl, tt), (tt, tt))
tracked_apart way priority matching Drop = refusing_apart (stage_of way) priority matching Drop
tracked_apart way priority matching Reject = refusing_apart (stage_of way) priority matching Reject

pub acl_rules_apart : (input : AclOnInput) → OfPairs RulesDiffer (acl_on_rules input)
unfolding acl_on_rules
acl_rules_apart input = by (is_priority input.priority)
  where
    at : (tracks : Bool)
        → OfPairs RulesDiffer (acl_rules_at (input.priority + 1000) (record { way = input.way; priority = input.priority; matching = input.matching; verdict = input.verdict; tracks = tracks }))
    at true = tracked_apart input.way (input.priority + 1000) input.matching input.verdict
    at false = (tt, tt)

    by : (b : Bool) → OfPairs RulesDiffer (if b then acl_rules_at (input.priority + 1000) input else [])
    by true = at input.tracks
    by false = tt
