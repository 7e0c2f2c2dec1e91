use Rattle.std.proofs.Common.{◌≡◌, Bool, true, false, ap, sym, ◌∙◌, ◌⊎◌, inl, inr}
use Rattle.std.specs.Prelude.{◌&&◌}
use Rattle.nd_full.proofs.Unguarded.{no_acl_rows}
use Rattle.nd_full.proofs.ports.add_rows_in_acl_stages.Goals as goal

not_both : (a b : Bool) → ((a ≡ true) × (b ≡ false)) ⊎ (a ≡ false) → (a && b) ≡ false
not_both a b (inl first) = ap (λ x. x && b) first.0 ∙ first.1
not_both a b (inr second) = ap (λ x. x && b) second

-- no rows come
pub returns-else-is_to_router : goal.returns-else-is_to_router
returns-else-is_to_router c =
    no_acl_rows c.args.port.now c.args.tracks c.args.made.now
    (ap (λ b. b && c.args.tracks) (sym c.is_to_router.ensures) ∙ not_both c.is_to_router.result c.args.tracks c.else-is_to_router.either)
