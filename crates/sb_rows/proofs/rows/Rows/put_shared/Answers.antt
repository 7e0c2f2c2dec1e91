use Rattle.std.proofs.Common.{◌≡◌, subst, sym, ◌∙◌, ◌⊎◌}
use Rattle.std.proofs.lemmas.Bool.{false≢true}
use Rattle.std.specs.Prelude.{Contains, OnOk}
use Rattle.sb_model.specs.declared.row.Row.{Row}
use Rattle.sb_rows.proofs.Without.{are_kept, are_known, is_put}
use Rattle.sb_rows.proofs.rows.Rows.put_shared.Goals as goal

pub put_stored-requires-clause-absent : goal.put_stored-requires-clause-absent
put_stored-requires-clause-absent c =
    λ at. false≢true (sym c.if-contains.false ∙ c.contains.ensures.1 (subst (λ (r : Row). Contains c.args.self.now r) (c.in_ok-copied.ensures ∙ sym c.row.ensures) at))

pub returns-clause-put : goal.returns-clause-put
returns-clause-put c =
    subst (λ (r : Row). OnOk c.put_stored.result (Contains c.put_stored.new.self r)) c.in_ok-copied.ensures (is_put c.put_stored.result c.in_ok-copied.copied c.args.self.now c.put_stored.new.self c.put_stored.ensures.ok)

pub returns-clause-kept : goal.returns-clause-kept
returns-clause-kept c = are_kept c.put_stored.result c.in_ok-copied.copied c.args.self.now c.put_stored.new.self c.put_stored.ensures.ok c.put_stored.ensures.err

pub returns-clause-known : goal.returns-clause-known
returns-clause-known c r at =
    subst (λ (x : Row). Contains c.args.self.now r ⊎ (x ≡ r)) c.in_ok-copied.ensures (are_known c.put_stored.result c.in_ok-copied.copied c.args.self.now c.put_stored.new.self c.put_stored.ensures.ok c.put_stored.ensures.err r at)
