use Rattle.std.proofs.Common.{◌≡◌, List, Some, false, sym, subst, ◌∙◌}
use Rattle.std.proofs.lemmas.Bool.{false≢true}
use Rattle.std.specs.Prelude.{Contains, IsTrue, ◌↔◌}
use Rattle.std.specs.BTreeMap.{is_at}
use Rattle.std.specs.Map.{lookup}
use Rattle.std.specs.Ordering.{nat_cmp}
use Rattle.sb_model.specs.declared.row.Row.{Row}
use Rattle.sb_rows.specs.inner.Tables.{key_of}
use Rattle.sb_rows.proofs.Flat.{contained_found, contained_there, none_is_some, some_is}
use Rattle.sb_rows.proofs.rows.Rows.contains.Goals as goal

pub returns-in-Some : goal.returns-in-Some
returns-in-Some c =
    let tables = c.self.inside.tables.entries in
    let row = c.args.row.now in
    let there : lookup (is_at (nat_cmp (key_of row))) tables ≡ Some c.in-Some.table.now = sym (rw c.table_key.ensures at c.in-Some.ensures.value) in
    subst (λ (rows : List Row). IsTrue c.contains.result ↔ Contains rows row) c.self.view_is (
      λ is. contained_there row (is_at (nat_cmp (key_of row))) tables c.in-Some.table.now there (c.contains.ensures.0 is),
      λ among.
          let at = contained_found row tables c.self.invariant.tables.rise c.self.invariant.tables.keyed among in
          c.contains.ensures.1 (subst (λ rows. Contains rows row) (some_is (sym at.1.0 ∙ there)) at.1.1),
    )

pub returns-in-None : goal.returns-in-None
returns-in-None c =
    let tables = c.self.inside.tables.entries in
    let row = c.args.row.now in
    subst (λ (rows : List Row). IsTrue false ↔ Contains rows row) c.self.view_is (
      λ no. absurd (false≢true no),
      λ among.
          let at = contained_found row tables c.self.invariant.tables.rise c.self.invariant.tables.keyed among in
          absurd (none_is_some ((rw c.table_key.ensures at c.in-None.ensures.value) ∙ at.1.0)),
    )
