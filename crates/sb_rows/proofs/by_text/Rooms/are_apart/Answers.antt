use Rattle.std.proofs.Common.{sym, ◌∙◌}
use Rattle.sb_rows.proofs.Apart.{decided, not_true}
use Rattle.sb_rows.proofs.by_text.Rooms.are_apart.Goals as goal

pub returns-then-not-starts_with : goal.returns-then-not-starts_with
returns-then-not-starts_with c =
    let first = rw (c.as_slice-one.ensures.value, c.as_slice-other.ensures.value) at c.starts_with.ensures.value in
    let second = rw (c.as_slice-one.ensures.value, c.as_slice-other.ensures.value) at c.starts_with-then-not-starts_with.ensures.value in
    λ is. λ rest more. decided c.args.self.now.one.items c.args.self.now.other.items rest more (sym first ∙ c.if-not-starts_with.true) (sym second ∙ not_true _ is)
