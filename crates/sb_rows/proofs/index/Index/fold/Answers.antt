use Rattle.sb_rows.proofs.index.Index.fold.Goals as goal

pub returns : goal.returns
returns c r p there covered = c.fold_all.ensures r p (c.clear.ensures r p there covered)
