use Rattle.std.proofs.Common.{◌≡◌, take}
use Rattle.sb_rows.proofs.row_list.RowListKept.copy.Given as goal

-- the rows so far are copied, in their order
abbrev pub invariant-loop-stored : goal.invariant-loop-stored
invariant-loop-stored l = l.copied.items ≡ take l.stored-index l.stored-items
