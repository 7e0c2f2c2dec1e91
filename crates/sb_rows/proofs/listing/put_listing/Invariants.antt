use Rattle.std.proofs.Common.{◌≡◌, ◌++◌, take}
use Rattle.sb_rows.specs.Listing.{listing}
use Rattle.sb_rows.proofs.listing.put_listing.Given as goal

-- the listing of the datapaths so far comes after what was there
abbrev pub invariant-loop-dp : goal.invariant-loop-dp
invariant-loop-dp l = l.out.items ≡ l.fn.out.items ++ listing l.rows (take l.dp-index l.names) l.only
