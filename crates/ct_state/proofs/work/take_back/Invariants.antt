use Rattle.std.proofs.Common.{◌≡◌, ◌≤◌, vec_len, length, take}
use Rattle.std.specs.List.{AllByRecursion}
use Rattle.ct_state.specs.Work.{unmarked}
use Rattle.ct_state.specs.inner.Noted.{IsWithin}
use Rattle.ct_state.proofs.work.take_back.Given as goal

-- with the marks that are left, the connections are those of the beginning; the marks are of entries that are there
abbrev pub invariant-loop-old : goal.invariant-loop-old
invariant-loop-old l = record {
  back : unmarked l.marks.items l.conns ≡ unmarked l.fn.marks.items (take l.fn.began l.fn.conns);
  there : l.fn.began ≤ length l.conns;
  within : AllByRecursion (IsWithin l.fn.began) l.marks.items;
}

abbrev pub decreases-loop-old : goal.decreases-loop-old
decreases-loop-old l = vec_len l.marks
