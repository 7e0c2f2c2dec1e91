use Rattle.std.proofs.Common.{◌≡◌, ◌++◌, drop, false}
use Rattle.pkt_core.specs.Text.{conditions}
use Rattle.nv_base.specs.Growth.{GrowsAtEnd}
use Rattle.pkt_core.proofs.text.put_conditions.Given as goal

-- with the conditions of the fields that are left, what is there is the whole
abbrev pub invariant-loop-field : goal.invariant-loop-field
invariant-loop-field l = record {
  grown : GrowsAtEnd l.fn.out.items l.out.items;
  whole : l.out.items ++ conditions l.packet (drop l.field-index l.fields) l.before ≡ l.fn.out.items ++ conditions l.packet l.fields false;
}
