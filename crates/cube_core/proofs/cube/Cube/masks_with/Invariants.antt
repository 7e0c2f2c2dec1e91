use Rattle.std.specs.Prelude.{bit_or}
use Rattle.pkt_core.specs.Packet.{value}
use Rattle.cube_core.proofs.Fields.{Made}
use Rattle.cube_core.proofs.cube.Cube.masks_with.Given as goal

-- the fields before this one have the numbers of both
abbrev pub invariant-loop-field : goal.invariant-loop-field
invariant-loop-field l = Made (λ field. bit_or (value l.self.mask field) (value l.other.mask field)) l.packet l.field-index
