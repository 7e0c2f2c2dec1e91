-- When two parts are equal by `==`.
use Rattle.std.specs.Prelude.{Bool, ◌&&◌, nat_eq}
use Rattle.std.specs.Cmp.Lexicographic.{pointwise}
use Rattle.expr_core.specs.declared.part.Part.{Part}
use Rattle.expr_core.specs.contracts.part.BitsPartialEq.TheImpl as bits_eq

-- of one name, and the same bits of it, whatever their offsets
abbrev pub part_eq : Part → Part → Bool
part_eq a b = pointwise nat_eq a.name b.name && (bits_eq.ghosts).eq a.bits b.bits
