-- Parts are equal by `==` in an equivalence.
use Rattle.std.specs.Cmp.{IsPartialEquivalence, IsEquivalence, partial_equiv_from_equiv, and_equiv, on_equiv, nat_eq_equiv}
use Rattle.std.specs.Cmp.Lexicographic.{lists_equiv}
use Rattle.expr_core.specs.EqualParts.{part_eq}
use Rattle.expr_core.specs.contracts.part.BitsEq.TheImpl.Laws.{laws-law as bits_equiv}

pub part_equiv : IsEquivalence part_eq
part_equiv = and_equiv (on_equiv (λ p. p.name) (lists_equiv nat_eq_equiv)) (on_equiv (λ p. p.bits) bits_equiv)

pub part_per : IsPartialEquivalence part_eq
part_per = partial_equiv_from_equiv part_equiv
