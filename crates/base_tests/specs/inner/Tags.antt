-- The tags of the tests' ports.
use Rattle.std.specs.Prelude.{◌≡◌, true, List, [], ◌∷◌}
use Rattle.std.proofs.Common.{ap}
use Rattle.std.proofs.lemmas.Bool.{false≢true}
use Rattle.nv_base.specs.inner.Exact as tells
use Rattle.base_tests.specs.declared.ports.PortTag.{PortTag}
use Rattle.base_tests.specs.declared.ports.PortTag.TheVariants.{Named, On}
use Rattle.base_tests.specs.declared.ports.TagRef.{TagRef}
use Rattle.base_tests.specs.declared.ports.TagRef.TheVariants as borrowed
use Rattle.base_tests.specs.declared.ports.Port.{Port}
use Rattle.base_tests.specs.contracts.ports.PortTagPartialEq.TheImpl as eq_of

pub exact_tags : (a b : PortTag) → (eq_of.ghosts).eq a b ≡ true → a ≡ b
exact_tags (Named n) (Named m) e = ap Named (tells.list _ tells.number n m e)
exact_tags (Named n) (On s) e = absurd (false≢true e)
exact_tags (On s) (Named n) e = absurd (false≢true e)
exact_tags (On s) (On r) e = ap On (tells.object s r e)

abbrev pub tag_of : TagRef → PortTag
tag_of (borrowed.Named name) = Named name.now
tag_of (borrowed.On switch) = On switch

abbrev pub tags_of : Port → List PortTag
tags_of port = Named port.name ∷ On port.switch ∷ Named port.name ∷ []
