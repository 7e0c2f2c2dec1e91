use Rattle.std.proofs.Common.{◌≡◌, ◌+◌, ◌++◌, ◌<◌, [], ◌∷◌, length, ap, ◌∙◌, arith}
use Rattle.std.proofs.lemmas.Bool.Decides.{nat_tests}
use Rattle.std.proofs.lemmas.List.{append-nil, length-append}
use Rattle.std.proofs.lemmas.List.Concat.{flat_map-append}
use Rattle.nb_records.specs.inner.Blocks.{joined, numbers_of}
use Rattle.nb_records.proofs.Counted.{counted_more}
use Rattle.nb_records.proofs.numbers.Numbers.put.Goals as goal

pub invariant_of-self-2 : goal.invariant_of-self-2
invariant_of-self-2 c =
    let items = c.args.numbers.value.items in
    let blocks = c.self.inside.blocks.items in
    let long : c.len.result ≡ length items = c.len.ensures ∙ c.deref-3.result.now.ok.0 ∙ ap (λ v. length v.items) c.deref-3.ensures in
    let long_first = c.deref.result.now.ok.0 ∙ ap (λ v. length v.items) c.deref.ensures in
    let test = c.is_empty.ensures in
    let none = c.if-is_empty.false in
    let some : 0 < length items = grind (arith, nat_tests, test, none, long_first) in
    let before = c.end_of.ensures ∙ ap (λ l. length (joined l)) c.deref-2.ensures.value in
    let more = ap length (flat_map-append numbers_of blocks (record { end = c.end_of.result + c.len.result; numbers = c.args.numbers } ∷ [])) in
    let both = length-append (joined blocks) (items ++ []) in
    let added = ap length (append-nil items) in
    let held = ap length c.self.view_is in
    rw (c.in_ok-push.ensures.items) (counted_more 0 blocks _ c.self.invariant.0 some (omega (arith, long, before)), omega (arith, more, both, added, held, c.requires))
