use Rattle.std.proofs.Common.{◌≡◌, None, Some, sym, ap, ◌∙◌}
use Rattle.std.specs.Option.{option_or}
use Rattle.nv_map.specs.Map.{first_entry}
use Rattle.nv_map.specs.Node.{tree_entries}
use Rattle.nv_map.proofs.Parted.{key_of, low_of, value_of, pair_of}
use Rattle.nv_map.proofs.Split.{first_or, mapped_or}
use Rattle.nv_map.proofs.search.+first.Goals as goal

pub returns-in-None : goal.returns-in-None
returns-in-None g t c =
    let node = c.in-Some.root.value in
    let low : tree_entries c.low.result.now ≡ node.0 = c.low.ensures ∙ low_of c.deref.ensures in
    let none : None ≡ first_entry node.0 = c.in-None.ensures ∙ ap first_entry low in
    let key : c.key.result.now ≡ node.1.0 = c.key.ensures ∙ key_of c.deref-in-None.ensures in
    let value : c.value.result.now ≡ node.1.1 = c.value.ensures ∙ value_of c.deref-in-None-2.ensures in
    ap Some (pair_of key value)
    ∙ ap (λ e. option_or e (Some node.1)) none
    ∙ sym (first_or node.0 node.1 node.2)
    ∙ sym (ap (λ tree. first_entry (tree_entries tree)) c.in-Some.is)

pub returns-in_default-first : goal.returns-in_default-first
returns-in_default-first g t c =
    let node = c.in-Some.root.value in
    let low : tree_entries c.low.result.now ≡ node.0 = c.low.ensures ∙ low_of c.deref.ensures in
    sym (mapped_or _ c.first.result (Some node.1) c.in_default-first.not-None)
    ∙ ap (λ e. option_or e (Some node.1)) (c.first.ensures ∙ ap first_entry low)
    ∙ sym (first_or node.0 node.1 node.2)
    ∙ sym (ap (λ tree. first_entry (tree_entries tree)) c.in-Some.is)
