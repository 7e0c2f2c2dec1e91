use Rattle.std.proofs.Common.{◌≡◌, ◌∙◌, not, filter, rules, ap}
use Rattle.std.specs.Map.{lookup}
use Rattle.indexmap.proofs.CallerLemmas.{filter-RetainsPairs}
use Rattle.ct_core.specs.inner.Exact.{zones_equal}
use Rattle.ct_table.specs.inner.Key.{keys_equal}
use Rattle.ct_table.proofs.Removed.{lookup-filter, turned}
use Rattle.ct_table.proofs.index.take_zone.Goals as goal

pub returns : goal.returns
returns c =
    let zone = c.args.zone in
    let left : c.retain.new.self.entries ≡ filter (λ e. not (zones_equal e.0.zone zone)) c.args.map.now.entries = filter-RetainsPairs _ _ _ (λ k v b w g call. search rules) _ _ c.retain.ensures.filtered in
    λ k. ap (lookup (keys_equal k)) left ∙ lookup-filter (λ key. not (zones_equal key.zone zone)) k c.args.map.now.entries ∙ turned (zones_equal k.zone zone) (lookup (keys_equal k) c.args.map.now.entries)
