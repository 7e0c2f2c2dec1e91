use Rattle.std.proofs.Common.{◌≡◌, true, ap, sym, ◌∙◌}
use Rattle.std.specs.List.{list_any}
use Rattle.std.specs.Ordering.{is_eq}
use Rattle.std.specs.Prelude.{is_some}
use Rattle.nv_base.specs.declared.object.ObjId.{ObjId}
use Rattle.nv_map.specs.Map.{value_at}
use Rattle.nv_table.specs.Table.{record_of}
use Rattle.nb_records.specs.declared.router.Router.{Router}
use Rattle.inc_feed.specs.Feed.{has_key}
use Rattle.lr_units.specs.Units.{router_nat_units}
use Rattle.net_units.specs.Keys.{by_number, by_numbers}
use Rattle.nd_touched.proofs.Fed.{fed_units}
use Rattle.nd_owners.proofs.Kept.{first_stays, neither}
use Rattle.nd_nats.specs.inner.Found.{input_where}
use Rattle.nd_nats.proofs.Dnat.{input_alike, nat_at, never_of_owner}
use Rattle.nd_nats.proofs.router_nat.router_nat_delta.Goals as goal

pub returns-clause-tells : goal.returns-clause-tells
returns-clause-tells c = λ old before after was sound same has known now changed.
    c.in_ok-delta_of.ensures.tells (router_nat_units c.args.records.now)
    (fed_units by_number c.in_ok-keys.keys (router_nat_units old) (router_nat_units c.args.records.now) c.args.there.now _ has (λ key. sym (nat_at c.args.records.now after c.args.dnats.now c.requires.sound now key))
    (λ n not.
    let apart = neither (has_key by_number n c.in_ok-listed.listed) (is_some (value_at by_number n c.args.changed.now)) (has_key by_number n c.in_ok-keys.keys) (c.in_ok-keys.ensures n) not in
    let owned = neither (has_key by_number n c.args.touched.now.routers) (list_any (λ (pair : ObjId × ObjId). is_eq (by_number n pair.0)) c.args.touched.now.on_routers) (has_key by_number n c.in_ok-listed.listed) (c.in_ok-listed.ensures n) apart.0 in
    nat_at old before was sound known n
    ∙ ap (λ first. input_where first (record_of (λ (x : Router). x.id) n old.routers)) (first_stays was c.args.dnats.now c.args.changed.now changed n apart.1)
    ∙ input_alike (λ k. has_key by_numbers (n, k) c.args.touched.now.on_routers ≡ true) (value_at by_number n c.args.dnats.now) _ _ (never_of_owner n c.args.touched.now.on_routers owned.1) (same.routers n owned.0)
    ∙ sym (nat_at c.args.records.now after c.args.dnats.now c.requires.sound now n)))
