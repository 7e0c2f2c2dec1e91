use Rattle.std.proofs.Common.{◌∷◌, ◌++◌, ap, ◌∙◌, sym, arith}
use Rattle.std.specs.List.{flat_map}
use Rattle.nv_table.specs.Table.{order_at}
use Rattle.nb_records.specs.Tags.{ips_of, ip_tags, peer_tags, tag_cmp}
use Rattle.nb_records.specs.declared.tag.Tag.TheVariants as tag_of
use Rattle.nb_records.specs.declared.switch.PortKind.TheVariants as kind
use Rattle.nb_records.proofs.Told.{after_two}
use Rattle.nb_records.proofs.ports.PortRecord.compare_tag.Goals as goal

pub returns-in-Router-Some : goal.returns-in-Router-Some
returns-in-Router-Some c =
    let port = c.args.self.now in
    let peers = ap (λ k. peer_tags k port.router_port) c.in-Router-Some.is-0 ∙ ap (peer_tags kind.Router) c.in-Router-Some.is-1 in
    c.compare_after_name.ensures
    ∙ ap (λ o. order_at tag_cmp o c.args.tag.now) (sym (after_two (tag_of.Named port.name) (tag_of.Of port.switch) _ _ c.args.place (grind (arith, c.in_default))
    (ap (λ l. l ++ ip_tags (flat_map ips_of port.addresses)) peers ∙ ap (λ a. tag_of.Names c.in-Router-Some.name ∷ ip_tags (flat_map ips_of a)) (sym c.as_slice-in-Router-Some.ensures))))
