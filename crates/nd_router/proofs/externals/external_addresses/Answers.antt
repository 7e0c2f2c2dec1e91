use Rattle.std.proofs.Common.{◌++◌, map, ap, ◌∙◌}
use Rattle.std.specs.List.{flat_map}
use Rattle.nb_router.specs.Vocabulary.{nats_of, vip_addresses}
use Rattle.nd_inputs.specs.inner.Numbered.{of_number}
use Rattle.nd_router.proofs.External.{are_collected}
use Rattle.nd_router.proofs.externals.external_addresses.Goals as goal

pub returns : goal.returns
returns c =
    are_collected c.args.records.now c.args.router.now c.requires.sound c.requires.there c.add_addresses_of_vips.new.addrs.items
    (c.in_ok-add_addresses_of_vips.ensures
    ∙ ap (λ lbs. c.add_addresses_of_nats.new.addrs.items ++ flat_map (of_number c.args.records.now vip_addresses) lbs) c.as_slice.ensures
    ∙ ap (λ addrs. addrs ++ flat_map (of_number c.args.records.now vip_addresses) c.args.router.now.lbs)
    (c.in_ok-add_addresses_of_nats.ensures ∙ ap (λ addrs. addrs ++ map (λ nat. nat.external) (nats_of c.args.records.now c.args.router.now.id)) c.new-addrs.ensures.items))
