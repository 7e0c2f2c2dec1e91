use Rattle.std.proofs.Common.{◌<◌, ◌≤◌, ◌+◌, ◌-◌, length, sym, subst, ap, ◌∙◌, slice_get, drop}
use Rattle.std.specs.List.{flat_map}
use Rattle.std.proofs.lemmas.Option.{slice_get-get_or}
use Rattle.nb_records.specs.Tags.{ips_of}
use Rattle.nb_records.proofs.Told.{in_piece, after_piece}
use Rattle.nb_records.proofs.ips.ip_at.Goals as goal

pub returns-then-place-ips : goal.returns-then-place-ips
returns-then-place-ips c =
    let here : c.loop-addr.place < length (ips_of c.addr-item.result) = subst (λ l. c.loop-addr.place < length l) c.ips_of-ips.ensures c.if-place-ips.true in
    sym (slice_get-get_or c.ips_of-ips.result.now c.loop-addr.place _ c.if-place-ips.true)
    ∙ ap (λ l. slice_get l c.loop-addr.place) c.ips_of-ips.ensures
    ∙ sym (in_piece ips_of c.args.addresses.now c.loop-addr.addr-index c.loop-addr.place c.addr-item.result c.loop-addr-test.true c.addr-item.is here)
    ∙ c.loop-addr.invariant

pub loop-addr-preserved : goal.loop-addr-preserved
loop-addr-preserved c =
    let after : length (ips_of c.addr-item.result) ≤ c.loop-addr.place = subst (λ l. length l ≤ c.loop-addr.place) c.ips_of-ips.ensures c.if-place-ips.false in
    ap (λ l. slice_get (flat_map ips_of (drop (c.loop-addr.addr-index + 1) c.args.addresses.now)) (c.loop-addr.place - length l)) c.ips_of-ips.ensures
    ∙ sym (after_piece ips_of c.args.addresses.now c.loop-addr.addr-index c.loop-addr.place c.addr-item.result c.loop-addr-test.true c.addr-item.is after)
    ∙ c.loop-addr.invariant
