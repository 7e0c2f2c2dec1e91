use Rattle.std.proofs.Common.{◌≡◌, ◌<◌, Some, None, sym, ap, ◌∙◌, subst}
use Rattle.std.proofs.lemmas.Option.{same_Some}
use Rattle.nb_records.specs.declared.router.Router.{Router}
use Rattle.nb_records.specs.declared.switch.Switch.{Switch}
use Rattle.nv_table.specs.Table.{record_after}
use Rattle.nv_reply.proofs.Datapaths.{no_more, switch_next, router_next, other_router}
use Rattle.nv_reply.proofs.listing.next_datapath.Goals as goal

pub returns-in-None-None-clause-none : goal.returns-in-None-None-clause-none
returns-in-None-None-clause-none c =
    rw (sym c.switches.ensures, sym c.routers.ensures)
    (no_more c.switches.result.now c.routers.result.now c.args.last (sym c.in-None-None.ensures.record) (sym c.in-None-None.ensures'.record))

pub returns-in-None-Some-clause-next : goal.returns-in-None-Some-clause-next
returns-in-None-Some-clause-next c =
    rw (sym c.switches.ensures, sym c.routers.ensures)
    (router_next c.switches.result.now c.routers.result.now c.args.last c.in-None-Some.ensures.rise c.in-None-Some.ensures'.rise
    c.in-None-Some.router.now (sym c.in-None-Some.ensures'.record) (λ s there. absurd (let no : None ≡ Some s = c.in-None-Some.ensures.record ∙ there in cc)))

pub returns-in-Some-None-clause-next : goal.returns-in-Some-None-clause-next
returns-in-Some-None-clause-next c =
    rw (sym c.switches.ensures, sym c.routers.ensures)
    (switch_next c.switches.result.now c.routers.result.now c.args.last c.in-Some-None.ensures.rise c.in-Some-None.ensures'.rise
    c.in-Some-None.switch.now (sym c.in-Some-None.ensures.record) (λ r there. absurd (let no : None ≡ Some r = c.in-Some-None.ensures'.record ∙ there in cc)))

pub returns-then-switch-router-clause-next : goal.returns-then-switch-router-clause-next
returns-then-switch-router-clause-next c =
    rw (sym c.switches.ensures, sym c.routers.ensures)
    (switch_next c.switches.result.now c.routers.result.now c.args.last c.in-Some-Some.ensures.rise c.in-Some-Some.ensures'.rise
    c.in-Some-Some.switch.now (sym c.in-Some-Some.ensures.record)
    (λ r there. subst (λ (x : Router). c.in-Some-Some.switch.now.id.0 < x.id.0) (same_Some c.in-Some-Some.router.now r (c.in-Some-Some.ensures'.record ∙ there)) c.if-switch-router.true))

pub returns-else-switch-router-clause-next : goal.returns-else-switch-router-clause-next
returns-else-switch-router-clause-next c =
    rw (sym c.switches.ensures, sym c.routers.ensures)
    (router_next c.switches.result.now c.routers.result.now c.args.last c.in-Some-Some.ensures.rise c.in-Some-Some.ensures'.rise
    c.in-Some-Some.router.now (sym c.in-Some-Some.ensures'.record)
    (λ s there. subst (λ (x : Switch). c.in-Some-Some.router.now.id.0 < x.id.0) (same_Some c.in-Some-Some.switch.now s (c.in-Some-Some.ensures.record ∙ there))
    (other_router c.args.records.now c.requires c.args.last c.in-Some-Some.switch.now c.in-Some-Some.router.now
    (ap (record_after (λ (x : Switch). x.id) c.args.last) (sym c.switches.ensures) ∙ sym c.in-Some-Some.ensures.record)
    (ap (record_after (λ (x : Router). x.id) c.args.last) (sym c.routers.ensures) ∙ sym c.in-Some-Some.ensures'.record) c.if-switch-router.false)))
