use Rattle.std.proofs.Common.{◌≡◌, ◌++◌, Bool, map, append-nil, sym, ap, subst, ◌∙◌}
use Rattle.std.specs.Prelude.{OnOk}
use Rattle.tr_walk.specs.Events.{told_only}
use Rattle.tr_walk.specs.declared.event.Event.TheVariants as variants
use Rattle.tr_walk.proofs.ToldHits.{no_hits_told, all_hits_told}
use Rattle.tr_walk.proofs.run.tell_hits.Goals as goal

-- none
pub returns-then-minimal : goal.returns-then-minimal
returns-then-minimal c =
    sym (append-nil c.args.events.now.items)
    ∙ ap (λ told. c.args.events.now.items ++ told) (sym (no_hits_told c.args.hits.now))
    ∙ ap (λ (minimal : Bool). c.args.events.now.items ++ told_only minimal (map variants.Hit c.args.hits.now)) (sym c.if-minimal.true)

-- or all
pub returns : goal.returns
returns c =
    subst (λ told. OnOk c.put_hits.result (c.put_hits.new.events.items ≡ c.args.events.now.items ++ told))
    (sym (all_hits_told c.args.hits.now) ∙ ap (λ (minimal : Bool). told_only minimal (map variants.Hit c.args.hits.now)) (sym c.if-minimal.false)) c.put_hits.ensures
