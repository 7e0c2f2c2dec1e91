use Rattle.std.proofs.Common.{◌≡◌, Bool, Option, cond, ap, sym, ◌∙◌}
use Rattle.std.specs.Option.{option_copied}
use Rattle.nb_records.specs.declared.acl.Acl.{Acl}
use Rattle.nb_model.specs.Network.{same}
use Rattle.net_choice.specs.inner.Acls.{first, first_taking}
use Rattle.net_choice.proofs.Sound.{acls_rise}
use Rattle.net_choice.proofs.Through.{fewer_left, fold_next, fold_whole}
use Rattle.net_choice.proofs.acls.first_of.Goals as goal
use Rattle.net_choice.proofs.acls.first_of.Goals.{then-takes, else-takes}

pub loop-acl-smaller : goal.loop-acl-smaller
loop-acl-smaller c = fewer_left (λ (x : Acl). x.id) (λ (x : Acl). same c.args.owner x.owner) c.loop-acl.last c.in-Some.acl.now c.args.records.now.acls (acls_rise c.args.records.now c.requires) c.in-Some.ensures

pub loop-acl-preserved : goal.loop-acl-preserved
loop-acl-preserved c =
    fold_next (λ (x : Acl). x.id) (λ (x : Acl). same c.args.owner x.owner) (first_taking c.args.records.now c.args.way c.args.packet.now) c.loop-acl.last c.args.records.now.acls
    _ _ c.loop-acl.invariant c.in-Some.acl.now (acls_rise c.args.records.now c.requires) c.in-Some.ensures _ with_it
  where
    chosen : Bool → Option Acl
    chosen taken = cond taken (first (option_copied c.loop-acl.best) c.in-Some.acl.now) (option_copied c.loop-acl.best)

    with_it : option_copied c.if-takes.best ≡ first_taking c.args.records.now c.args.way c.args.packet.now (option_copied c.loop-acl.best) c.in-Some.acl.now
    with_it = elim c.if-takes.branch [
      | then-takes w ↦ ap option_copied w.best-is ∙ w.first-best.ensures ∙ ap chosen (sym w.if-takes.true ∙ c.takes.ensures)
      | else-takes w ↦ ap option_copied w.best-is ∙ ap chosen (sym w.if-takes.false ∙ c.takes.ensures)
    ]

pub returns : goal.returns
returns c =
    fold_whole (λ (x : Acl). x.id) (λ (x : Acl). same c.args.owner x.owner) (first_taking c.args.records.now c.args.way c.args.packet.now) c.loop-acl.last c.args.records.now.acls
    _ _ c.loop-acl.invariant c.in_default.ensures
