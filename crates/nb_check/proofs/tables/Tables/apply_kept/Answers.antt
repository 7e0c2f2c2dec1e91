use Rattle.std.proofs.Common.{ap, ◌∙◌, subst}
use Rattle.nb_model.specs.Network.{Network}
use Rattle.nb_model.specs.Sound.{port_ids, router_ids, router_port_ids}
use Rattle.nb_check.specs.inner.Going.{Since}
use Rattle.nb_check.specs.Undone.{back_all}
use Rattle.nb_check.proofs.Moves.{gone_since}
use Rattle.nb_check.proofs.Undone.{touched_alone}
use Rattle.nb_check.proofs.tables.Tables.apply_kept.Goals as goal

pub returns-in-Ok-clause-gone_ports : goal.returns-in-Ok-clause-gone_ports
returns-in-Ok-clause-gone_ports c =
    gone_since port_ids c.args.self.now c.apply_each.new.records c.apply_each.new.gone.objects.ports
    (subst (λ (net : Network). Since port_ids net c.apply_each.new.records c.apply_each.new.gone.objects.ports) c.self.view_is c.in-Ok.ensures.gone.ports)

pub returns-in-Ok-clause-gone_router_ports : goal.returns-in-Ok-clause-gone_router_ports
returns-in-Ok-clause-gone_router_ports c =
    gone_since router_port_ids c.args.self.now c.apply_each.new.records c.apply_each.new.gone.objects.router_ports
    (subst (λ (net : Network). Since router_port_ids net c.apply_each.new.records c.apply_each.new.gone.objects.router_ports) c.self.view_is c.in-Ok.ensures.gone.router_ports)

pub returns-in-Ok-clause-gone_routers : goal.returns-in-Ok-clause-gone_routers
returns-in-Ok-clause-gone_routers c =
    gone_since router_ids c.args.self.now c.apply_each.new.records c.apply_each.new.gone.objects.routers
    (subst (λ (net : Network). Since router_ids net c.apply_each.new.records c.apply_each.new.gone.objects.routers) c.self.view_is c.in-Ok.ensures.gone.routers)

pub returns-in-Ok-clause-touched : goal.returns-in-Ok-clause-touched
returns-in-Ok-clause-touched c =
    touched_alone c.apply_each.new.undos.items c.in-Ok.touched c.args.self.now c.apply_each.new.records
    (c.in-Ok.ensures.back ∙ ap (λ undos. back_all undos c.self.inside.records) c.new-undos.ensures.items ∙ c.self.view_is) c.in-Ok.ensures.touched
