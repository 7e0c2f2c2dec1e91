use Rattle.std.proofs.Common.{◌∙◌, sym}
use Rattle.ct_core.proofs.Ports.{own_chosen}
use Rattle.ct_table.proofs.conns.Conns.snat_port.Goals as goal

pub returns-then-is_free : goal.returns-then-is_free
returns-then-is_free c = own_chosen c.args.self.now c.args.zone c.args.tuple c.args.external (sym c.is_free.ensures ∙ c.if-is_free.true)
