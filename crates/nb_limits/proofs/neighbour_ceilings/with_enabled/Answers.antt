use Rattle.std.proofs.Common.{sym}
use Rattle.std.specs.Str.{bytes_eq}
use Rattle.nb_records.specs.declared.switch.Port.{Port}
use Rattle.nb_store.proofs.Peering.{found_is_record}
use Rattle.nb_limits.proofs.Neighbours.{ports_rise}
use Rattle.nb_limits.proofs.neighbour_ceilings.with_enabled.Goals as goal

pub with_port_enabled-requires : goal.with_port_enabled-requires
with_port_enabled-requires c = record {
  there = found_is_record (λ (port : Port). port.id) (λ port. bytes_eq port.name c.args.name.now) c.args.records.now.ports c.in-Some.port.now (ports_rise c.args.records.now c.requires.limitless) (sym c.in-Some.ensures);
  rise = ports_rise c.args.records.now c.requires.limitless;
}
