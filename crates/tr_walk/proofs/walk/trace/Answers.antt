use Rattle.std.proofs.Common.{rules, ◌≡◌, map}
use Rattle.tr_walk.specs.Events.{event_of, told_only}
use Rattle.tr_walk.specs.Machine.{machine}
use Rattle.tr_walk.proofs.Refinement.{told_meant}
use Rattle.tr_walk.proofs.walk.trace.Goals as goal

-- the events and the state are those of the machine, and these are meant
pub returns-in-Ok-clause-refinement : goal.returns-in-Ok-clause-refinement
returns-in-Ok-clause-refinement g c =
    let told : c.enter.new.events.items ≡ told_only c.args.minimal (map event_of (machine c.args.records.now c.args.hops c.args.port c.args.packet.now c.args.state.now).told) = search rules in
    let left : c.finish.new.state ≡ (machine c.args.records.now c.args.hops c.args.port c.args.packet.now c.args.state.now).state = search rules in
    told_meant c.args.records.now c.requires.sound c.args.hops c.args.port c.args.packet.now c.args.minimal (record { before = c.args.state.now; told = c.enter.new.events.items; after = c.finish.new.state }) c.fits_numbers.ensures c.fits_its_fields.ensures told left
