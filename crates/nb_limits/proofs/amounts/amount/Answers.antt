use Rattle.nb_limits.proofs.Bounded.{is_told, some_told, the_told}
use Rattle.nb_limits.proofs.KnownAfter.{but_limits}
use Rattle.nb_limits.proofs.amounts.amount.Goals as goal

pub amount_within-requires : goal.amount_within-requires
amount_within-requires c = record { limitless = but_limits c.args.records.now c.requires }

pub unwrap-requires : goal.unwrap-requires
unwrap-requires c = some_told _ _ (is_told c.args.records.now c.requires c.args.kind c.in_ok-count.count c.in_ok-count.ensures.amount)

pub returns-clause-amount : goal.returns-clause-amount
returns-clause-amount c = the_told _ _ _ (is_told c.args.records.now c.requires c.args.kind c.in_ok-count.count c.in_ok-count.ensures.amount) c.unwrap.ensures
