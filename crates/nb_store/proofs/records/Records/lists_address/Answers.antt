use Rattle.nb_store.proofs.Reached.{by_told, by_many}
use Rattle.nb_store.proofs.records.Records.lists_address.Goals as goal

pub returns-then-lists_tagged-clause-listed : goal.returns-then-lists_tagged-clause-listed
returns-then-lists_tagged-clause-listed c =
    by_told c.args.value c.args.self.now.groups c.args.group c.args.self.now.ports c.lists_tagged.result c.lists_tagged.ensures.listed c.if-lists_tagged.true

pub returns-else-lists_tagged-clause-listed : goal.returns-else-lists_tagged-clause-listed
returns-else-lists_tagged-clause-listed c =
    by_many c.args.value c.args.self.now.groups c.args.group c.args.self.now.ports c.lists_tagged.result c.lists_tagged-else-lists_tagged.result c.lists_tagged.ensures.listed c.if-lists_tagged.false
    c.lists_tagged-else-lists_tagged.ensures.listed
