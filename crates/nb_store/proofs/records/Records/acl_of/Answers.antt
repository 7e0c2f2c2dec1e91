use Rattle.std.proofs.Common.{ap, ◌∙◌}
use Rattle.nb_store.proofs.Owned.{acl_of, acl_of_found}
use Rattle.nb_store.proofs.records.Records.acl_of.Goals as goal

pub returns : goal.returns
returns c = c.tagged.ensures.record ∙ acl_of_found c.args.owner c.args.after c.self.inside.acls ∙ ap (λ net. acl_of c.args.owner c.args.after net.acls) c.self.view_is
