use Rattle.std.proofs.Common.{ℕ, ap, ◌∙◌}
use Rattle.nb_store.proofs.Owned.{acl_saying, acl_saying_found}
use Rattle.nb_store.proofs.records.Records.acl_saying.Goals as goal

pub returns : goal.returns
returns c =
    let says : ℕ × ℕ = (c.args.priority, c.args.digest) in
    c.tagged.ensures.record ∙ acl_saying_found c.args.owner c.args.way says c.args.after c.self.inside.acls ∙ ap (λ net. acl_saying c.args.owner c.args.way says c.args.after net.acls) c.self.view_is
