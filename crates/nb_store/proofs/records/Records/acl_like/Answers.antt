use Rattle.std.proofs.Common.{ap, ◌∙◌}
use Rattle.std.specs.Prelude.{option_map}
use Rattle.nb_records.specs.declared.acl.Acl.{Acl}
use Rattle.nb_store.proofs.AclLikes.{none_like, found_like, others_like, fewer_acls}
use Rattle.nb_store.proofs.records.Records.acl_like.Goals as goal

pub loop-acl-smaller : goal.loop-acl-smaller
loop-acl-smaller c =
    fewer_acls c.args.owner c.args.way c.args.priority c.args.matching.now c.digest_of-digest.result c.digest_of-digest.ensures c.loop-acl.after c.args.self.now.acls c.in-Some.acl.now c.in-Some.ensures c.requires.rise

pub loop-acl-preserved : goal.loop-acl-preserved
loop-acl-preserved c =
    others_like c.args.owner c.args.way c.args.priority c.args.matching.now c.digest_of-digest.result c.digest_of-digest.ensures c.loop-acl.after c.args.self.now.acls c.requires.printed c.requires.readable
    c.in-Some.acl.now c.in-Some.ensures c.requires.rise c.is_same.result c.is_same.ensures c.if-is_same.false
    ∙ c.loop-acl.invariant

pub returns-then-is_same : goal.returns-then-is_same
returns-then-is_same c =
    ap (option_map (λ (acl : Acl). acl.id)) (found_like c.args.owner c.args.way c.args.priority c.args.matching.now c.digest_of-digest.result c.digest_of-digest.ensures c.loop-acl.after c.args.self.now.acls c.requires.printed c.requires.readable
    c.in-Some.acl.now c.in-Some.ensures c.requires.rise c.is_same.result c.is_same.ensures c.if-is_same.true ∙ c.loop-acl.invariant)

pub returns : goal.returns
returns c =
    ap (option_map (λ (acl : Acl). acl.id)) (none_like c.args.owner c.args.way c.args.priority c.args.matching.now c.digest_of-digest.result c.digest_of-digest.ensures c.loop-acl.after c.args.self.now.acls c.requires.printed c.requires.readable
    c.in_default.ensures ∙ c.loop-acl.invariant)
