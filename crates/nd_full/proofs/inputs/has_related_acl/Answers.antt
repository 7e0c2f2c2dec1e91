use Rattle.std.proofs.Common.{ap, sym, ◌∙◌}
use Rattle.std.specs.List.{list_any}
use Rattle.nb_records.specs.declared.acl.Acl.{Acl}
use Rattle.nb_model.specs.Network.{same}
use Rattle.nb_model.specs.Applies.{is_related}
use Rattle.nd_full.specs.inner.Made.{has_related}
use Rattle.nd_full.specs.inner.Owners.{acls_of}
use Rattle.nd_full.proofs.Sound.{acls_rise}
use Rattle.nv_table.proofs.Through.{all_left, these_fail, these_fewer, these_none, these_pass}
use Rattle.nd_full.proofs.inputs.has_related_acl.Goals as goal

pub loop-acl-init : goal.loop-acl-init
loop-acl-init c = ap (list_any (λ (x : Acl). is_related x.verdict)) (all_left (λ (x : Acl). x.id) (acls_of c.args.records.now c.args.owner))

pub loop-acl-smaller : goal.loop-acl-smaller
loop-acl-smaller c = these_fewer (λ (x : Acl). x.id) (λ (x : Acl). same c.args.owner x.owner) c.loop-acl.last c.args.records.now.acls c.in-Some.acl.now (acls_rise c.args.records.now c.requires) c.in-Some.ensures

pub loop-acl-preserved : goal.loop-acl-preserved
loop-acl-preserved c =
    these_fail (λ (x : Acl). x.id) (λ (x : Acl). same c.args.owner x.owner) c.loop-acl.last c.args.records.now.acls c.in-Some.acl.now (acls_rise c.args.records.now c.requires) c.in-Some.ensures
    (λ (x : Acl). is_related x.verdict) (has_related c.args.records.now c.args.owner) c.loop-acl.invariant (sym c.is_related.ensures ∙ c.if-is_related.false)

pub returns-then-is_related : goal.returns-then-is_related
returns-then-is_related c =
    these_pass (λ (x : Acl). x.id) (λ (x : Acl). same c.args.owner x.owner) c.loop-acl.last c.args.records.now.acls c.in-Some.acl.now (acls_rise c.args.records.now c.requires) c.in-Some.ensures
    (λ (x : Acl). is_related x.verdict) (has_related c.args.records.now c.args.owner) c.loop-acl.invariant (sym c.is_related.ensures ∙ c.if-is_related.true)

pub returns : goal.returns
returns c = these_none (λ (x : Acl). x.id) (λ (x : Acl). same c.args.owner x.owner) c.loop-acl.last c.args.records.now.acls c.in_default.ensures (λ (x : Acl). is_related x.verdict) (has_related c.args.records.now c.args.owner) c.loop-acl.invariant
