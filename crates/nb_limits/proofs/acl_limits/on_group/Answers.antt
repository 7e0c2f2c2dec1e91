use Rattle.std.proofs.Common.{◌≡◌, ◌*◌, sym, ap, ◌∙◌, Option, Some, None, not, false, Bor, refl}
use Rattle.std.proofs.lemmas.Result.{IfOk-weaker}
use Rattle.std.specs.Option.{option_copied}
use Rattle.std.specs.Prelude.{is_some}
use Rattle.nb_records.specs.declared.acl.Acl.{Acl}
use Rattle.nb_model.specs.Network.{same}
use Rattle.nb_limits.specs.inner.GroupSwitches.{switch_count}
use Rattle.nb_limits.specs.inner.Weights.{weight, of_owner}
use Rattle.nb_limits.specs.inner.Within.{up_to}
use Rattle.nb_limits.proofs.Rest.{no_rest}
use Rattle.nb_limits.proofs.Sums.{sum_begins, sum_ends}
use Rattle.nb_limits.proofs.acl_limits.on_group.Goals as goal

none_copied : {R : Type 0} (found : Option (Bor R)) → is_some found ≡ false → option_copied found ≡ None
none_copied None none = refl
none_copied (Some there) none = absurd (cc)

pub returns-then-is_none : goal.returns-then-is_none
returns-then-is_none c =
    let none = none_copied c.acl_of.result (c.is_none.ensures ∙ ap not c.if-is_none.true) in
    sym (sum_ends _ _ _ _ _ (sum_begins (λ acl. weight c.args.measure acl * switch_count c.args.records.now c.args.group.now) c.args.bound _ _ refl)
    (no_rest (λ (acl : Acl). acl.id) (λ acl. same c.args.group.now.id acl.owner) None c.args.records.now.acls (sym c.acl_of.ensures ∙ none)))

pub returns : goal.returns
returns c =
    IfOk-weaker c.of_owner.result _ _
    (λ sum is. is ∙ ap (λ n. up_to c.args.bound (of_owner c.args.measure c.args.records.now c.args.group.now.id n)) c.in_ok-switches.ensures) c.of_owner.ensures
