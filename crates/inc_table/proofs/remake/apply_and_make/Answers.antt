use Rattle.std.proofs.Common.{◌≡◌, Bool, true, false, nat_lt, if◌then◌else◌, length, count_by, IfOk, sym, ap, ◌∙◌, subst}
use Rattle.std.proofs.lemmas.Bool.{lt-ltb, le-ltb}
use Rattle.inc_table.specs.Node.{is_put}
use Rattle.inc_table.proofs.remake.apply_and_make.Goals as goal

pub returns-then-as_slice-clause-fell_back : goal.returns-then-as_slice-clause-fell_back
returns-then-as_slice-clause-fell_back g c =
    let more : nat_lt g.row.FALL (length c.args.delta) ≡ true = sym (ap (λ l. nat_lt g.row.FALL (length l)) c.as_slice.ensures.changes) ∙ lt-ltb g.row.FALL (length c.as_slice.result.now) c.if-as_slice.true in
    subst (λ (b : Bool). IfOk c.change_all.result (λ report. report.fell_back ≡ b)) (sym more) c.change_all.ensures.fell_back

pub returns-then-as_slice-clause-made : goal.returns-then-as_slice-clause-made
returns-then-as_slice-clause-made g c =
    let more : nat_lt g.row.FALL (length c.args.delta) ≡ true = sym (ap (λ l. nat_lt g.row.FALL (length l)) c.as_slice.ensures.changes) ∙ lt-ltb g.row.FALL (length c.as_slice.result.now) c.if-as_slice.true in
    subst (λ (b : Bool). IfOk c.change_all.result (λ report. report.made ≡ (if b then length c.change_all.new.inputs else count_by (λ change. is_put change.1) c.args.delta))) (sym more) c.change_all.ensures.made

pub returns-clause-fell_back : goal.returns-clause-fell_back
returns-clause-fell_back g c =
    let few : nat_lt g.row.FALL (length c.args.delta) ≡ false = sym (ap (λ l. nat_lt g.row.FALL (length l)) c.as_slice.ensures.changes) ∙ le-ltb g.row.FALL (length c.as_slice.result.now) c.if-as_slice.false in
    subst (λ (b : Bool). IfOk c.change_each.result (λ report. report.fell_back ≡ b)) (sym few) c.change_each.ensures.fell_back

pub returns-clause-made : goal.returns-clause-made
returns-clause-made g c =
    let few : nat_lt g.row.FALL (length c.args.delta) ≡ false = sym (ap (λ l. nat_lt g.row.FALL (length l)) c.as_slice.ensures.changes) ∙ le-ltb g.row.FALL (length c.as_slice.result.now) c.if-as_slice.false in
    subst (λ (b : Bool). IfOk c.change_each.result (λ report. report.made ≡ (if b then length c.change_each.new.inputs else count_by (λ change. is_put change.1) c.args.delta))) (sym few) c.change_each.ensures.made
