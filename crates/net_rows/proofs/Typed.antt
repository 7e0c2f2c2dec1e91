-- Each match of the rows of a sound network is well-typed.
use Rattle.std.proofs.Common.{◌≡◌, ℕ, ◌+◌, Bool, true, false, ◌&&◌, List, [], ◌++◌, refl, subst, inl, inr}
use Rattle.std.specs.Prelude.{if◌then◌else◌}
use Rattle.std.specs.List.{All, AllByRecursion, Contains}
use Rattle.std.proofs.lemmas.Bool.{and_parts}
use Rattle.nv_base.specs.declared.object.ObjId.{ObjId}
use Rattle.expr_core.specs.Formula.{Formula, Formulas}
use Rattle.expr_core.specs.Formula.Formula.{Leaf, Not, And, Or}
use Rattle.expr_core.specs.Formula.Formulas.{Nil, Cons}
use Rattle.expr_core.specs.TypeRules.{bits_fit, is_allowed, may_be_compared, may_stand_alone, right_fits, width_of}
use Rattle.expr_core.specs.WellTyped.{AreTyped, IsTyped, is_typed_atom}
use Rattle.expr_core.specs.declared.role.Role.{Role}
use Rattle.expr_core.specs.declared.role.Role.TheVariants as role
use Rattle.expr_core.specs.declared.subject.Subject.TheVariants.{Field}
use Rattle.expr_core.specs.declared.typed.TypedAtom.{TypedAtom}
use Rattle.expr_core.specs.declared.typed.TypedAtom.TheVariants.{Truth, Bare, Holds, Compare}
use Rattle.nb_records.specs.declared.acl.Verdict.{Verdict}
use Rattle.nb_records.specs.declared.acl.Verdict.TheVariants.{Allow, AllowRelated, AllowStateless, Drop, Reject}
use Rattle.nb_records.specs.declared.acl.Way.{Way}
use Rattle.nb_read.specs.Readings.{role_of}
use Rattle.nb_model.specs.Network.{Network}
use Rattle.nb_model.specs.Readable.{is_priority}
use Rattle.nb_model.specs.Sound.{IsSound}
use Rattle.sb_model.specs.declared.row.Row.{Row}
use Rattle.sb_model.specs.declared.stage.Stage.{Stage}
use Rattle.sb_rows.specs.Row.{HasTypedMatch}
use Rattle.net_rows.specs.Acls.{acl_on_rules, acl_rules_at, is_reply, is_shut_out, refusing_rules, stage_of, switch_acl_rules, tracked_rules, tracking_rules, untracking_rules}
use Rattle.net_rows.specs.Build.{acl_on_input, all_rows, port_rules, switch_acl_input, switch_l2_input, switch_rules, vip_input}
use Rattle.net_rows.specs.LoadBalancers.{switch_lb_rules, vip_switch_rules}
use Rattle.net_rows.specs.Lookup.{switch_l2_rules, unknown_rules}
use Rattle.net_rows.specs.PortSecurity.{switch_sec_rules}
use Rattle.net_rows.specs.Unit.{row_of}
use Rattle.net_rows.specs.declared.inputs.AclOnInput.{AclOnInput}
use Rattle.net_rows.specs.declared.inputs.SwitchAclInput.{SwitchAclInput}
use Rattle.net_rows.specs.declared.inputs.SwitchL2Input.{SwitchL2Input}
use Rattle.net_rows.specs.declared.rule.Rule.{Rule}
use Rattle.net_rows.specs.declared.rule.Unit.{Unit}
use Rattle.net_rows.proofs.ApartPort.{port_rules_printable}
use Rattle.net_rows.proofs.Differ.{HasPrintable}
use Rattle.net_rows.proofs.Elements.{every_append, All-from_members}
use Rattle.net_rows.proofs.Pairs.{every_member, every_weaker}
use Rattle.net_rows.proofs.SoundObjects.{acl_of_sound}
use Rattle.net_rows.proofs.SoundVips.{IsSoundVip, balancer_on, vips_are_sound}
use Rattle.net_rows.proofs.Units.{IsRow, IsSwitchRow, IsPortRow, IsAclRow, IsLbRow, all_rows-gives}
use Rattle.net_rows.proofs.VipRules.{vip_switch_printable}

-- ---- a row may ask for anything

atom_in_row : (may : Role) (a : TypedAtom) → is_typed_atom may a ≡ true → is_typed_atom role.Row a ≡ true
atom_in_row may (Truth b) typed = refl
atom_in_row may (Bare f bits) typed = (and_parts (is_allowed may (Field f)) (bits_fit (width_of (Field f)) bits && may_stand_alone (Field f) bits) typed).1
atom_in_row may (Holds p) typed = refl
atom_in_row may (Compare f bits rel right) typed =
    (and_parts (is_allowed may (Field f)) ((bits_fit (width_of (Field f)) bits && right_fits (width_of (Field f)) bits right) && may_be_compared (Field f) bits rel right) typed).1

mutual
  in_row : (may : Role) (t : Formula TypedAtom) → IsTyped may t → IsTyped role.Row t
  in_row may (Leaf a) typed = atom_in_row may a typed
  in_row may (Not t) typed = in_row may t typed
  in_row may (And ts) typed = all_in_row may ts typed
  in_row may (Or ts) typed = all_in_row may ts typed

  all_in_row : (may : Role) (ts : Formulas TypedAtom) → AreTyped may ts → AreTyped role.Row ts
  all_in_row may Nil typed = tt
  all_in_row may (Cons t ts) typed = (in_row may t typed.0, all_in_row may ts typed.1)

-- ---- rules

-- the match of the rule is well-typed in a row
abbrev IsTypedRule : Rule → Type 0
IsTypedRule r = IsTyped role.Row r.matching

abbrev AreTypedRules : List Rule → Type 0
AreTypedRules rules = AllByRecursion IsTypedRule rules

-- those of a switch
shut_out_typed : IsTyped role.Row is_shut_out
shut_out_typed = (refl, (((refl, (refl, tt)), (refl, tt)), tt))

reply_typed : IsTyped role.Row is_reply
reply_typed = (refl, (refl, tt))

tracking_typed : (tracks balances : Bool) → AreTypedRules (if tracks then tracking_rules balances else [])
tracking_typed true balances =
    (refl, (refl, (refl, (refl, (refl, (refl, (shut_out_typed, (shut_out_typed, (reply_typed, (reply_typed, (refl, (refl, tt))))))))))))
tracking_typed false balances = tt

switch_acl_typed : (input : SwitchAclInput) → AreTypedRules (switch_acl_rules input)
unfolding switch_acl_rules
switch_acl_typed input = (refl, (refl, (refl, (refl, (refl, (refl, (refl, (refl, tracking_typed input.tracks input.balances))))))))

unknown_typed : (unknown : Bool) → AreTypedRules (unknown_rules unknown)
unknown_typed true = (refl, tt)
unknown_typed false = tt

switch_l2_typed : (input : SwitchL2Input) → AreTypedRules (switch_l2_rules input)
unfolding switch_l2_rules
switch_l2_typed input = (refl, (refl, (refl, (refl, unknown_typed input.unknown))))

switch_typed : (net : Network) (switch : ObjId) → AreTypedRules (switch_rules net switch)
switch_typed net switch =
    let of_acls = switch_acl_rules (switch_acl_input net switch) in
    let of_l2 = switch_l2_rules (switch_l2_input net switch) in
    every_append IsTypedRule switch_sec_rules (of_acls ++ (switch_lb_rules ++ of_l2)) (refl, (refl, (refl, (refl, tt))))
    (every_append IsTypedRule of_acls (switch_lb_rules ++ of_l2) (switch_acl_typed (switch_acl_input net switch))
    (every_append IsTypedRule switch_lb_rules of_l2 (refl, tt) (switch_l2_typed (switch_l2_input net switch))))

-- those of an ACL
module _ (matching : Formula TypedAtom) (typed : IsTyped role.Row matching) (priority : ℕ) where
  refusing_typed : (stage : Stage) (verdict : Verdict) → AreTypedRules (refusing_rules stage priority matching verdict)
  refusing_typed stage verdict = ((refl, (typed, tt)), ((refl, (typed, tt)), tt))

  tracked_typed : (way : Way) (verdict : Verdict) → AreTypedRules (untracking_rules way priority matching verdict ++ tracked_rules (stage_of way) priority matching verdict)
  tracked_typed way Allow = (typed, tt)
  tracked_typed way AllowRelated = (typed, tt)
  tracked_typed way AllowStateless = (typed, (typed, tt))
  tracked_typed way Drop = refusing_typed (stage_of way) Drop
  tracked_typed way Reject = refusing_typed (stage_of way) Reject

acl_typed : (input : AclOnInput) → IsTyped role.Row input.matching → AreTypedRules (acl_on_rules input)
unfolding acl_on_rules
acl_typed input typed = by (is_priority input.priority)
  where
    at : (tracks : Bool)
        → AreTypedRules (acl_rules_at (input.priority + 1000) (record { way = input.way; priority = input.priority; matching = input.matching; verdict = input.verdict; tracks = tracks }))
    at true = tracked_typed input.matching typed (input.priority + 1000) input.way input.verdict
    at false = (typed, tt)

    by : (b : Bool) → AreTypedRules (if b then acl_rules_at (input.priority + 1000) input else [])
    by true = at input.tracks
    by false = tt

-- ---- rows

-- a row of a rule whose match is well-typed
row_typed : (unit : Unit) (rules : List Rule) (says : Rule) (row : Row) → AreTypedRules rules → Contains rules says → row_of unit says ≡ row → HasTypedMatch row
row_typed unit rules says row typed there is = subst HasTypedMatch is (every_member IsTypedRule rules says typed there)

module _ (net : Network) (sound : IsSound net) (row : Row) where
  switch_row : IsSwitchRow net row → HasTypedMatch row
  switch_row of = row_typed _ (switch_rules net of.switch.id) of.says row (switch_typed net of.switch.id) of.in_rules of.is

  port_row : IsPortRow net row → HasTypedMatch row
  port_row of =
      row_typed _ (port_rules net of.port) of.says row (every_weaker HasPrintable IsTypedRule (port_rules net of.port) (λ r can. can.typed) (port_rules_printable net sound of.port of.among))
      of.in_rules of.is

  acl_row : IsAclRow net row → HasTypedMatch row
  acl_row of =
      let typed = in_row (role_of of.acl.way) of.acl.matching (acl_of_sound net sound of.acl of.among).typed in
      row_typed _ (acl_on_rules (acl_on_input net of.acl of.switch.id)) of.says row (acl_typed (acl_on_input net of.acl of.switch.id) typed) of.in_rules of.is

  lb_row : IsLbRow net row → HasTypedMatch row
  lb_row of =
      let input = vip_input of.lb of.vip in
      let is = every_member IsSoundVip of.lb.vips of.vip (vips_are_sound net sound of.lb (balancer_on net of.switch.id of.lb of.attached)) of.in_lb in
      row_typed _ (vip_switch_rules input) of.says row (every_weaker HasPrintable IsTypedRule (vip_switch_rules input) (λ r can. can.typed) (vip_switch_printable input is.low is.service)) of.in_rules of.is

  one_row : IsRow net row → HasTypedMatch row
  one_row (inl of) = switch_row of
  one_row (inr (inl of)) = port_row of
  one_row (inr (inr (inl of))) = acl_row of
  one_row (inr (inr (inr of))) = lb_row of

pub all_rows_typed : (net : Network) → IsSound net → All HasTypedMatch (all_rows net)
all_rows_typed net sound = All-from_members HasTypedMatch (all_rows net) (λ row there. one_row net sound row (all_rows-gives net row there))
