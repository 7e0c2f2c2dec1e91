use Rattle.std.proofs.Common.{[], ◌∷◌, ◌∙◌, map}
use Rattle.std.proofs.lemmas.Result.{on_ok_weaker}
use Rattle.nv_generate.specs.Generated.{line_text, lines_of_switch}
use Rattle.nv_generate.specs.declared.line.Line.TheVariants.{Switch, RouterPort, Uplink, Acl}
use Rattle.nv_serve.proofs.Opened.{one_more, one_room, run_none}
use Rattle.nv_serve.proofs.open.run_switch.Goals as goal

pub run_one-requires : goal.run_one-requires
run_one-requires c =
    let s = c.args.session.now in
    let k = c.args.switch in
    one_room s s (map line_text (lines_of_switch k)) (line_text (Switch k)) (map line_text (RouterPort k ∷ Uplink k ∷ Acl k ∷ [])) (run_none s (map line_text (lines_of_switch k)) c.requires)

pub run_one-requires-2 : goal.run_one-requires-2
run_one-requires-2 c =
    let s = c.args.session.now in
    let k = c.args.switch in
    let all = map line_text (lines_of_switch k) in
    let one = one_more s s c.run_one.new.session all (line_text (Switch k)) (map line_text (RouterPort k ∷ Uplink k ∷ Acl k ∷ [])) c.in_ok-run_one.ensures (run_none s all c.requires) in
    one_room s c.run_one.new.session all (line_text (RouterPort k)) (map line_text (Uplink k ∷ Acl k ∷ [])) one

pub run_one-requires-3 : goal.run_one-requires-3
run_one-requires-3 c =
    let s = c.args.session.now in
    let k = c.args.switch in
    let all = map line_text (lines_of_switch k) in
    let one = one_more s s c.run_one.new.session all (line_text (Switch k)) (map line_text (RouterPort k ∷ Uplink k ∷ Acl k ∷ [])) c.in_ok-run_one.ensures (run_none s all c.requires) in
    let two = one_more s c.run_one.new.session c.run_one-2.new.session all (line_text (RouterPort k)) (map line_text (Uplink k ∷ Acl k ∷ [])) c.in_ok-run_one-2.ensures one in
    one_room s c.run_one-2.new.session all (line_text (Uplink k)) (line_text (Acl k) ∷ []) two

pub run_one-requires-4 : goal.run_one-requires-4
run_one-requires-4 c =
    let s = c.args.session.now in
    let k = c.args.switch in
    let all = map line_text (lines_of_switch k) in
    let one = one_more s s c.run_one.new.session all (line_text (Switch k)) (map line_text (RouterPort k ∷ Uplink k ∷ Acl k ∷ [])) c.in_ok-run_one.ensures (run_none s all c.requires) in
    let two = one_more s c.run_one.new.session c.run_one-2.new.session all (line_text (RouterPort k)) (map line_text (Uplink k ∷ Acl k ∷ [])) c.in_ok-run_one-2.ensures one in
    let three = one_more s c.run_one-2.new.session c.run_one-3.new.session all (line_text (Uplink k)) (line_text (Acl k) ∷ []) c.in_ok-run_one-3.ensures two in
    one_room s c.run_one-3.new.session all (line_text (Acl k)) [] three

pub returns : goal.returns
returns c =
    let s = c.args.session.now in
    let k = c.args.switch in
    let all = map line_text (lines_of_switch k) in
    let one = one_more s s c.run_one.new.session all (line_text (Switch k)) (map line_text (RouterPort k ∷ Uplink k ∷ Acl k ∷ [])) c.in_ok-run_one.ensures (run_none s all c.requires) in
    let two = one_more s c.run_one.new.session c.run_one-2.new.session all (line_text (RouterPort k)) (map line_text (Uplink k ∷ Acl k ∷ [])) c.in_ok-run_one-2.ensures one in
    let three = one_more s c.run_one-2.new.session c.run_one-3.new.session all (line_text (Uplink k)) (line_text (Acl k) ∷ []) c.in_ok-run_one-3.ensures two in
    on_ok_weaker c.run_one-4.result (λ is. is ∙ three.same) c.run_one-4.ensures
