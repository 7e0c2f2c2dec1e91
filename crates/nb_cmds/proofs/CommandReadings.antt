-- What a command asks for is readable.
use Rattle.std.proofs.Common.{◌≡◌, ◌≤◌, ◌<◌, ◌+◌, ◌&&◌, ℕ, Bool, true, false, nat_lt, List, [], ◌∷◌, length, drop, take, Option, Some, None, Result, Ok, IfOk, Err, is_some, length-drop, refl, arith, if◌then◌else◌}
use Rattle.std.specs.Bool.{IsTrue}
use Rattle.std.specs.List.{list_all}
use Rattle.std.proofs.lemmas.Bool.{and_parts, and_from}
use Rattle.std.proofs.lemmas.Result.{IfOk-at_ok}
use Rattle.expr_check.specs.Printed.{IsPrintable}
use Rattle.nb_records.specs.declared.acl.Way.{Way}
use Rattle.nb_records.specs.declared.edit.Edit.{Edit}
use Rattle.nb_records.specs.declared.refusal.Refusal.{Refusal}
use Rattle.nb_records.specs.declared.refusal.Refusal.TheVariants.{WrongWords}
use Rattle.nb_records.specs.declared.router.NatKind.{NatKind}
use Rattle.nb_edit.specs.declared.verb.Verb.{Verb}
use Rattle.nb_edit.specs.declared.verb.Verb.TheVariants as verb
use Rattle.nb_read.specs.Then.{and_then}
use Rattle.nb_edit.specs.Call.{Call, call, number, text, is_there, at, maybe, from}
use Rattle.nb_edit.specs.Commands.{is_well_formed, formed, tested, named, said, option_count, read_command, other_option}
use Rattle.nb_edit.specs.Edits.{owner_kind, router_port_once, no_more, logical_of, rule, edit_of}
use Rattle.nb_edit.specs.Forms.{form, verb_of}
use Rattle.nb_read.specs.Lists.{names, members, networks, addresses, guards, port_options}
use Rattle.nb_edit.proofs.Fits.{has_places}
use Rattle.nb_read.specs.Readings.{object_name, is_set_name, set_name, is_owner_name, owner_name, way, verdict, proto, nat_kind, port_kind, state, mac, ip, network, nexthop, logical, vip, backends, priority, role_of, acl_match}
use Rattle.nb_words.specs.declared.command.Command.{Command}
use Rattle.nb_words.specs.declared.word.Word.{Word}
use Rattle.nv_base.specs.Name.{is_object_name}
use Rattle.nb_model.specs.Readable.{IsReadable, may_be, may_name, is_mac, is_ip4, are_addresses, are_guards, are_networks, is_cleared, is_nexthop, is_logical, may_change, is_frontend, is_backend, is_member, is_priority, MayBeRule}
use Rattle.nb_model.proofs.AddressReadings.{addresses_given, guards_given}
use Rattle.nb_model.proofs.ListReadings.{names_given, members_given, port_options_given, networks_given, backends_given}
use Rattle.nb_model.proofs.MatchReadings.{acl_match_given}
use Rattle.nb_model.proofs.Reading
use Rattle.nb_model.proofs.Reading.{goes_on, goes_on_anyway}
use Rattle.nb_model.proofs.WordReadings.{object_name_given, set_name_given, owner_name_given, priority_given, mac_given, ip_given, network_given, nexthop_given, logical_given, vip_given}

-- a word that may be there
maybe_given : {X : Type 0} (passes : X → Bool) (call : Call) (place : ℕ) (reading : ℕ → List ℕ → Result X Refusal) → IfOk (at call place reading) (λ x. IsTrue (passes x))
    → IfOk (maybe call place reading) (λ o. IsTrue (may_be passes o))
maybe_given {X} passes call place reading is = by (is_there call place)
  where
    by : (held : Bool) → IfOk (if held then and_then (at call place reading) (λ x. Ok (Some x)) else Ok None) (λ o. IsTrue (may_be passes o))
    by true = goes_on (λ x. IsTrue (passes x)) (λ o. IsTrue (may_be passes o)) (at call place reading) (λ x. Ok (Some x)) is (λ x passes. passes)
    by false = refl

both : {a b : Bool} → IsTrue a → IsTrue b → IsTrue (a && b)
both {a} {b} one other = and_from a b one other

-- A command's first word, after which it goes on.

module _ (call : Call) where
  object : (place : ℕ) (go_on : List ℕ → Result Edit Refusal) → ((name : List ℕ) → IsTrue (is_object_name name) → IfOk (go_on name) IsReadable) → IfOk (and_then (at call place object_name) go_on) IsReadable
  object place go_on more = goes_on (λ name. IsTrue (is_object_name name)) IsReadable (at call place object_name) go_on (object_name_given (number call place) (text call place)) more

  set : (go_on : List ℕ → Result Edit Refusal) → ((name : List ℕ) → IsTrue (is_set_name name) → IfOk (go_on name) IsReadable) → IfOk (and_then (at call 0 set_name) go_on) IsReadable
  set go_on more = goes_on (λ name. IsTrue (is_set_name name)) IsReadable (at call 0 set_name) go_on (set_name_given (number call 0) (text call 0)) more

  owner : (go_on : List ℕ → Result Edit Refusal) → ((name : List ℕ) → IsTrue (is_owner_name (owner_kind call) name) → IfOk (go_on name) IsReadable) → IfOk (and_then (at call 0 (owner_name (owner_kind call))) go_on) IsReadable
  owner go_on more =
      goes_on (λ name. IsTrue (is_owner_name (owner_kind call) name)) IsReadable (at call 0 (owner_name (owner_kind call))) go_on (owner_name_given (owner_kind call) (number call 0) (text call 0)) more

  maybe_object : (place : ℕ) (go_on : Option (List ℕ) → Result Edit Refusal) → ((name : Option (List ℕ)) → IsTrue (may_name name) → IfOk (go_on name) IsReadable) → IfOk (and_then (maybe call place object_name) go_on) IsReadable
  maybe_object place go_on more =
      goes_on (λ name. IsTrue (may_name name)) IsReadable (maybe call place object_name) go_on (maybe_given is_object_name call place object_name (object_name_given (number call place) (text call place))) more

-- what is given of NAT rules
may_change_given : (kind : Option NatKind) (call : Call) → IfOk (maybe call 2 (logical_of kind)) (λ p. IsTrue (may_change kind p))
may_change_given None call = by (is_there call 2)
  where
    by : (held : Bool) → IfOk (if held then and_then (at call 2 (logical_of None)) (λ p. Ok (Some p)) else Ok None) (λ p. IsTrue (may_change None p))
    by true = tt
    by false = refl
may_change_given (Some kind) call = maybe_given (is_logical kind) call 2 (logical_of (Some kind)) (logical_given kind (number call 2) (text call 2))

-- the words from a place on, of which there is one
some_from : {X : Type 0} (n : ℕ) (xs : List X) → n + 1 ≤ length xs → 0 < 0 + length (drop n xs)
some_from n xs enough = omega (arith, length-drop n xs)

-- the priority and the match of a rule
rule_given : (call : Call) (way : Option Way) → IfOk (rule call way) (MayBeRule way)
rule_given call None = tt
rule_given call (Some way) = by (is_there call 3)
  where
    by : (held : Bool) → IfOk (if held then and_then (at call 2 priority) (λ p. and_then (acl_match way (text call 3)) (λ m. Ok (Some (p, m)))) else Ok None) (MayBeRule (Some way))
    by true = goes_on (λ n. IsTrue (is_priority n)) (MayBeRule (Some way)) (at call 2 priority) _ (priority_given (number call 2) (text call 2)) (λ p small.
        goes_on (IsPrintable (role_of way)) (MayBeRule (Some way)) (acl_match way (text call 3)) _ (acl_match_given way (text call 3)) (λ m prints. (small, prints)))
    by false = tt

edit_given : (verb : Verb) (call : Call) → length (form verb).places ≤ length call.words → IfOk (edit_of verb call) IsReadable
edit_given verb.LsAdd call enough = object call 0 _ (λ name is. is)
edit_given verb.LrAdd call enough = object call 0 _ (λ name is. is)
edit_given verb.LsDel call enough = object call 0 _ (λ name is. is)
edit_given verb.LrDel call enough = object call 0 _ (λ name is. is)
edit_given verb.LspAdd call enough = object call 0 _ (λ switch first. object call 1 _ (λ port second. both first second))
edit_given verb.LspDel call enough = object call 0 _ (λ port is. is)
edit_given verb.LspSetAddresses call enough = object call 0 _ (λ port first.
    goes_on (λ list. IsTrue (are_addresses list)) IsReadable (from call 1 (addresses [])) _ (addresses_given [] (number call 1) (drop 1 call.words) refl) (λ list are. both first are))
edit_given verb.LspSetPortSecurity call enough = object call 0 _ (λ port first.
    goes_on (λ list. IsTrue (are_guards list)) IsReadable (from call 1 (guards [])) _ (guards_given [] (number call 1) (drop 1 call.words) refl) (λ list are. both first are))
edit_given verb.LspSetType call enough = object call 0 _ (λ port first. goes_on_anyway IsReadable (at call 1 port_kind) _ (λ kind. first))
edit_given verb.LspSetOptions call enough = goes_on_anyway IsReadable (router_port_once call) _ (λ once. object call 0 _ (λ port first.
    goes_on (λ name. IsTrue (may_name name)) IsReadable (from call 1 (port_options None)) _ (port_options_given None (number call 1) (drop 1 call.words) refl) (λ name is. both first is)))
edit_given verb.LspSetEnabled call enough = object call 0 _ (λ port first. goes_on_anyway IsReadable (at call 1 state) _ (λ enabled. first))
edit_given verb.LrpSetEnabled call enough = object call 0 _ (λ port first. goes_on_anyway IsReadable (at call 1 state) _ (λ enabled. first))
edit_given verb.LrpAdd call enough = object call 0 _ (λ router first. object call 1 _ (λ port second.
    goes_on (λ m. IsTrue (is_mac m)) IsReadable (at call 2 mac) _ (mac_given (number call 2) (text call 2)) (λ m third.
    goes_on (λ nets. IsTrue (are_networks nets)) IsReadable (from call 3 (networks [])) _ (networks_given [] (number call 3) (drop 3 call.words) (some_from 3 call.words enough) refl refl) (λ nets are.
    both (both (both first second) third) are))))
edit_given verb.LrpDel call enough = object call 0 _ (λ port is. is)
edit_given verb.LrRouteAdd call enough = object call 0 _ (λ router first.
    goes_on (λ p. IsTrue (is_cleared p)) IsReadable (at call 1 network) _ (network_given (number call 1) (text call 1)) (λ net second.
    goes_on (λ a. IsTrue (is_nexthop a)) IsReadable (at call 2 nexthop) _ (nexthop_given (number call 2) (text call 2)) (λ via third.
    maybe_object call 3 _ (λ port last. both (both (both first second) third) last))))
edit_given verb.LrRouteDel call enough = object call 0 _ (λ router first.
    goes_on (λ p. IsTrue (may_be is_cleared p)) IsReadable (maybe call 1 network) _ (maybe_given is_cleared call 1 network (network_given (number call 1) (text call 1))) (λ net second. both first second))
edit_given verb.LrNatAdd call enough = object call 0 _ (λ router first. goes_on_anyway IsReadable (at call 1 nat_kind) _ (λ kind.
    goes_on (λ a. IsTrue (is_ip4 a)) IsReadable (at call 2 ip) _ (ip_given (number call 2) (text call 2)) (λ external second.
    goes_on (λ p. IsTrue (is_logical kind p)) IsReadable (at call 3 (logical kind)) _ (logical_given kind (number call 3) (text call 3)) (λ inner third.
    goes_on_anyway IsReadable (no_more call 4) _ (λ none. both (both first second) third)))))
edit_given verb.LrNatDel call enough = object call 0 _ (λ router first. goes_on_anyway IsReadable (maybe call 1 nat_kind) _ (λ kind.
    goes_on (λ p. IsTrue (may_change kind p)) IsReadable (maybe call 2 (logical_of kind)) _ (may_change_given kind call) (λ addr second. both first second)))
edit_given verb.LbAdd call enough = object call 0 _ (λ lb first.
    goes_on (λ f. IsTrue (is_frontend f)) IsReadable (at call 1 vip) _ (vip_given (number call 1) (text call 1)) (λ front second.
    goes_on (λ all. IsTrue (nat_lt 0 (length all) && list_all (is_backend (is_some front.port)) all)) IsReadable (at call 2 (backends (is_some front.port))) _
    (backends_given (is_some front.port) (number call 2) (text call 2)) (λ list third. goes_on_anyway IsReadable (maybe call 3 proto) _ (λ p.
    let parts = and_parts (nat_lt 0 (length list)) (list_all (is_backend (is_some front.port)) list) third in both first (both (both second parts.0) parts.1)))))
edit_given verb.LbDel call enough = object call 0 _ (λ lb first.
    goes_on (λ f. IsTrue (may_be is_frontend f)) IsReadable (maybe call 1 vip) _ (maybe_given is_frontend call 1 vip (vip_given (number call 1) (text call 1))) (λ front second. both first second))
edit_given verb.LsLbAdd call enough = object call 0 _ (λ switch first. object call 1 _ (λ lb second. both first second))
edit_given verb.LrLbAdd call enough = object call 0 _ (λ router first. object call 1 _ (λ lb second. both first second))
edit_given verb.LsLbDel call enough = object call 0 _ (λ switch first. maybe_object call 1 _ (λ lb second. both first second))
edit_given verb.LrLbDel call enough = object call 0 _ (λ router first. maybe_object call 1 _ (λ lb second. both first second))
edit_given verb.AclAdd call enough = owner call _ (λ name first. goes_on_anyway IsReadable (at call 1 way) _ (λ w.
    goes_on (λ n. IsTrue (is_priority n)) IsReadable (at call 2 priority) _ (priority_given (number call 2) (text call 2)) (λ p small.
    goes_on (IsPrintable (role_of w)) IsReadable (acl_match w (text call 3)) _ (acl_match_given w (text call 3)) (λ m prints.
    goes_on_anyway IsReadable (at call 4 verdict) _ (λ v. (first, (small, prints)))))))
edit_given verb.AclDel call enough = owner call _ (λ name first. goes_on_anyway IsReadable (maybe call 1 way) _ (λ w.
    goes_on (MayBeRule w) IsReadable (rule call w) _ (rule_given call w) (λ r may. (first, may))))
edit_given verb.PgAdd call enough = set call _ (λ name first.
    goes_on (λ ports. IsTrue (list_all is_object_name ports)) IsReadable (from call 1 (names [])) _ (names_given [] (number call 1) (drop 1 call.words) refl) (λ ports are. both first are))
edit_given verb.PgSetPorts call enough = set call _ (λ name first.
    goes_on (λ ports. IsTrue (list_all is_object_name ports)) IsReadable (from call 1 (names [])) _ (names_given [] (number call 1) (drop 1 call.words) refl) (λ ports are. both first are))
edit_given verb.PgDel call enough = set call _ (λ name is. is)
edit_given verb.AsAdd call enough = set call _ (λ name first.
    goes_on (λ list. IsTrue (list_all is_member list)) IsReadable (from call 1 (members [])) _ (members_given [] (number call 1) (drop 1 call.words) refl) (λ list are. both first are))
edit_given verb.AsSet call enough = set call _ (λ name first.
    goes_on (λ list. IsTrue (list_all is_member list)) IsReadable (from call 1 (members [])) _ (members_given [] (number call 1) (drop 1 call.words) refl) (λ list are. both first are))
edit_given verb.AsDel call enough = set call _ (λ name is. is)
edit_given verb.SmbAdd call enough = object call 0 _ (λ port first.
    goes_on (λ a. IsTrue (is_ip4 a)) IsReadable (at call 1 ip) _ (ip_given (number call 1) (text call 1)) (λ addr second.
    goes_on (λ m. IsTrue (is_mac m)) IsReadable (at call 2 mac) _ (mac_given (number call 2) (text call 2)) (λ m third. both (both first second) third)))
edit_given verb.SmbDel call enough = object call 0 _ (λ port first.
    goes_on (λ a. IsTrue (is_ip4 a)) IsReadable (at call 1 ip) _ (ip_given (number call 1) (text call 1)) (λ addr second. both first second))

formed_given : (verb : Verb) (call : Call) → IfOk (formed verb call) IsReadable
formed_given verb call = Reading.tested IsReadable (is_well_formed verb call.options call.words) (edit_of verb call) WrongWords (λ fit. edit_given verb call (has_places verb call.options call.words fit))

tested_given : (verb : Verb) (call : Call) (other : Option ℕ) → IfOk (tested verb call other) IsReadable
tested_given verb call None = formed_given verb call
tested_given verb call (Some option) = tt

named_given : (first : ℕ) (options words : List Word) (verb : Option Verb) → IfOk (named first options words verb) IsReadable
named_given first options words None = tt
named_given first options words (Some verb) = tested_given verb (call options (first + length options + 1) words) (other_option first verb options)

said_given : (first : ℕ) (options words : List Word) → IfOk (said first options words) IsReadable
said_given first options [] = tt
said_given first options (name ∷ words) = named_given first options words (verb_of name.text)

pub command_readable : (command : Command) (edit : Edit) → read_command command ≡ Ok edit → IsReadable edit
command_readable command edit is =
    let count = option_count command.words in
    IfOk-at_ok IsReadable is (said_given command.first (take count command.words) (drop count command.words))
