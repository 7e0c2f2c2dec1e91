-- The line of a refusal.
use Rattle.std.specs.Prelude.{ℕ, List, [], ◌++◌, codes, decimal}
use Rattle.nv_base.specs.Field.{field_name}
use Rattle.nb_records.specs.declared.refusal.Kind.{Kind}
use Rattle.nb_records.specs.declared.refusal.Kind.TheVariants as kind
use Rattle.nb_records.specs.declared.refusal.MatchRule.{MatchRule}
use Rattle.nb_records.specs.declared.refusal.MatchRule.TheVariants.{UnknownField, NotAllowedHere, WrongWidth, WrongForm}
use Rattle.nb_records.specs.declared.refusal.MicroRule.{MicroRule}
use Rattle.nb_records.specs.declared.refusal.MicroRule.TheVariants.{NotConjunction, Contradiction, NoInport}
use Rattle.nb_records.specs.declared.refusal.Refusal.{Refusal}
use Rattle.nb_records.specs.declared.refusal.Refusal.TheVariants as refusal

-- the name of what is bounded
unfoldable pub kind_name : Kind → List ℕ
kind_name kind.Switch = codes "switch"
kind_name kind.Router = codes "router"
kind_name kind.Port = codes "port"
kind_name kind.RouterPort = codes "router-port"
kind_name kind.Network = codes "network"
kind_name kind.Address = codes "address"
kind_name kind.Security = codes "security"
kind_name kind.Acl = codes "acl"
kind_name kind.AclSwitch = codes "acl-switch"
kind_name kind.Route = codes "route"
kind_name kind.Nat = codes "nat"
kind_name kind.Lb = codes "lb"
kind_name kind.Vip = codes "vip"
kind_name kind.Backend = codes "backend"
kind_name kind.VipDatapath = codes "vip-datapath"
kind_name kind.Neighbour = codes "neighbour"
kind_name kind.Set = codes "set"
kind_name kind.Member = codes "member"
kind_name kind.MatchText = codes "match-text"
kind_name kind.Binding = codes "binding"

-- the name of the rule that a match breaks
abbrev pub match_rule_name : MatchRule → List ℕ
match_rule_name UnknownField = codes "UnknownField"
match_rule_name NotAllowedHere = codes "NotAllowedHere"
match_rule_name WrongWidth = codes "WrongWidth"
match_rule_name WrongForm = codes "WrongForm"

-- the code and the name of a refusal
unfoldable pub refusal_label : Refusal → List ℕ
refusal_label refusal.NotUtf8 = codes "E01 NotUtf8"
refusal_label refusal.LineTooLong = codes "E02 LineTooLong"
refusal_label (refusal.UnknownCommand word) = codes "E03 UnknownCommand"
refusal_label refusal.WrongWords = codes "E04 WrongWords"
refusal_label (refusal.BadName word) = codes "E05 BadName"
refusal_label (refusal.BadMac word) = codes "E06 BadMac"
refusal_label (refusal.BadAddress word) = codes "E07 BadAddress"
refusal_label (refusal.BadNumber word) = codes "E08 BadNumber"
refusal_label (refusal.NoSuchObject name) = codes "E09 NoSuchObject"
refusal_label (refusal.Exists name) = codes "E10 Exists"
refusal_label (refusal.WrongKind name) = codes "E11 WrongKind"
refusal_label (refusal.MatchSyntax place) = codes "E12 MatchSyntax"
refusal_label (refusal.MatchType rule place) = codes "E13 MatchType"
refusal_label (refusal.Duplicate object) = codes "E14 Duplicate"
refusal_label (refusal.NotOnDatapath name) = codes "E15 NotOnDatapath"
refusal_label (refusal.Limit kind bound) = codes "E16 Limit"
refusal_label (refusal.BadMicroflow rule) = codes "E17 BadMicroflow"
refusal_label (refusal.NotInProfile word) = codes "E18 NotInProfile"

-- a word after a space
abbrev pub spaced : List ℕ → List ℕ
spaced word = codes " " ++ word

-- why a match is no microflow
abbrev pub micro_rule_text : MicroRule → List ℕ
micro_rule_text NotConjunction = spaced (codes "NotConjunction")
micro_rule_text (Contradiction field) = spaced (codes "Contradiction") ++ spaced (field_name field)
micro_rule_text NoInport = spaced (codes "NoInport")

-- what a refusal is about: a word, a place, an object, a name, a rule or a bound
abbrev pub refusal_subject : Refusal → List ℕ
refusal_subject refusal.NotUtf8 = []
refusal_subject refusal.LineTooLong = []
refusal_subject (refusal.UnknownCommand word) = spaced (decimal word)
refusal_subject refusal.WrongWords = []
refusal_subject (refusal.BadName word) = spaced (decimal word)
refusal_subject (refusal.BadMac word) = spaced (decimal word)
refusal_subject (refusal.BadAddress word) = spaced (decimal word)
refusal_subject (refusal.BadNumber word) = spaced (decimal word)
refusal_subject (refusal.NoSuchObject name) = spaced name
refusal_subject (refusal.Exists name) = spaced name
refusal_subject (refusal.WrongKind name) = spaced name
refusal_subject (refusal.MatchSyntax place) = spaced (decimal place)
refusal_subject (refusal.MatchType rule place) = spaced (match_rule_name rule) ++ spaced (decimal place)
refusal_subject (refusal.Duplicate object) = spaced (decimal object.0)
refusal_subject (refusal.NotOnDatapath name) = spaced name
refusal_subject (refusal.Limit kind bound) = spaced (kind_name kind) ++ spaced (decimal bound)
refusal_subject (refusal.BadMicroflow rule) = micro_rule_text rule
refusal_subject (refusal.NotInProfile word) = spaced (decimal word)

-- the line that tells a refusal
abbrev pub refusal_line : Refusal → List ℕ
refusal_line r = codes "refused " ++ refusal_label r ++ refusal_subject r ++ codes "\n"
