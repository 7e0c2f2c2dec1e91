-- The keywords that stand at the places of a command, and its options.
use Rattle.std.specs.Prelude.{ℕ, Bool, true, ◌||◌, List, nat_eq, is_some, codes}
use Rattle.std.specs.List.{list_any}
use Rattle.std.specs.Str.{bytes_eq}
use Rattle.nb_read.specs.Keywords.{way_of, verdict_of, proto_of, nat_kind_of, state_of, begins}
use Rattle.nb_edit.specs.declared.form.Flag.{Flag}
use Rattle.nb_edit.specs.declared.form.Flag.TheVariants.{MayExist, IfExists, Policy, OwnerType}
use Rattle.nb_edit.specs.declared.form.Place.{Place}
use Rattle.nb_edit.specs.declared.form.Place.TheVariants as place

-- A word may stand at this place as far as keywords go. Three that are known to OVN, and not taken here, pass.
abbrev pub may_stand : Place → List ℕ → Bool
may_stand place.State text = is_some (state_of text)
may_stand place.PortOption text = list_any (λ byte. nat_eq byte 61) text
may_stand place.NatType text = is_some (nat_kind_of text)
may_stand place.Protocol text = is_some (proto_of text) || bytes_eq text (codes "sctp")
may_stand place.Direction text = is_some (way_of text)
may_stand place.Verdict text = is_some (verdict_of text) || bytes_eq text (codes "pass")
may_stand _ text = true

-- a word before a command's name that begins with `--`
abbrev pub is_option : List ℕ → Bool
is_option text = begins text (codes "--")

-- the word is this option, as far as its name goes
abbrev pub is_flag : Flag → List ℕ → Bool
is_flag MayExist text = bytes_eq text (codes "--may-exist")
is_flag IfExists text = bytes_eq text (codes "--if-exists")
is_flag Policy text = begins text (codes "--policy=")
is_flag OwnerType text = begins text (codes "--type=")

-- an option whose value, where it has one, is a keyword
abbrev pub is_whole : List ℕ → Bool
is_whole text =
    bytes_eq text (codes "--may-exist") || bytes_eq text (codes "--if-exists")
    || bytes_eq text (codes "--policy=dst-ip") || bytes_eq text (codes "--policy=src-ip")
    || bytes_eq text (codes "--type=switch") || bytes_eq text (codes "--type=port-group")
