-- Scripts of several parts.
use Rattle.std.proofs.Common.{◌≡◌, ℕ, ◌<◌, List, [], ◌∷◌, ◌++◌, length, map, refl, sym, ap, ◌∙◌, arith, Some}
use Rattle.std.proofs.lemmas.Grind.{flat_map-append}
use Rattle.std.proofs.lemmas.List.{append-nil}
use Rattle.nv_base.specs.declared.object.ObjId.{ObjId}
use Rattle.nb_records.specs.Refusal.{spaced}
use Rattle.nb_records.specs.declared.edit.Edit.{Edit}
use Rattle.nb_records.specs.declared.edit.Edit.TheVariants as edit
use Rattle.nb_records.specs.declared.sets.Group.{Group}
use Rattle.nb_records.specs.declared.switch.Addr.{Addr}
use Rattle.nb_records.specs.declared.switch.Guard.{Guard}
use Rattle.nb_model.specs.Network.{Network}
use Rattle.nb_text.specs.Words.{each_spaced}
use Rattle.nv_base.proofs.Growth.{appended_twice}
use Rattle.nb_text.specs.Commands.{command_line, script}
use Rattle.nb_dump.specs.Edits.{option_edits, address_edits, guard_edits, ports_edits, members_edits, port_name}

-- words of texts that were made before are the words of what they are made of
pub each_of_map : {X : Type 0} (text : X → List ℕ) (xs : List X) → each_spaced (λ word. word) (map text xs) ≡ each_spaced text xs
each_of_map text [] = refl
each_of_map text (x ∷ xs) = ap (λ l. spaced (text x) ++ l) (each_of_map text xs)

-- the script of two lists is that of the first and that of the second
pub script_append : (xs ys : List Edit) → script (xs ++ ys) ≡ script xs ++ script ys
script_append xs ys = flat_map-append command_line xs ys

-- the edits of the addresses of a port, and of its security
pub no_addresses : (port : List ℕ) (xs : List Addr) → length xs ≡ 0 → address_edits port xs ≡ []
no_addresses port [] none = refl
no_addresses port (x ∷ xs) none = absurd (omega arith)

pub some_addresses : (port : List ℕ) (xs : List Addr) → 0 < length xs → address_edits port xs ≡ edit.LspSetAddresses port xs ∷ []
some_addresses port [] some = absurd (omega arith)
some_addresses port (x ∷ xs) some = refl

pub no_guards : (port : List ℕ) (xs : List Guard) → length xs ≡ 0 → guard_edits port xs ≡ []
no_guards port [] none = refl
no_guards port (x ∷ xs) none = absurd (omega arith)

pub some_guards : (port : List ℕ) (xs : List Guard) → 0 < length xs → guard_edits port xs ≡ edit.LspSetPortSecurity port xs ∷ []
some_guards port [] some = absurd (omega arith)
some_guards port (x ∷ xs) some = refl

-- the script of one edit is its line
pub script_of_one : (e : Edit) → script (e ∷ []) ≡ command_line e
script_of_one e = append-nil (command_line e)

pub option_script : (port name : List ℕ) → script (option_edits port (Some name)) ≡ command_line (edit.LspSetOptions port (Some name))
option_script port name = script_of_one (edit.LspSetOptions port (Some name))

-- the edits of the ports of a group
pub no_members : (net : Network) (g : Group) → length g.ports ≡ 0 → members_edits net g ≡ []
no_members net g none = by g.ports none
  where
    by : (ports : List ObjId) → length ports ≡ 0 → ports_edits g.name (map (port_name net) ports) ≡ []
    by [] none = refl
    by (x ∷ xs) none = absurd (omega arith)

pub some_members : (net : Network) (g : Group) → 0 < length g.ports → members_edits net g ≡ edit.PgSetPorts g.name (map (port_name net) g.ports) ∷ []
some_members net g some = by g.ports some
  where
    by : (ports : List ObjId) → 0 < length ports → ports_edits g.name (map (port_name net) ports) ≡ edit.PgSetPorts g.name (map (port_name net) ports) ∷ []
    by [] some = absurd (omega arith)
    by (x ∷ xs) some = refl

-- what is there after the scripts of two lists of edits
pub scripts : (a b c : List ℕ) (xs ys : List Edit) → b ≡ a ++ script xs → c ≡ b ++ script ys → c ≡ a ++ script (xs ++ ys)
scripts a b c xs ys one more = appended_twice a b c (script xs) (script ys) one more ∙ ap (λ l. a ++ l) (sym (script_append xs ys))
