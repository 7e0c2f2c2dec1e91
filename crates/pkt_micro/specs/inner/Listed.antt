-- The list of what was said so far.
use Rattle.std.specs.Prelude.{◌≡◌, ◌<◌, ◌^◌, List, [], ◌∷◌, ◌++◌, Option, Some, None}
use Rattle.nv_base.specs.Field.{field_width}
use Rattle.pkt_micro.specs.Microflow.{number_of}
use Rattle.pkt_micro.specs.declared.equality.Equality.{Equality}
use Rattle.pkt_micro.specs.declared.fault.MicroFault.{MicroFault}
use Rattle.pkt_micro.specs.declared.fault.MicroFault.TheVariants.{NotConjunction, Contradiction, NoInport, Memory}

-- what is said, after what was said before
abbrev pub after : List Equality → Option (List Equality) → Option (List Equality)
after before None = None
after before (Some es) = Some (before ++ es)

-- out of memory, or nothing is said
abbrev pub IsRefused : MicroFault → Option (List Equality) → Type 0
IsRefused NotConjunction s = s ≡ None
IsRefused (Contradiction field) s = ⊥
IsRefused NoInport s = ⊥
IsRefused Memory s = Unit {0}

-- the number fits its field
abbrev pub Fits : Equality → Type 0
Fits e = number_of e.value < 2 ^ field_width e.field

abbrev pub AllFit : List Equality → Type 0
AllFit [] = Unit {0}
AllFit (e ∷ es) = Fits e × AllFit es
