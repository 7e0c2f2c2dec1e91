-- The matches and actions that rows are made of.
use Rattle.std.specs.Prelude.{ℕ, true, List, [], ◌∷◌, map, codes}
use Rattle.nv_base.specs.declared.field.Field.{Field}
use Rattle.act_core.specs.declared.action.Action.{Action}
use Rattle.act_core.specs.declared.action.Action.TheVariants as action
use Rattle.act_core.specs.declared.step.Step.{Step}
use Rattle.act_core.specs.declared.step.Step.TheVariants as step
use Rattle.nv_base.specs.declared.field.Field.TheVariants.{Inport, Outport, FlagsLoopback}
use Rattle.expr_core.specs.Formula.{Formula, formulas}
use Rattle.expr_core.specs.Formula.Formula.{Leaf, And, Or}
use Rattle.expr_core.specs.declared.constant.Const.{Const}
use Rattle.expr_core.specs.declared.constant.Form.TheVariants as form
use Rattle.expr_core.specs.declared.comparison.Item.{Item}
use Rattle.expr_core.specs.declared.comparison.Item.TheVariants.{One, Text}
use Rattle.expr_core.specs.declared.comparison.Rel.TheVariants.{Eq, Ne}
use Rattle.expr_core.specs.declared.comparison.Right.TheVariants as right
use Rattle.expr_core.specs.declared.part.Bits.TheVariants.{Whole, Bit}
use Rattle.expr_core.specs.declared.predicate.Pred.{Pred}
use Rattle.expr_core.specs.declared.typed.TypedAtom.{TypedAtom}
use Rattle.expr_core.specs.declared.typed.TypedAtom.TheVariants.{Truth, Bare, Holds, Compare}

-- `1`, which takes each packet
abbrev pub takes_each : Formula TypedAtom
takes_each = Leaf (Truth true)

-- `f[n]`: this bit of the field is 1
abbrev pub bit : Field → ℕ → Formula TypedAtom
bit f n = Leaf (Bare f (Bit n))

-- a predicate
abbrev pub is_predicate : Pred → Formula TypedAtom
is_predicate p = Leaf (Holds p)

-- the field equals the item
abbrev pub compares : Field → Item → Formula TypedAtom
compares f i = Leaf (Compare f Whole Eq (right.Item i))

-- `f == constant`
abbrev pub equals : Field → Const → Formula TypedAtom
equals f c = compares f (One c)

-- `f == "name"`: the field is the number of the port of this name
abbrev pub is_port : Field → List ℕ → Formula TypedAtom
is_port f name = compares f (Text name)

-- numbers as constants
abbrev pub in_decimal : ℕ → Const
in_decimal number = record { form = form.Dec; value = number }

abbrev pub in_hexadecimal : ℕ → Const
in_hexadecimal number = record { form = form.Hex; value = number }

abbrev pub as_mac : ℕ → Const
as_mac number = record { form = form.Mac; value = number }

abbrev pub as_ip4 : ℕ → Const
as_ip4 number = record { form = form.Ip4; value = number }

-- `f == {a, b}`: the field equals one of the items
abbrev pub is_one_of : Field → List Item → Formula TypedAtom
is_one_of f items = Leaf (Compare f Whole Eq (right.Set items))

-- `f != constant`
abbrev pub differs : Field → Const → Formula TypedAtom
differs f c = Leaf (Compare f Whole Ne (right.Item (One c)))

-- `f != {a, b}`: the field equals none of the items
abbrev pub is_none_of : Field → List Item → Formula TypedAtom
is_none_of f items = Leaf (Compare f Whole Ne (right.Set items))

-- `f[n] == 1`
abbrev pub bit_is_set : Field → ℕ → Formula TypedAtom
bit_is_set f n = Leaf (Compare f (Bit n) Eq (right.Item (One (in_decimal 1))))

-- all of two or more
abbrev pub all_of : List (Formula TypedAtom) → Formula TypedAtom
all_of matches = And (formulas matches)

-- one of two or more
abbrev pub one_of : List (Formula TypedAtom) → Formula TypedAtom
one_of matches = Or (formulas matches)

-- actions without blocks
abbrev pub steps : List Step → List Action
steps list = map action.Step list

-- `next;`, `drop;`, `output;`
abbrev pub goes_on : List Action
goes_on = steps (step.Next ∷ [])

abbrev pub drops : List Action
drops = steps (step.Drop ∷ [])

abbrev pub goes_out : List Action
goes_out = steps (step.Output ∷ [])

-- the packet goes out by the port or the multicast group of this name
abbrev pub goes_out_by : List ℕ → List Action
goes_out_by name = steps (step.SetOutport name ∷ step.Output ∷ [])

-- the packet goes back by the port that it came in by
abbrev pub turns_back : List Step
turns_back = step.Copy Outport Whole Inport ∷ step.Set FlagsLoopback Whole (in_decimal 1) ∷ []
