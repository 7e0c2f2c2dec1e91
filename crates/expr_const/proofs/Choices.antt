-- Choices between a value and none.
use Rattle.std.proofs.Common.{◌≡◌, Bool, true, false, cond, Option, Some, None, ◌⊎◌, inl, inr, refl, Result}
use Rattle.std.specs.Option.{option_map, ok_or}
use Rattle.std.specs.Result.{result_ok}
use Rattle.expr_const.specs.Constant.{or_else}

-- what can be no value is none
pub none_from : {T : Type 0} (o : Option T) → ((x : T) → o ≡ Some x → ⊥) → o ≡ None
none_from None never = refl
none_from (Some x) never = absurd (never x refl)

-- a value under a test
pub guarded : {T : Type 0} (b : Bool) (o : Option T) (x : T) → cond b o None ≡ Some x → (b ≡ true) × (o ≡ Some x)
guarded true o x e = (refl, e)
guarded false o x e = absurd cc

pub mapped : {T U : Type 0} (f : T → U) (o : Option T) (y : U) → option_map f o ≡ Some y → (x : T) × (o ≡ Some x)
mapped f None y e = absurd cc
mapped f (Some x) y e = (x, refl)

pub first_or_second : {T : Type 0} (a b : Option T) (x : T) → or_else a b ≡ Some x → (a ≡ Some x) ⊎ (b ≡ Some x)
first_or_second None b x e = inr e
first_or_second (Some y) b x e = inl e

-- a choice whose second is none
pub or_else_none : {T : Type 0} (o : Option T) → or_else o None ≡ o
or_else_none None = refl
or_else_none (Some x) = refl

-- a value of the first two of three is that of the three
pub or_else_first : {T : Type 0} (a b rest : Option T) (x : T) → Some x ≡ or_else a b → Some x ≡ or_else a (or_else b rest)
or_else_first None b rest x e = rw (← e) refl
or_else_first (Some y) b rest x e = e

-- where the first two of three are none, the third is left
pub or_else_third : {T : Type 0} (a b rest : Option T) → None ≡ or_else a b → or_else a (or_else b rest) ≡ rest
or_else_third None None rest e = refl
or_else_third None (Some y) rest e = absurd cc
or_else_third (Some y) b rest e = absurd cc

-- what was there before it was read
pub read_back : {T E : Type 0} (o : Option T) (fault : E) (r : Result T E) (x : Option T) → r ≡ ok_or o fault → x ≡ result_ok r → x ≡ o
read_back None fault r x one two = rw one at two
read_back (Some y) fault r x one two = rw one at two
