-- Choices between a value and none.
use Rattle.std.proofs.Common.{◌≡◌, Bool, true, false, cond, Some, None, refl}

-- an equation between a choice and a value says which was chosen
pub chosen : {X : Type 0} (b : Bool) (x y : X) → cond b (Some x) None ≡ Some y → (b ≡ true) × (x ≡ y)
chosen true x y e = (refl, cc)
chosen false x y e = absurd cc

pub unchosen : {X : Type 0} (b : Bool) (x : X) → cond b (Some x) None ≡ None → b ≡ false
unchosen true x e = absurd cc
unchosen false x e = refl
