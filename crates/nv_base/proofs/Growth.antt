-- What grows at its end, step after step.
use Rattle.std.proofs.Common.{◌≡◌, ℕ, List, ◌++◌, Result, Ok, Err, OnErr, ap, ◌∙◌, append_assoc}
use Rattle.nv_base.specs.Growth.{GrowsAtEnd}

-- what was appended twice was appended
pub appended_twice : (there middle end first second : List ℕ) → middle ≡ there ++ first → end ≡ middle ++ second → end ≡ there ++ (first ++ second)
appended_twice there middle end first second one two = two ∙ ap (λ l. l ++ second) one ∙ append_assoc there first second

-- what grew at its end, and then by a list, grew at its end
pub grows_on : (start middle end more : List ℕ) → GrowsAtEnd start middle → end ≡ middle ++ more → GrowsAtEnd start end
grows_on start middle end more grown e = (grown.0 ++ more, appended_twice start middle end grown.0 more grown.1 e)

-- what grew at its end, and then again, grew at its end
pub grows_more : (start middle end : List ℕ) → GrowsAtEnd start middle → GrowsAtEnd middle end → GrowsAtEnd start end
grows_more start middle end grown more = grows_on start middle end more.0 grown more.1

-- what was appended to, and then grew, grew at its end
pub grown_more : (there middle end more : List ℕ) → middle ≡ there ++ more → GrowsAtEnd middle end → GrowsAtEnd there end
grown_more there middle end more e grown = grows_more there middle end (more, e) grown

-- what holds, holds where there is a fault
pub on_err : {T E : Type 0} (r : Result T E) (P : Type 0) → P → OnErr r P
on_err (Ok x) P p = tt
on_err (Err e) P p = p
