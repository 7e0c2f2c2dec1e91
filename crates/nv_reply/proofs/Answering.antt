-- What is written for a line that is done.
use Rattle.std.proofs.Common.{◌≡◌, ℕ, false, List, ◌++◌, Result, Ok, Err, OnOk, IfOk, refl, ap, ◌∙◌, append_assoc}
use Rattle.nv_reply.specs.declared.answer.Answer.{Answer}
use Rattle.nv_reply.specs.declared.answer.Answer.TheVariants.{Text}
use Rattle.nv_reply.specs.Reply.{ok_line, accept}
use Rattle.nv_reply.specs.Session.{Session}
use Rattle.nv_reply.specs.Answer.{IsAnswered}

-- its lines, and `ok`
pub accepted : {E : Type 0} (session : Session) (lines old between new : List ℕ) (result : Result Answer E) → between ≡ old ++ lines
    → OnOk result (new ≡ between ++ ok_line) → IfOk result (λ answer. answer ≡ Text false) → IfOk result (λ answer. IsAnswered (accept lines session) old new answer)
accepted session lines old between new (Err e) first text is = tt
accepted session lines old between new (Ok answer) first text is = rw is (text ∙ ap (λ written. written ++ ok_line) first ∙ append_assoc old lines ok_line, refl)
