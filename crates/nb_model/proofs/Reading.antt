-- What holds of what a reading gives, where it gives something: what the steps of readings keep.
use Rattle.std.proofs.Common.{◌≡◌, Bool, true, false, Option, Some, None, Result, Ok, Err, IfOk, IfSome, ok_or, option_map, option_and_then, refl, if◌then◌else◌}
use Rattle.std.specs.Bool.{IsTrue}
use Rattle.nb_records.specs.declared.refusal.Refusal.{Refusal}
use Rattle.nb_read.specs.Then.{and_then}

-- after what was read
pub goes_on : {X Y : Type 0} (P : X → Type 0) (Q : Y → Type 0) (r : Result X Refusal) (go_on : X → Result Y Refusal) → IfOk r P → ((x : X) → P x → IfOk (go_on x) Q) → IfOk (and_then r go_on) Q
goes_on P Q (Ok x) go_on first more = more x first
goes_on P Q (Err refusal) go_on first more = tt

-- whatever was read
pub goes_on_anyway : {X Y : Type 0} (Q : Y → Type 0) (r : Result X Refusal) (go_on : X → Result Y Refusal) → ((x : X) → IfOk (go_on x) Q) → IfOk (and_then r go_on) Q
goes_on_anyway Q (Ok x) go_on more = more x
goes_on_anyway Q (Err refusal) go_on more = tt

-- where a test passes, and else it is refused
pub tested : {X : Type 0} (P : X → Type 0) (test : Bool) (r : Result X Refusal) (refusal : Refusal) → (IsTrue test → IfOk r P) → IfOk (if test then r else Err refusal) P
tested P true r refusal is = is refl
tested P false r refusal is = tt

-- where no test refuses it
pub not_refused : {X : Type 0} (P : X → Type 0) (test : Bool) (r : Result X Refusal) (refusal : Refusal) → (test ≡ false → IfOk r P) → IfOk (if test then Err refusal else r) P
not_refused P true r refusal is = tt
not_refused P false r refusal is = is refl

-- either way of a test
pub both_ways : {X : Type 0} (P : X → Type 0) (test : Bool) (r s : Result X Refusal) → IfOk r P → IfOk s P → IfOk (if test then r else s) P
both_ways P true r s one other = one
both_ways P false r s one other = other

-- what there is
pub there : {X : Type 0} (P : X → Type 0) (o : Option X) (refusal : Refusal) → IfSome o P → IfOk (ok_or o refusal) P
there P None refusal is = tt
there P (Some x) refusal is = is

-- what there is where a test passes
pub there_tested : {X : Type 0} (P : X → Type 0) (test : Bool) (x : X) → (IsTrue test → P x) → IfSome (if test then Some x else None) P
there_tested P true x is = is refl
there_tested P false x is = tt

-- what there is after a change
pub there_changed : {X Y : Type 0} (P : Y → Type 0) (change : X → Y) (o : Option X) → IfSome o (λ x. P (change x)) → IfSome (option_map change o) P
there_changed P change None is = tt
there_changed P change (Some x) is = is

-- what there is after what there was
pub there_after : {X Y : Type 0} (P : X → Type 0) (Q : Y → Type 0) (go_on : X → Option Y) (o : Option X) → IfSome o P → ((x : X) → P x → IfSome (go_on x) Q) → IfSome (option_and_then go_on o) Q
there_after P Q go_on None is more = tt
there_after P Q go_on (Some x) is more = more x is
