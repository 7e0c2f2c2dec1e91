-- What a text is after appends, one after another.
use denote.Enum.Bare.{sameb}
use Rattle.std.proofs.Common.{◌≡◌, ℕ, ◌+◌, ◌<◌, Bool, true, false, List, [], ◌++◌, length, get_or, take, filter, refl, sym, ap, ◌∙◌}
use Rattle.std.specs.List.{flat_map}
use Rattle.std.proofs.lemmas.List.{append-nil, flat_map_more}
use Rattle.std.proofs.lemmas.List.Elements.{filter_more}
use Rattle.nv_base.specs.Growth.{GrowsAtEnd}
use Rattle.nv_base.proofs.Growth.{appended_twice}
use Rattle.act_core.proofs.Lists.{appended_four}
use Rattle.sb_model.specs.declared.stage.Pipeline.{Pipeline}
use Rattle.sb_model.specs.declared.stage.Pipeline.TheVariants.{Ingress, Egress}
use Rattle.sb_model.specs.contracts.stage.Pipeline as pipelines
use Rattle.sb_model.specs.Stage.{is_same_pipeline}

pub appended_five : (there one two three four end first second third fourth fifth : List ℕ) → one ≡ there ++ first → two ≡ one ++ second → three ≡ two ++ third → four ≡ three ++ fourth → end ≡ four ++ fifth
    → end ≡ there ++ ((((first ++ second) ++ third) ++ fourth) ++ fifth)
appended_five there one two three four end first second third fourth fifth a b c d e =
    appended_twice there four end (((first ++ second) ++ third) ++ fourth) fifth (appended_four there one two three four first second third fourth a b c d) e

-- a text that is as it was grew at its end, by nothing
pub grown_by_none : (there end : List ℕ) → end ≡ there → GrowsAtEnd there end
grown_by_none there end same = ([], same ∙ sym (append-nil there))

-- the texts of the items that pass, one item on: where it passes, its text is appended
pub passing_more : {X : Type 0} (text : X → List ℕ) (p : X → Bool) (there middle end : List ℕ) (xs : List X) (i : ℕ) (x : X) → i < length xs → x ≡ get_or xs i x → p x ≡ true
    → middle ≡ there ++ flat_map text (filter p (take i xs)) → end ≡ middle ++ text x → end ≡ there ++ flat_map text (filter p (take (i + 1) xs))
passing_more text p there middle end xs i x within is passes so_far more =
    rw (filter_more p xs i x within, ← is, passes) (more ∙ ap (λ l. l ++ text x) so_far ∙ flat_map_more text there (filter p (take i xs)) x)

-- and where it does not pass, nothing is
pub failing_more : {X : Type 0} (text : X → List ℕ) (p : X → Bool) (there end : List ℕ) (xs : List X) (i : ℕ) (x : X) → i < length xs → x ≡ get_or xs i x → p x ≡ false
    → end ≡ there ++ flat_map text (filter p (take i xs)) → end ≡ there ++ flat_map text (filter p (take (i + 1) xs))
failing_more text p there end xs i x within is fails so_far = rw (filter_more p xs i x within, ← is, fails, append-nil) so_far

-- the code's test of two pipelines is the one of specs/
pub same_pipeline : (a b : Pipeline) → sameb pipelines.the_type a b ≡ is_same_pipeline a b
same_pipeline Ingress Ingress = refl
same_pipeline Ingress Egress = refl
same_pipeline Egress Ingress = refl
same_pipeline Egress Egress = refl
