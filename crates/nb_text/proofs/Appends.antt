-- What is there after appends, one after another.
use Rattle.std.proofs.Common.{◌≡◌, ℕ, ◌+◌, ◌<◌, List, [], ◌++◌, length, get_or, take, ap, sym, ◌∙◌, append_assoc}
use Rattle.std.proofs.lemmas.List.{append-nil, flat_map_more, take_more}
use Rattle.nv_base.specs.Growth.{GrowsAtEnd}
use Rattle.nv_base.proofs.Growth.{appended_twice}
use Rattle.nb_records.specs.Refusal.{spaced}
use Rattle.nb_text.specs.Words.{each_spaced}

pub three : (a b c d x y z : List ℕ) → b ≡ a ++ x → c ≡ b ++ y → d ≡ c ++ z → d ≡ a ++ (x ++ (y ++ z))
three a b c d x y z one more last = appended_twice a b d x (y ++ z) one (appended_twice b c d y z more last)

pub four : (a b c d e x y z w : List ℕ) → b ≡ a ++ x → c ≡ b ++ y → d ≡ c ++ z → e ≡ d ++ w → e ≡ a ++ (x ++ (y ++ (z ++ w)))
four a b c d e x y z w one more third last = appended_twice a b e x (y ++ (z ++ w)) one (three b c d e y z w more third last)

-- a text between two quotes
pub quoted : (a b c d e q x y : List ℕ) → b ≡ a ++ q → c ≡ b ++ x → d ≡ c ++ y → e ≡ d ++ q → e ≡ a ++ (q ++ ((x ++ y) ++ q))
quoted a b c d e q x y one more third last =
    four a b c d e q x y q one more third last ∙ ap (λ l. a ++ (q ++ l)) (sym (append_assoc x y q))

-- what was appended to, and then stayed as it was, grew at its end
pub grown_once : (there middle end more : List ℕ) → middle ≡ there ++ more → end ≡ middle → GrowsAtEnd there end
grown_once there middle end more e same = (more, same ∙ e)

-- a text that is as it was grew at its end, by nothing
pub grown_by_none : (there end : List ℕ) → end ≡ there → GrowsAtEnd there end
grown_by_none there end same = ([], same ∙ sym (append-nil there))

-- words each after a space, one on
pub each_more : {X : Type 0} (text : X → List ℕ) (there middle end : List ℕ) (xs : List X) (i : ℕ) (x : X) → i < length xs → x ≡ get_or xs i x
    → middle ≡ there ++ each_spaced text (take i xs) → end ≡ middle ++ spaced (text x) → end ≡ there ++ each_spaced text (take (i + 1) xs)
each_more text there middle end xs i x within is so_far more =
    rw (take_more xs i x within, ← is) (more ∙ ap (λ l. l ++ spaced (text x)) so_far ∙ flat_map_more (λ x. spaced (text x)) there (take i xs) x)
