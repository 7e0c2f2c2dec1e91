-- What is there after the words of a line, one after another.
use Rattle.std.proofs.Common.{◌≡◌, ℕ, List, ◌++◌}
use Rattle.nv_base.proofs.Growth.{appended_twice}

pub line_of_two : (a b c d x y n : List ℕ) → b ≡ a ++ x → c ≡ b ++ y → d ≡ c ++ n → d ≡ a ++ ((x ++ y) ++ n)
line_of_two a b c d x y n one more last = appended_twice a c d (x ++ y) n (appended_twice a b c x y one more) last

pub line_of_three : (a b c d e x y z n : List ℕ) → b ≡ a ++ x → c ≡ b ++ y → d ≡ c ++ z → e ≡ d ++ n → e ≡ a ++ (((x ++ y) ++ z) ++ n)
line_of_three a b c d e x y z n one more third last = appended_twice a d e ((x ++ y) ++ z) n (appended_twice a c d (x ++ y) z (appended_twice a b c x y one more) third) last

pub line_of_four : (a b c d e f x y z w n : List ℕ) → b ≡ a ++ x → c ≡ b ++ y → d ≡ c ++ z → e ≡ d ++ w → f ≡ e ++ n → f ≡ a ++ ((((x ++ y) ++ z) ++ w) ++ n)
line_of_four a b c d e f x y z w n one more third fourth last =
    appended_twice a e f (((x ++ y) ++ z) ++ w) n (appended_twice a d e ((x ++ y) ++ z) w (appended_twice a c d (x ++ y) z (appended_twice a b c x y one more) third) fourth) last

pub line_of_five : (a b c d e f g x y z w v n : List ℕ) → b ≡ a ++ x → c ≡ b ++ y → d ≡ c ++ z → e ≡ d ++ w → f ≡ e ++ v → g ≡ f ++ n
    → g ≡ a ++ (((((x ++ y) ++ z) ++ w) ++ v) ++ n)
line_of_five a b c d e f g x y z w v n one more third fourth fifth last =
    let up = appended_twice a d e ((x ++ y) ++ z) w (appended_twice a c d (x ++ y) z (appended_twice a b c x y one more) third) fourth in
    appended_twice a f g ((((x ++ y) ++ z) ++ w) ++ v) n (appended_twice a e f (((x ++ y) ++ z) ++ w) v up fifth) last

pub line_of_six : (a b c d e f g h x y z w v u n : List ℕ) → b ≡ a ++ x → c ≡ b ++ y → d ≡ c ++ z → e ≡ d ++ w → f ≡ e ++ v → g ≡ f ++ u → h ≡ g ++ n
    → h ≡ a ++ ((((((x ++ y) ++ z) ++ w) ++ v) ++ u) ++ n)
line_of_six a b c d e f g h x y z w v u n one more third fourth fifth sixth last =
    appended_twice a g h (((((x ++ y) ++ z) ++ w) ++ v) ++ u) n (line_of_five a b c d e f g x y z w v u one more third fourth fifth sixth) last
