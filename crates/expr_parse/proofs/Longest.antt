-- The longest front of a text that is a token, runs of bytes, and choices between a value and none.
pub use Rattle.expr_const.proofs.Choices.{none_from, guarded}
pub use Rattle.expr_const.proofs.Runs.{run_ends}
use Rattle.std.proofs.Common.{◌≡◌, Bool, true, false, cond, Option, Some, None, inl, inr, refl, ℕ, suc, ◌+◌, ◌<◌, ◌≤◌, List, [], ◌∷◌, take, arith, zero, ◌∙◌}
use Rattle.expr_parse.proofs.Words.{option_map, or_else, list_all, prefix_len, cases_lt}
use Rattle.expr_parse.proofs.Words.{some_pair_parts, Token, longest}

pub mapped : {T U : Type 0} (f : T → U) (o : Option T) (y : U) → option_map f o ≡ Some y → (x : T) × (o ≡ Some x) × (f x ≡ y)
mapped f None y e = absurd cc
mapped f (Some x) y e = (x, refl, cc)

pub chosen : {T P : Type 0} (a b : Option T) (x : T) → or_else a b ≡ Some x → (a ≡ Some x → P) → (b ≡ Some x → P) → P
chosen None b x e first second = second e
chosen (Some y) b x e first second = first e

-- Bytes of one kind, as many as a text begins with.

pub run_passes : {X : Type 0} (p : X → Bool) (xs : List X) → list_all p (take (prefix_len p xs) xs) ≡ true
run_passes p [] = refl
run_passes {X} p (x ∷ xs) = go (p x) refl (run_passes p xs)
  where
    go : (b : Bool) → p x ≡ b → list_all p (take (prefix_len p xs) xs) ≡ true → list_all p (take (cond b (1 + prefix_len p xs) 0) (x ∷ xs)) ≡ true
    go true e rest = let one : 1 + prefix_len p xs ≡ suc (prefix_len p xs) = omega arith in rw (one, e) rest
    go false e rest = refl

-- The longest front of a text that is a token.

pub shorter : (token : List ℕ → Option Token) (m : ℕ) (text : List ℕ) → token (take (suc m) text) ≡ None → longest token (suc m) text ≡ longest token m text
shorter token m text e = rw e refl

pub here : (token : List ℕ → Option Token) (m : ℕ) (text : List ℕ) (t : Token) → token (take (suc m) text) ≡ Some t → longest token (suc m) text ≡ Some (t, suc m)
here token m text t e = rw e refl

-- no front longer than m, and at most n, is a token
abbrev pub NoneBetween : (List ℕ → Option Token) → ℕ → ℕ → List ℕ → Type 0
NoneBetween token m n text = (k : ℕ) → m < k → k ≤ n → token (take k text) ≡ None

pub cut : (token : List ℕ → Option Token) (m n : ℕ) (text : List ℕ) → m ≤ n → NoneBetween token m n text → longest token n text ≡ longest token m text
cut token m zero text le none = let same : m ≡ 0 = omega arith in rw same refl
cut token m (suc n) text le none = elim (cases_lt m (suc n)) as (λ _. longest token (suc n) text ≡ longest token m text) [
  | inl lt ↦ shorter token n text (none (suc n) lt (omega arith)) ∙ cut token m n text (omega arith) (λ k low high. none k low (omega arith))
  | inr ge ↦ let same : m ≡ suc n = omega arith in rw same refl
]

-- the front of m bytes is a token, and no longer one of at most n is
pub found : (token : List ℕ → Option Token) (m n : ℕ) (text : List ℕ) (t : Token) → 0 < m → m ≤ n → token (take m text) ≡ Some t → NoneBetween token m n text → longest token n text ≡ Some (t, m)
found token zero n text t some le is none = absurd (omega arith)
found token (suc m) n text t some le is none = cut token (suc m) n text le none ∙ here token m text t is

bounds_from : (token : List ℕ → Option Token) (n m : ℕ) (text : List ℕ) (t : Token) (o : Option Token) → token (take (suc n) text) ≡ o → (longest token n text ≡ Some (t, m) → (0 < m) × (m ≤ n)) → longest token (suc n) text ≡ Some (t, m) → (0 < m) × (m ≤ suc n)
bounds_from token n m text t None is rest e = let more = rest (rw is at e) in (more.0, omega (arith, more.1))
bounds_from token n m text t (Some u) is rest e = let same = some_pair_parts u t (suc n) m (rw is at e) in (omega (arith, same.1), omega (arith, same.1))

-- how many bytes a token takes
pub bounds : (token : List ℕ → Option Token) (n : ℕ) (text : List ℕ) (t : Token) (m : ℕ) → longest token n text ≡ Some (t, m) → (0 < m) × (m ≤ n)
bounds token zero text t m e = absurd cc
bounds token (suc n) text t m e = bounds_from token n m text t (token (take (suc n) text)) refl (bounds token n text t m) e
