-- Readings of two texts that begin with the same bytes are the same, as far as these bytes reach.
use Rattle.std.proofs.Common.{◌≡◌, ℕ, suc, ◌+◌, ◌<◌, ◌≤◌, Bool, true, false, cond, eqb, List, [], ◌∷◌, ◌++◌, length, drop, refl, ap, sym, subst, ◌∙◌, arith, length-append}
use Rattle.std.proofs.lemmas.List.{length-drop, append_cancel_left}
use Rattle.act_parse.specs.inner.Token.{is_at}
use Rattle.act_parse.specs.inner.Reading.{Reading, and_then, stuck, token, tokens, ended}
use Rattle.act_parse.specs.inner.Reading.Reading.{Read, Stuck}
use Rattle.act_parse.proofs.TakesTokens.{and_then_read}
use Rattle.act_parse.proofs.Viable.{sequel}

-- two texts begin with the same bytes, one or more, before what is left of them
pub record Both (text other rest others : List ℕ) : Type 0 where
  pub first : ℕ
  pub more : List ℕ
  pub whole : text ≡ first ∷ (more ++ rest)
  pub whole2 : other ≡ first ∷ (more ++ others)

pub turned : (text other rest others : List ℕ) → Both text other rest others → Both other text others rest
turned text other rest others b = record { first = b.first; more = b.more; whole = b.whole2; whole2 = b.whole }

-- as many bytes are before what is left
pub both_bytes : (text other rest others : List ℕ) → Both text other rest others → (d : ℕ) × (length text ≡ d + length rest) × (length other ≡ d + length others)
both_bytes text other rest others b = (suc (length b.more), omega (arith, ap length b.whole, length-append b.more rest), omega (arith, ap length b.whole2, length-append b.more others))

pub some_byte : (text other rest others : List ℕ) → Both text other rest others → length text ≤ 0 → ⊥
some_byte text other rest others b none = omega (arith, ap length b.whole, none)

split : (s mid xs rest others : List ℕ) → xs ++ rest ≡ s ++ mid → length rest < length mid → (mid2 : List ℕ) × (xs ++ others ≡ s ++ mid2) × Both mid mid2 rest others
split [] mid [] rest others e far = absurd (omega (arith, ap length e, far))
split [] mid (x ∷ xs) rest others e far = (x ∷ (xs ++ others), refl, record { first = x; more = xs; whole = sym e; whole2 = refl })
split (y ∷ s) mid [] rest others e far = absurd (omega (arith, ap length e, length-append s mid, far))
split (y ∷ s) mid (x ∷ xs) rest others e far =
    let head : x ≡ y = cc in
    let tail : xs ++ rest ≡ s ++ mid = cc in
    let inner = split s mid xs rest others tail far in
    (inner.0, ap (λ (h : ℕ). h ∷ (xs ++ others)) head ∙ ap (λ zs. y ∷ zs) inner.1, inner.2)

-- the same after what was read of one of them, where there is more
pub beyond : (s mid text other rest others : List ℕ) → Both text other rest others → text ≡ s ++ mid → length rest < length mid → (mid2 : List ℕ) × (other ≡ s ++ mid2) × Both mid mid2 rest others
beyond s mid text other rest others b is far =
    let inner = split s mid (b.first ∷ b.more) rest others (sym b.whole ∙ is) far in
    (inner.0, b.whole2 ∙ inner.1, inner.2)

-- what is left of a text after a reading is no longer than the text
pub record Sized {T : Type 0} (x : Reading T) (text : List ℕ) : Type 0 where
  pub read : (v : T) (mid : List ℕ) → x ≡ Read v mid → length mid ≤ length text
  pub stop : (n : ℕ) → x ≡ Stuck n → n ≤ length text

-- the readings of two texts are the same as far as the same bytes reach
pub record Agree {T : Type 0} (x y : Reading T) (rest others : List ℕ) : Type 0 where
  pub read : (v : T) (mid : List ℕ) → x ≡ Read v mid → length rest < length mid → (mid2 : List ℕ) × (y ≡ Read v mid2) × Both mid mid2 rest others
  pub stop : (k : ℕ) → x ≡ Stuck (length rest + suc k) → y ≡ Stuck (length others + suc k)

-- so it is of any two texts
pub record Local {T : Type 0} (r : List ℕ → Reading T) : Type 0 where
  pub sized : (text : List ℕ) → Sized (r text) text
  pub agree : (text other rest others : List ℕ) → Both text other rest others → Agree (r text) (r other) rest others

pub sized_pure : {T : Type 0} (v : T) (text : List ℕ) → Sized (Read v text) text
sized_pure v text = record { read = λ w mid e. let same : text ≡ mid = cc in omega (arith, ap length same); stop = λ n e. absurd (cc) }

pub agree_pure : {T : Type 0} (v : T) (text other rest others : List ℕ) → Both text other rest others → Agree (Read v text) (Read v other) rest others
agree_pure v text other rest others b = record {
  read = λ w mid e far. let value : v ≡ w = cc in let same : text ≡ mid = cc in (other, ap (λ u. Read u other) value, subst (λ (xs : List ℕ). Both xs other rest others) same b);
  stop = λ k e. absurd (cc);
}

pub pure_local : {T : Type 0} (v : T) → Local (λ text. Read v text)
pure_local v = record { sized = sized_pure v; agree = agree_pure v }

pub sized_stuck : {T : Type 0} (text : List ℕ) → Sized {T = T} (stuck text) text
sized_stuck text = record { read = λ v mid e. absurd (cc); stop = λ n e. let same : length text ≡ n = cc in omega (arith, same) }

pub agree_stuck : {T : Type 0} (text other rest others : List ℕ) → Both text other rest others → Agree {T = T} (stuck text) (stuck other) rest others
agree_stuck text other rest others b = record {
  read = λ v mid e far. absurd (cc);
  stop = λ k e.
      let at : length text ≡ length rest + suc k = cc in
      let d = both_bytes text other rest others b in
      let there : length other ≡ length others + suc k = omega (arith, at, d.1, d.2) in
      ap (λ (n : ℕ). Stuck n) there;
}

pub stuck_local : {T : Type 0} → Local {T = T} stuck
stuck_local = record { sized = sized_stuck; agree = agree_stuck }

pub sized_then : {S T : Type 0} (x : Reading S) (k : S → List ℕ → Reading T) (text : List ℕ) → Sized x text → ((s : S) (mid : List ℕ) → x ≡ Read s mid → Sized (k s mid) mid) → Sized (and_then x k) text
sized_then x k text first second = record {
  read = λ v rest e. let parts = and_then_read x k v rest e in
      omega (arith, first.read parts.0 parts.1 parts.2, (second parts.0 parts.1 parts.2).read v rest parts.3);
  stop = λ n e. sequel x k n e (λ f. first.stop n f) (λ s mid f g. omega (arith, first.read s mid f, (second s mid f).stop n g));
}

after_read : {S T : Type 0} (y : Reading S) (l : S → List ℕ → Reading T) (s : S) (mid : List ℕ) (v : T) (end : List ℕ) → y ≡ Read s mid → l s mid ≡ Read v end → and_then y l ≡ Read v end
after_read y l s mid v end e f = ap (λ z. and_then z l) e ∙ f

pub agree_then : {S T : Type 0} (x y : Reading S) (k l : S → List ℕ → Reading T) (rest others : List ℕ) → Agree x y rest others → ((s : S) (mid : List ℕ) → x ≡ Read s mid → Sized (k s mid) mid)
    → ((s : S) (mid mid2 : List ℕ) → x ≡ Read s mid → y ≡ Read s mid2 → Both mid mid2 rest others → Agree (k s mid) (l s mid2) rest others) → Agree (and_then x k) (and_then y l) rest others
agree_then x y k l rest others first sized second = record {
  read = λ v end e far.
      let parts = and_then_read x k v end e in
      let short = (sized parts.0 parts.1 parts.2).read v end parts.3 in
      let one = first.read parts.0 parts.1 parts.2 (omega (arith, short, far)) in
      let two = (second parts.0 parts.1 one.0 parts.2 one.1 one.2).read v end parts.3 far in
      (two.0, after_read y l parts.0 one.0 v two.0 one.1 two.1, two.2);
  stop = λ n e. sequel x k (length rest + suc n) e
      (λ f. ap (λ z. and_then z l) (first.stop n f))
      (λ s mid f g.
      let short = (sized s mid f).stop (length rest + suc n) g in
      let one = first.read s mid f (omega (arith, short)) in
      ap (λ z. and_then z l) one.1 ∙ (second s mid one.0 f one.1 one.2).stop n g);
}

-- one reading after another
pub then_local : {S T : Type 0} (r : List ℕ → Reading S) (k : S → List ℕ → Reading T) → Local r → ((s : S) → Local (k s)) → Local (λ text. and_then (r text) k)
then_local r k first second = record {
  sized = λ text. sized_then (r text) k text (first.sized text) (λ s mid f. (second s).sized mid);
  agree = λ text other rest others b. agree_then (r text) (r other) k k rest others (first.agree text other rest others b) (λ s mid f. (second s).sized mid) (λ s mid mid2 f g both. (second s).agree mid mid2 rest others both);
}

-- the same reading, otherwise written
pub like : {T : Type 0} (r q : List ℕ → Reading T) → ((text : List ℕ) → r text ≡ q text) → Local q → Local r
like {T} r q same l = record {
  sized = λ text. subst (λ (x : Reading T). Sized x text) (sym (same text)) (l.sized text);
  agree = λ text other rest others b. subst (λ (x : Reading T). Agree x (r other) rest others) (sym (same text)) (subst (λ (y : Reading T). Agree (q text) y rest others) (sym (same other)) (l.agree text other rest others b));
}

-- a reading of what is longer
pub longer : {T : Type 0} (x : Reading T) (mid text : List ℕ) → length mid ≤ length text → Sized x mid → Sized x text
longer x mid text short s = record { read = λ v end e. omega (arith, short, s.read v end e); stop = λ n e. omega (arith, short, s.stop n e) }

-- readings of what is after these bytes
pub agree_next : {T : Type 0} (x y : Reading T) (s mid mid2 text other rest others : List ℕ) → Both text other rest others → text ≡ s ++ mid → other ≡ s ++ mid2 → Sized x mid → (Both mid mid2 rest others → Agree x y rest others) → Agree x y rest others
agree_next x y s mid mid2 text other rest others b one two sized agree = record {
  read = λ v end e far. (agree (next (omega (arith, far, sized.read v end e)))).read v end e far;
  stop = λ k e. (agree (next (omega (arith, sized.stop (length rest + suc k) e)))).stop k e;
}
  where
    next : length rest < length mid → Both mid mid2 rest others
    next far =
        let there = beyond s mid text other rest others b one far in
        let same : there.0 ≡ mid2 = append_cancel_left s there.0 mid2 (sym there.1 ∙ two) in
        subst (λ (ys : List ℕ). Both mid ys rest others) same there.2

-- a text is its first byte and what follows it
pub first_and_rest : (first : ℕ) (more text : List ℕ) → text ≡ first ∷ more → text ≡ (first ∷ []) ++ drop 1 text
first_and_rest first more text is = is ∙ ap (λ xs. first ∷ xs) (sym (ap (λ xs. drop 1 xs) is))

-- both texts begin with a byte, or neither does
pub at_same : (x : ℕ) (text other rest others : List ℕ) → Both text other rest others → is_at (x ∷ []) other ≡ is_at (x ∷ []) text
at_same x text other rest others b = ap (is_at (x ∷ [])) b.whole2 ∙ sym (ap (is_at (x ∷ [])) b.whole)

-- a reading of what is after a byte, or another where it is not there
pub sized_choice : {T : Type 0} (x : ℕ) (a b : List ℕ → Reading T) (text : List ℕ) → ((xs : List ℕ) → Sized (a xs) xs) → Sized (b text) text → Sized (cond (is_at (x ∷ []) text) (a (drop 1 text)) (b text)) text
sized_choice x a b text one two = go (is_at (x ∷ []) text)
  where
    go : (p : Bool) → Sized (cond p (a (drop 1 text)) (b text)) text
    go false = two
    go true = longer (a (drop 1 text)) (drop 1 text) text (omega (arith, length-drop 1 text)) (one (drop 1 text))

pub agree_choice : {T : Type 0} (x : ℕ) (a b c d : List ℕ → Reading T) (text other rest others : List ℕ) → Both text other rest others → ((xs : List ℕ) → Sized (a xs) xs)
    → (Both (drop 1 text) (drop 1 other) rest others → Agree (a (drop 1 text)) (c (drop 1 other)) rest others) → Agree (b text) (d other) rest others
    → Agree (cond (is_at (x ∷ []) text) (a (drop 1 text)) (b text)) (cond (is_at (x ∷ []) other) (c (drop 1 other)) (d other)) rest others
agree_choice x a b c d text other rest others both sized one two = subst (λ (p : Bool). Agree (cond (is_at (x ∷ []) text) (a (drop 1 text)) (b text)) (cond p (c (drop 1 other)) (d other)) rest others) (sym (at_same x text other rest others both)) (go (is_at (x ∷ []) text))
  where
    go : (p : Bool) → Agree (cond p (a (drop 1 text)) (b text)) (cond p (c (drop 1 other)) (d other)) rest others
    go false = two
    go true = agree_next (a (drop 1 text)) (c (drop 1 other)) (both.first ∷ []) (drop 1 text) (drop 1 other) text other rest others both
        (first_and_rest both.first (both.more ++ rest) text both.whole) (first_and_rest both.first (both.more ++ others) other both.whole2) (sized (drop 1 text)) one

pub choice_local : {T : Type 0} (x : ℕ) (a b : List ℕ → Reading T) → Local a → Local b → Local (λ text. cond (is_at (x ∷ []) text) (a (drop 1 text)) (b text))
choice_local x a b one two = record {
  sized = λ text. sized_choice x a b text one.sized (two.sized text);
  agree = λ text other rest others both. agree_choice x a b a b text other rest others both one.sized (λ next. one.agree (drop 1 text) (drop 1 other) rest others next) (two.agree text other rest others both);
}

-- a reading of a text that begins with a byte, or another
pub pick_local : {T : Type 0} (x : ℕ) (a b : List ℕ → Reading T) → Local a → Local b → Local (λ text. cond (is_at (x ∷ []) text) (a text) (b text))
pick_local {T} x a b one two = record {
  sized = λ text. sized text (is_at (x ∷ []) text);
  agree = λ text other rest others both. subst (λ (p : Bool). Agree (cond (is_at (x ∷ []) text) (a text) (b text)) (cond p (a other) (b other)) rest others) (sym (at_same x text other rest others both)) (agree text other rest others both (is_at (x ∷ []) text));
}
  where
    sized : (text : List ℕ) (p : Bool) → Sized (cond p (a text) (b text)) text
    sized text true = one.sized text
    sized text false = two.sized text

    agree : (text other rest others : List ℕ) → Both text other rest others → (p : Bool) → Agree (cond p (a text) (b text)) (cond p (a other) (b other)) rest others
    agree text other rest others both true = one.agree text other rest others both
    agree text other rest others both false = two.agree text other rest others both

token_more : (x : ℕ) (t : List ℕ) → Local (token t) → Local (token (x ∷ t))
token_more x t later = record { sized = sized; agree = agree }
  where
    sized : (text : List ℕ) → Sized (token (x ∷ t) text) text
    sized [] = sized_stuck []
    sized (b ∷ bs) = go (eqb x b)
      where
        go : (p : Bool) → Sized (cond p (token t bs) (stuck (b ∷ bs))) (b ∷ bs)
        go false = sized_stuck (b ∷ bs)
        go true = longer (token t bs) bs (b ∷ bs) (omega arith) (later.sized bs)

    agree : (text other rest others : List ℕ) → Both text other rest others → Agree (token (x ∷ t) text) (token (x ∷ t) other) rest others
    agree [] other rest others both = absurd (some_byte [] other rest others both (omega arith))
    agree (b ∷ bs) [] rest others both = absurd (some_byte [] (b ∷ bs) others rest (turned (b ∷ bs) [] rest others both) (omega arith))
    agree (b ∷ bs) (c ∷ cs) rest others both =
        let first : b ≡ both.first = head b bs both.first (both.more ++ rest) both.whole in
        let first2 : c ≡ both.first = head c cs both.first (both.more ++ others) both.whole2 in
        let same : b ≡ c = first ∙ sym first2 in
        subst (λ (d : ℕ). Agree (cond (eqb x b) (token t bs) (stuck (b ∷ bs))) (cond (eqb x d) (token t cs) (stuck (d ∷ cs))) rest others) same
        (go (eqb x b) (subst (λ (d : ℕ). Both (b ∷ bs) (d ∷ cs) rest others) (sym same) both))
      where
        head : (y : ℕ) (ys : List ℕ) (z : ℕ) (zs : List ℕ) → y ∷ ys ≡ z ∷ zs → y ≡ z
        head y ys z zs e = cc

        go : (p : Bool) → Both (b ∷ bs) (b ∷ cs) rest others → Agree (cond p (token t bs) (stuck (b ∷ bs))) (cond p (token t cs) (stuck (b ∷ cs))) rest others
        go false both = agree_stuck (b ∷ bs) (b ∷ cs) rest others both
        go true both = agree_next (token t bs) (token t cs) (b ∷ []) bs cs (b ∷ bs) (b ∷ cs) rest others both refl refl (later.sized bs) (λ next. later.agree bs cs rest others next)

pub token_local : (t : List ℕ) → Local (token t)
token_local [] = pure_local tt
token_local (x ∷ t) = token_more x t (token_local t)

pub tokens_local : (ts : List (List ℕ)) → Local (tokens ts)
tokens_local [] = pure_local tt
tokens_local (t ∷ ts) = then_local (token t) (λ _ rest. tokens ts rest) (token_local t) (λ u. tokens_local ts)

pub ended_local : {T : Type 0} (v : T) (ts : List (List ℕ)) → Local (ended v ts)
ended_local v ts = then_local (tokens ts) (λ _ rest. Read v rest) (tokens_local ts) (λ u. pure_local v)
