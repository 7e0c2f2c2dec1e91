-- What is found at the front of a text, and how far the text begins it where it is not there.
use Rattle.std.proofs.Common.{◌≡◌, ℕ, zero, suc, ◌+◌, ◌-◌, ◌<◌, ◌≤◌, Bool, true, false, cond, List, [], ◌∷◌, ◌++◌, length, take, drop, Option, Some, None, refl, ap, sym, subst, ◌∙◌, arith, length-append}
use Rattle.std.specs.List.{list_all, prefix_len}
use Rattle.std.specs.Option.{option_map}
use Rattle.std.proofs.Math.Seq.{take-append_seam, drop-append_seam}
use Rattle.std.proofs.lemmas.Bool.{and_parts, and_from, false≢true}
use Rattle.std.proofs.lemmas.List.{take-append-drop, append_cancel_right, length-take-le}
use Rattle.std.proofs.lemmas.List.Folds.{list_all-append}
use Rattle.act_parse.specs.inner.Token.{run, after_run}
use Rattle.act_parse.specs.inner.Wanted.{reach_by}
use Rattle.act_parse.specs.inner.Reading.{Reading}
use Rattle.act_parse.specs.inner.Reading.Reading.{Stuck}
use Rattle.act_parse.proofs.Reach.{reach_most, reach_same, reach_exact, reach_passes}
use Rattle.act_parse.proofs.TakesTokens.{run_takes}
use Rattle.act_parse.proofs.Viable.{Viable, here}
use Rattle.act_parse.proofs.Local.{Both, turned, beyond, Sized, Agree, Local, longer}

-- what follows is read after what was found; else the reading stops after the bytes that begin what is wanted
abbrev pub leaf : {K T : Type 0} → (List ℕ → Bool) → (K → List ℕ → Reading T) → List ℕ → Option (K × List ℕ) → Reading T
leaf front a text None = Stuck (length text - reach_by front text)
leaf front a text (Some x) = a x.0 x.1

-- what is found is all that begins what is wanted, and it is found in each text that goes on with the same byte after it
pub record Leaf {K : Type 0} (look : List ℕ → Option (K × List ℕ)) (front : List ℕ → Bool) : Type 0 where
  pub took : (text : List ℕ) (x : K × List ℕ) → look text ≡ Some x → (w : List ℕ) × (text ≡ w ++ x.1) × (reach_by front text ≡ length w)
  pub again : (w : List ℕ) (b : ℕ) (rest rest2 : List ℕ) (k : K) → look (w ++ b ∷ rest) ≡ Some (k, b ∷ rest) → look (w ++ b ∷ rest2) ≡ Some (k, b ∷ rest2)

nothing : {X : Type 0} (x : X) → None ≡ Some x → ⊥
nothing x e = cc

pub leaf_local : {K T : Type 0} (look : List ℕ → Option (K × List ℕ)) (front : List ℕ → Bool) (a : K → List ℕ → Reading T) → Leaf look front → ((k : K) → Local (a k)) → Local (λ text. leaf front a text (look text))
leaf_local {K} {T} look front a found one = record {
  sized = λ text. sized text (look text) refl;
  agree = λ text other rest others both. agree text other rest others both (look text) refl;
}
  where
    sized : (text : List ℕ) (o : Option (K × List ℕ)) → look text ≡ o → Sized (leaf front a text o) text
    sized text None is = record { read = λ v mid e. absurd (cc); stop = λ n e. let same : length text - reach_by front text ≡ n = cc in omega (arith, same) }
    sized text (Some x) is =
        let t = found.took text x is in
        longer (a x.0 x.1) x.1 text (omega (arith, ap length t.1, length-append t.0 x.1)) ((one x.0).sized x.1)

    same_look : (w mid mid2 rest others : List ℕ) (k : K) → Both mid mid2 rest others → look (w ++ mid) ≡ Some (k, mid) → look (w ++ mid2) ≡ Some (k, mid2)
    same_look w mid mid2 rest others k both is =
        let P : List ℕ → Type 0 = λ m. look (w ++ m) ≡ Some (k, m) in
        subst P (sym both.whole2) (found.again w both.first (both.more ++ rest) (both.more ++ others) k (subst P both.whole is))

    seen_there : (text other rest others : List ℕ) → Both text other rest others → (x : K × List ℕ) → look text ≡ Some x → length rest < length x.1 → (mid2 : List ℕ) × (look other ≡ Some (x.0, mid2)) × Both x.1 mid2 rest others
    seen_there text other rest others both x is far =
        let t = found.took text x is in
        let next = beyond t.0 x.1 text other rest others both t.1 far in
        let here : look (t.0 ++ x.1) ≡ Some (x.0, x.1) = ap look (sym t.1) ∙ is in
        (next.0, ap look next.1 ∙ same_look t.0 x.1 next.0 rest others x.0 next.2 here, next.2)

    agree : (text other rest others : List ℕ) → Both text other rest others → (o : Option (K × List ℕ)) → look text ≡ o → Agree (leaf front a text o) (leaf front a other (look other)) rest others
    agree text other rest others both (Some x) is = record {
      read = λ v end e far.
          let short = ((one x.0).sized x.1).read v end e in
          let there = seen_there text other rest others both x is (omega (arith, far, short)) in
          let two = ((one x.0).agree x.1 there.0 rest others there.2).read v end e far in
          (two.0, ap (leaf front a other) there.1 ∙ two.1, two.2);
      stop = λ k e.
          let short = ((one x.0).sized x.1).stop (length rest + suc k) e in
          let there = seen_there text other rest others both x is (omega (arith, short)) in
          ap (leaf front a other) there.1 ∙ ((one x.0).agree x.1 there.0 rest others there.2).stop k e;
    }
    agree text other rest others both None is = record { read = λ v end e far. absurd (cc); stop = stop }
      where
        stop : (k : ℕ) → leaf front a text None ≡ Stuck (length rest + suc k) → leaf front a other (look other) ≡ Stuck (length others + suc k)
        stop k e = go (look other) refl
          where
            at : length text - reach_by front text ≡ length rest + suc k
            at = cc

            counted : (length text ≡ suc (length both.more) + length rest) × (length other ≡ suc (length both.more) + length others)
            counted = (omega (arith, ap length both.whole, length-append both.more rest), omega (arith, ap length both.whole2, length-append both.more others))

            reached : reach_by front other ≡ reach_by front text
            reached =
                let xs = both.first ∷ both.more in
                let before : reach_by front (xs ++ rest) ≡ reach_by front text = ap (reach_by front) (sym both.whole) in
                ap (reach_by front) both.whole2 ∙ reach_same front xs rest others (omega (arith, before, at, counted.0)) ∙ before

            go : (o : Option (K × List ℕ)) → look other ≡ o → leaf front a other o ≡ Stuck (length others + suc k)
            go None there = let n : length other - reach_by front other ≡ length others + suc k = omega (arith, reached, at, counted.0, counted.1) in ap (λ (m : ℕ). Stuck m) n
            go (Some x) there =
                let t = found.took other x there in
                let far : length others < length x.1 = omega (arith, ap length t.1, length-append t.0 x.1, t.2, reached, at, counted.0, counted.1) in
                let back = seen_there other text others rest (turned text other rest others both) x there far in
                absurd (nothing _ (sym is ∙ back.1))

-- a byte after a run does not pass
pub run_stops : (inside : ℕ → Bool) (text : List ℕ) (b : ℕ) (bs : List ℕ) → after_run inside text ≡ b ∷ bs → inside b ≡ false
run_stops inside [] b bs e = absurd (cc)
run_stops inside (x ∷ xs) b bs e = go (inside x) refl e (run_stops inside xs b bs)
  where
    go : (p : Bool) → inside x ≡ p → drop (cond p (1 + prefix_len inside xs) 0) (x ∷ xs) ≡ b ∷ bs → (after_run inside xs ≡ b ∷ bs → inside b ≡ false) → inside b ≡ false
    go true is e later = let one : suc (prefix_len inside xs) ≡ 1 + prefix_len inside xs = omega arith in later (ap (λ (n : ℕ). drop n (x ∷ xs)) one ∙ e)
    go false is e later = let same : x ≡ b = cc in ap inside (sym same) ∙ is

pub run_inside : (inside : ℕ → Bool) (text : List ℕ) → list_all inside (run inside text) ≡ true
run_inside inside [] = refl
run_inside inside (x ∷ xs) = go (inside x) refl (run_inside inside xs)
  where
    go : (p : Bool) → inside x ≡ p → list_all inside (run inside xs) ≡ true → list_all inside (take (cond p (1 + prefix_len inside xs) 0) (x ∷ xs)) ≡ true
    go true is later = let one : 1 + prefix_len inside xs ≡ suc (prefix_len inside xs) = omega arith in ap (λ (n : ℕ). list_all inside (take n (x ∷ xs))) one ∙ and_from (inside x) (list_all inside (run inside xs)) is later
    go false is later = refl

-- what passes is the run before what does not
run_length : (inside : ℕ → Bool) (w : List ℕ) (b : ℕ) (rest : List ℕ) → list_all inside w ≡ true → inside b ≡ false → prefix_len inside (w ++ b ∷ rest) ≡ length w
run_length inside [] b rest all apart = rw apart refl
run_length inside (x ∷ xs) b rest all apart = let parts = and_parts (inside x) (list_all inside xs) all in rw (parts.0, run_length inside xs b rest parts.1 apart) (omega arith)

pub run_is : (inside : ℕ → Bool) (w : List ℕ) (b : ℕ) (rest : List ℕ) → list_all inside w ≡ true → inside b ≡ false → (run inside (w ++ b ∷ rest) ≡ w) × (after_run inside (w ++ b ∷ rest) ≡ b ∷ rest)
run_is inside w b rest all apart =
    let n = run_length inside w b rest all apart in
    (ap (λ (n : ℕ). take n (w ++ b ∷ rest)) n ∙ take-append_seam w (b ∷ rest), ap (λ (n : ℕ). drop n (w ++ b ∷ rest)) n ∙ drop-append_seam w (b ∷ rest))

-- what a run is, and what follows it
abbrev pub seen : {K : Type 0} → (ℕ → Bool) → (List ℕ → Option K) → List ℕ → Option (K × List ℕ)
seen inside done text = option_map (λ k. (k, after_run inside text)) (done (run inside text))

pub seen_parts : {K : Type 0} (inside : ℕ → Bool) (done : List ℕ → Option K) (text : List ℕ) (x : K × List ℕ) → seen inside done text ≡ Some x → (done (run inside text) ≡ Some x.0) × (after_run inside text ≡ x.1)
seen_parts {K} inside done text x e = go (done (run inside text)) e
  where
    go : (o : Option K) → option_map {U = K × List ℕ} (λ k. (k, after_run inside text)) o ≡ Some x → (o ≡ Some x.0) × (after_run inside text ≡ x.1)
    go None e = absurd (cc)
    go (Some k) e = let same : (k, after_run inside text) ≡ x = cc in (ap (λ (y : K × List ℕ). Some y.0) same, ap (λ (y : K × List ℕ). y.1) same)

-- each front of what is found begins what is wanted, and what begins it passes the test of the run
pub run_leaf : {K : Type 0} (inside : ℕ → Bool) (done : List ℕ → Option K) (front : List ℕ → Bool)
    → ((w : List ℕ) (v : K) (k : ℕ) → done w ≡ Some v → 0 < k → k ≤ length w → front (take k w) ≡ true)
    → ((w : List ℕ) → front w ≡ true → list_all inside w ≡ true)
    → Leaf (seen inside done) front
run_leaf {K} inside done front fronts insides = record {
  took = λ text x e.
      let parts = seen_parts inside done text x e in
      let whole = run_takes inside text in
      let size = reach_exact front (run inside text) (after_run inside text) (λ k some within. fronts (run inside text) x.0 k parts.0 some within) (λ b bs is. stops text b bs is) in
      (run inside text, whole ∙ ap (λ xs. run inside text ++ xs) parts.1, ap (reach_by front) whole ∙ size);
  again = λ w b rest rest2 k e.
      let text = w ++ b ∷ rest in
      let parts = seen_parts inside done text (k, b ∷ rest) e in
      let same : run inside text ≡ w = append_cancel_right (run inside text) w (b ∷ rest) (ap (λ xs. run inside text ++ xs) (sym parts.1) ∙ sym (run_takes inside text)) in
      let all : list_all inside w ≡ true = ap (list_all inside) (sym same) ∙ run_inside inside text in
      let there = run_is inside w b rest2 all (run_stops inside text b rest parts.1) in
      let done_there : done (run inside (w ++ b ∷ rest2)) ≡ Some k = ap done (there.0 ∙ sym same) ∙ parts.0 in
      ap (option_map (λ (j : K). (j, after_run inside (w ++ b ∷ rest2)))) done_there ∙ ap (λ (xs : List ℕ). Some (k, xs)) there.1;
}
  where
    stops : (text : List ℕ) (b : ℕ) (bs : List ℕ) → after_run inside text ≡ b ∷ bs → front (run inside text ++ b ∷ []) ≡ false
    stops text b bs is = go (front (run inside text ++ b ∷ [])) refl
      where
        go : (p : Bool) → front (run inside text ++ b ∷ []) ≡ p → front (run inside text ++ b ∷ []) ≡ false
        go false e = e
        go true e =
            let all = sym (list_all-append inside (run inside text) (b ∷ [])) ∙ insides (run inside text ++ b ∷ []) e in
            let last = (and_parts (list_all inside (run inside text)) (list_all inside (b ∷ [])) all).1 in
            absurd (false≢true (sym (run_stops inside text b bs is) ∙ (and_parts (inside b) true last).0))

abbrev pub stuck_at : {T : Type 0} → ℕ → Reading T
stuck_at left = Stuck left

-- where nothing is found, what was reached goes on to what is wanted
pub leaf_stops : {T : Type 0} {Kind : List ℕ → Type 0} (front : List ℕ → Bool) (text : List ℕ) (left : ℕ) → ((xs : List ℕ) → front xs ≡ true → (more : List ℕ) × Kind (xs ++ more)) → ((more : List ℕ) × Kind more)
    → stuck_at {T = T} (length text - reach_by front text) ≡ Stuck left → Viable Kind text left
leaf_stops {T} {Kind} front text left goes_on some e = go (reach_by front text) refl
  where
    at : length text - reach_by front text ≡ left
    at = cc

    go : (n : ℕ) → reach_by front text ≡ n → Viable Kind text left
    go zero is = here text some.0 left (omega (arith, at, is)) some.1
    go (suc n) is =
        let passes = reach_passes front text (omega (arith, is)) in
        let on = goes_on (take (reach_by front text) text) passes in
        record {
          front = take (reach_by front text) text;
          after = drop (reach_by front text) text;
          more = on.0;
          whole = sym (take-append-drop (reach_by front text) text);
          size = omega (arith, at, reach_most front text, ap length (take-append-drop (reach_by front text) text), length-append (take (reach_by front text) text) (drop (reach_by front text) text), length-take-le (reach_by front text) text (reach_most front text));
          goes_on = on.1;
        }
