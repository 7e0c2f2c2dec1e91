-- Numbers that stand once.
use Rattle.std.proofs.Common.{◌≡◌, ℕ, ◌+◌, ◌<◌, ◌==◌, Bool, true, false, cond, not, ◌||◌, List, [], ◌∷◌, ◌++◌, Option, Some, None, arith, refl, sym, ap, ◌∙◌, length, take, get_or}
use Rattle.std.proofs.lemmas.List.{append-nil, take_more}
use Rattle.std.proofs.lemmas.List.Elements.{filter-append, filter_map-append}
use Rattle.std.specs.Prelude.{filter}
use Rattle.std.specs.List.{filter_map, cons_option}
use Rattle.std.proofs.lemmas.Bool.Decides.{nat_tests}
use borrow.Author.Tests.{eqb-true}
use Rattle.nv_base.specs.declared.object.ObjId.{ObjId}
use Rattle.nb_model.specs.Belongs.{is_among, once}
use Rattle.nb_model.specs.Effect.{with_number, named_port_ids}
use Rattle.nb_model.specs.Network.{Network, same, port_id}

turned : (a b : ℕ) → (a == b) ≡ (b == a)
turned a b = grind (arith, nat_tests)

-- a number is among those that are not another one exactly where it is among them all
among_others : (x y : ObjId) (numbers : List ObjId) → same x y ≡ false → is_among x (filter (λ other. not (same y other)) numbers) ≡ is_among x numbers
among_others x y [] differ = refl
among_others x y (z ∷ numbers) differ = by (same y z) refl (among_others x y numbers differ)
  where
    others : List ObjId
    others = filter (λ other. not (same y other)) numbers

    by : (b : Bool) → same y z ≡ b → is_among x others ≡ is_among x numbers → is_among x (cond (not b) (z ∷ others) others) ≡ (same x z || is_among x numbers)
    by true e more = more ∙ sym (ap (λ b. b || is_among x numbers) (sym (ap (λ n. x.0 == n) (eqb-true y.0 z.0 e)) ∙ differ))
    by false e more = ap (λ b. same x z || b) more

-- once, and a number more
pub once_last : (numbers : List ObjId) (x : ObjId) → once (numbers ++ x ∷ []) ≡ with_number x (once numbers)
once_last [] x = refl
once_last (y ∷ numbers) x =
    ap (λ l. y ∷ filter (λ other. not (same y other)) l) (once_last numbers x)
    ∙ by (is_among x (once numbers)) (same x y) refl refl
  where
    others : List ObjId
    others = filter (λ other. not (same y other)) (once numbers)

    by : (a b : Bool) → is_among x (once numbers) ≡ a → same x y ≡ b
        → y ∷ filter (λ other. not (same y other)) (cond a (once numbers) (once numbers ++ x ∷ [])) ≡ cond (b || is_among x others) (y ∷ others) (y ∷ others ++ x ∷ [])
    by true true e f = refl
    by true false e f = sym (ap (λ c. cond c (y ∷ others) (y ∷ others ++ x ∷ [])) (among_others x y (once numbers) f ∙ e))
    by false true e f =
        ap (λ l. y ∷ l) (filter-append (λ other. not (same y other)) (once numbers) (x ∷ []))
        ∙ ap (λ c. y ∷ others ++ cond (not c) (x ∷ []) []) (turned y.0 x.0 ∙ f)
        ∙ ap (λ l. y ∷ l) (append-nil others)
    by false false e f =
        ap (λ l. y ∷ l) (filter-append (λ other. not (same y other)) (once numbers) (x ∷ []))
        ∙ ap (λ c. y ∷ others ++ cond (not c) (x ∷ []) []) (turned y.0 x.0 ∙ f)
        ∙ sym (ap (λ c. cond c (y ∷ others) (y ∷ others ++ x ∷ [])) (among_others x y (once numbers) f ∙ e))

-- the numbers of some names, and of one more
pub named_more : (net : Network) (names : List (List ℕ)) (name : List ℕ) (id : ObjId) → Some id ≡ port_id net name → named_port_ids net (names ++ name ∷ []) ≡ with_number id (named_port_ids net names)
named_more net names name id there =
    ap once (filter_map-append (port_id net) names (name ∷ []))
    ∙ sym (ap (λ (o : Option ObjId). once (filter_map (port_id net) names ++ cons_option o [])) there)
    ∙ once_last (filter_map (port_id net) names) id

pub named_same : (net : Network) (names : List (List ℕ)) (name : List ℕ) → None ≡ port_id net name → named_port_ids net (names ++ name ∷ []) ≡ named_port_ids net names
named_same net names name none =
    ap once (filter_map-append (port_id net) names (name ∷ []))
    ∙ sym (ap (λ (o : Option ObjId). once (filter_map (port_id net) names ++ cons_option o [])) none)
    ∙ ap once (append-nil (filter_map (port_id net) names))

-- the names so far, and the next one
pub next_name : {X : Type 0} (names : List X) (i : ℕ) (name : X) → i < length names → name ≡ get_or names i name → take (i + 1) names ≡ take i names ++ name ∷ []
next_name names i name within is = take_more names i name within ∙ ap (λ x. take i names ++ x ∷ []) (sym is)
