-- The MACs that a port takes.
use Rattle.std.proofs.Common.{◌≡◌, ℕ, ◌==◌, Bool, List, [], ◌∷◌, refl, ap, sym, ◌∙◌}
use Rattle.std.specs.Prelude.{◌||◌, if◌then◌else◌, Option, Some}
use Rattle.std.specs.List.{flat_map, list_any}
use Rattle.std.proofs.lemmas.List.Folds.{list_any-append}
use Rattle.nb_records.specs.declared.switch.Addr.{Addr}
use Rattle.nb_model.specs.Readable.{macs_of}
use Rattle.net_rows.specs.Lookup.{more_macs}

-- one of all the pieces passes where one of the piece of some element does
pub any_of_pieces : {X Y : Type 0} (p : Y → Bool) (g : X → List Y) (xs : List X) → list_any p (flat_map g xs) ≡ list_any (λ x. list_any p (g x)) xs
any_of_pieces p g [] = refl
any_of_pieces p g (x ∷ xs) = list_any-append p (g x) (flat_map g xs) ∙ ap (λ rest. list_any p (g x) || rest) (any_of_pieces p g xs)

-- the peer's MAC is one more where the port has it not itself
pub more_where : (has is : Bool) (peer : Option ℕ) (mac : ℕ) (items addresses : List Addr) → peer ≡ Some mac → items ≡ addresses → has ≡ list_any (λ addr. list_any (λ own. own == mac) (macs_of addr)) items → has ≡ is
    → more_macs peer (flat_map macs_of addresses) ≡ if is then [] else mac ∷ []
more_where has is peer mac items addresses there same tells known =
    let own : list_any (λ own. own == mac) (flat_map macs_of addresses) ≡ is
    = any_of_pieces (λ own. own == mac) macs_of addresses ∙ ap (list_any (λ addr. list_any (λ own. own == mac) (macs_of addr))) (sym same) ∙ sym tells ∙ known in
    ap (λ p. more_macs p (flat_map macs_of addresses)) there ∙ ap (λ b. if b then [] else mac ∷ []) own
