-- The first kind of which there is too much.
use Rattle.std.proofs.Common.{◌≡◌, ℕ, ◌+◌, ◌<◌, ◌≤◌, Bool, true, false, cond, nat_lt, List, Option, Some, None, drop, get_or, length, ap, ◌∙◌}
use Rattle.std.proofs.lemmas.List.{drop_more, drop_all}
use Rattle.std.specs.Prelude.{find, option_map}
use Rattle.nb_records.specs.declared.refusal.Kind.{Kind}
use Rattle.nb_records.specs.declared.refusal.Refusal.{Refusal}
use Rattle.nb_records.specs.declared.refusal.Refusal.TheVariants.{Limit}
use Rattle.nb_model.specs.Amounts.{amount, bound, first_over}
use Rattle.nb_model.specs.Network.{Network}

module _ (net : Network) (kinds : List Kind) (i : ℕ) where
  pub none_first : length kinds ≤ i → first_over (drop i kinds) net ≡ None
  none_first past = ap (λ l. first_over l net) (drop_all i kinds past)

  module _ (other : Kind) (within : i < length kinds) where
    abbrev kind_there : Kind
    kind_there = get_or kinds i other

    abbrev refused : Bool → Option Refusal
    refused b = option_map (λ kind. Limit kind (bound kind)) (cond b (Some kind_there) (find (λ kind. nat_lt (bound kind) (amount net kind)) (drop (i + 1) kinds)))

    pub is_first : nat_lt (bound kind_there) (amount net kind_there) ≡ true → first_over (drop i kinds) net ≡ Some (Limit kind_there (bound kind_there))
    is_first over = ap (λ l. first_over l net) (drop_more kinds i other within) ∙ ap refused over

    pub later_first : nat_lt (bound kind_there) (amount net kind_there) ≡ false → first_over (drop i kinds) net ≡ first_over (drop (i + 1) kinds) net
    later_first under = ap (λ l. first_over l net) (drop_more kinds i other within) ∙ ap refused under
