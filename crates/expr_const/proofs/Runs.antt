-- Bytes of one kind, as many as a text begins with.
use Rattle.std.proofs.Common.{◌≡◌, ℕ, ◌<◌, ◌≤◌, Bool, false, List, length, take, arith}
use Rattle.std.specs.List.{list_all, prefix_len}
use Rattle.std.proofs.lemmas.List.{get_or-take, length-take-le}
use Rattle.std.proofs.lemmas.List.Folds.{list_all_at}
use Rattle.std.proofs.lemmas.List.Sums.{prefix_len_stops}

pub run_ends : {X : Type 0} (p : X → Bool) (xs : List X) (k : ℕ) (d : X) → prefix_len p xs < k → k ≤ length xs → list_all p (take k xs) ≡ false
run_ends p xs k d past within =
    let here : prefix_len p xs < length (take k xs) = rw (length-take-le k xs within) past in
    list_all_at p (take k xs) (prefix_len p xs) d here (rw (get_or-take k xs (prefix_len p xs) d past) (prefix_len_stops p xs d (omega arith)))
