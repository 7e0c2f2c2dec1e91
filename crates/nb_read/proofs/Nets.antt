-- Addresses and networks that are read one after another.
use Rattle.std.proofs.Common.{◌≡◌, ℕ, ◌+◌, ◌<◌, Bool, false, ◌||◌, if◌then◌else◌, List, [], ◌∷◌, ◌++◌, Result, Ok, Err, length, map, drop, refl, sym, ap, ◌∙◌}
use Rattle.std.proofs.lemmas.List.{at_drop_more}
use Rattle.std.specs.Borrow.{Bor}
use Rattle.std.specs.List.{list_any, slice_index_or}
use Rattle.nv_base.specs.Block.{Block}
use Rattle.nb_records.specs.declared.refusal.Refusal.{Refusal}
use Rattle.nb_records.specs.declared.refusal.Refusal.TheVariants.{BadAddress}
use Rattle.nb_records.specs.declared.switch.Guard.{Guard}
use Rattle.nb_words.specs.Fault.{IsFaultOf}
use Rattle.nb_words.specs.declared.fault.LineFault.{LineFault}
use Rattle.nb_words.specs.declared.fault.LineFault.TheVariants.{Refused, Memory}
use Rattle.nb_read.specs.Then.{and_then}
use Rattle.nb_read.specs.Readings.{prefix}
use Rattle.nb_read.specs.Lists.{has_net, is_base, new_nets}

-- neither of two tests holds
pub neither : {X : Type 0} (a b : Bool) (x y : X) → a ≡ false → b ≡ false → (if a || b then x else y) ≡ y
neither a b x y not_a not_b = rw (not_a, not_b) refl

module _ (number : ℕ) (before : List Guard) (texts : List (Bor (List ℕ))) (i : ℕ) (d : Bor (List ℕ)) (nets : List Block) (within : i < length texts) where
  abbrev left : ℕ → List Block → Result (List Block) Refusal
  left i nets = new_nets number before nets (map (λ text. text.now) (drop i texts))

  abbrev go : Block → Result (List Block) Refusal
  go p = if list_any (has_net p) before || list_any (is_base p) nets then Err (BadAddress number) else left (i + 1) (nets ++ p ∷ [])

  opened : left i nets ≡ and_then (prefix number (slice_index_or texts i d).now) go
  opened = at_drop_more (λ texts. new_nets number before nets (map (λ text. text.now) texts)) texts i d within

  -- one that is new goes to the end of what was read
  pub net_goes_on : (p : Block) (more : List Block) → prefix number (slice_index_or texts i d).now ≡ Ok p → list_any (has_net p) before ≡ false → list_any (is_base p) nets ≡ false → more ≡ nets ++ p ∷ []
      → left (i + 1) more ≡ left i nets
  net_goes_on p more read apart new grown = ap (left (i + 1)) grown ∙ sym (opened ∙ ap (λ r. and_then r go) read ∙ neither _ _ _ _ apart new)

  -- and the fault of one that is none is the fault of all
  pub net_stops : (fault : LineFault) (whole : Result (List Block) Refusal) → left i nets ≡ whole → IsFaultOf (prefix number (slice_index_or texts i d).now) fault → IsFaultOf whole fault
  net_stops (Refused refusal) whole so_far refused = sym so_far ∙ opened ∙ ap (λ r. and_then r go) refused
  net_stops Memory whole so_far refused = tt
