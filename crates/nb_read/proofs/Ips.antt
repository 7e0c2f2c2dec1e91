-- IPv4 addresses that are read one after another.
use Rattle.std.proofs.Common.{◌≡◌, ℕ, ◌+◌, ◌<◌, false, ◌||◌, if◌then◌else◌, List, [], ◌∷◌, ◌++◌, Result, Ok, Err, length, map, drop, sym, ap, ◌∙◌}
use Rattle.std.proofs.lemmas.List.{at_drop_more}
use Rattle.std.specs.Borrow.{Bor}
use Rattle.std.specs.List.{list_any, slice_index_or}
use Rattle.nv_base.specs.declared.ip4.Ip4.{Ip4}
use Rattle.nb_records.specs.declared.refusal.Refusal.{Refusal}
use Rattle.nb_records.specs.declared.refusal.Refusal.TheVariants.{BadAddress}
use Rattle.nb_records.specs.declared.switch.Addr.{Addr}
use Rattle.nb_words.specs.Fault.{IsFaultOf}
use Rattle.nb_words.specs.declared.fault.LineFault.{LineFault}
use Rattle.nb_words.specs.declared.fault.LineFault.TheVariants.{Refused, Memory}
use Rattle.nb_read.specs.Then.{and_then}
use Rattle.nb_read.specs.Readings.{ip}
use Rattle.nb_read.proofs.Nets.{neither}
use Rattle.nb_read.specs.Lists.{has_ip, is_ip, new_ips}

module _ (number : ℕ) (before : List Addr) (texts : List (Bor (List ℕ))) (i : ℕ) (d : Bor (List ℕ)) (ips : List Ip4) (within : i < length texts) where
  abbrev left : ℕ → List Ip4 → Result (List Ip4) Refusal
  left i ips = new_ips number before ips (map (λ text. text.now) (drop i texts))

  abbrev go : Ip4 → Result (List Ip4) Refusal
  go p = if list_any (has_ip p) before || list_any (is_ip p) ips then Err (BadAddress number) else left (i + 1) (ips ++ p ∷ [])

  opened : left i ips ≡ and_then (ip number (slice_index_or texts i d).now) go
  opened = at_drop_more (λ texts. new_ips number before ips (map (λ text. text.now) texts)) texts i d within

  -- one that is new goes to the end of what was read
  pub ip_goes_on : (p : Ip4) (more : List Ip4) → ip number (slice_index_or texts i d).now ≡ Ok p → list_any (has_ip p) before ≡ false → list_any (is_ip p) ips ≡ false → more ≡ ips ++ p ∷ []
      → left (i + 1) more ≡ left i ips
  ip_goes_on p more read apart new grown = ap (left (i + 1)) grown ∙ sym (opened ∙ ap (λ r. and_then r go) read ∙ neither _ _ _ _ apart new)

  -- and the fault of one that is none is the fault of all
  pub ip_stops : (fault : LineFault) (whole : Result (List Ip4) Refusal) → left i ips ≡ whole → IsFaultOf (ip number (slice_index_or texts i d).now) fault → IsFaultOf whole fault
  ip_stops (Refused refusal) whole so_far refused = sym so_far ∙ opened ∙ ap (λ r. and_then r go) refused
  ip_stops Memory whole so_far refused = tt
