-- Words that are read one after another: what the whole is where one was read, and the fault of one that was not.
use Rattle.std.proofs.Common.{◌≡◌, ℕ, List, Result, Ok, drop, sym, ap, ◌∙◌, subst}
use Rattle.nb_records.specs.declared.refusal.Refusal.{Refusal}
use Rattle.nb_words.specs.Fault.{IsFaultOf}
use Rattle.nb_words.specs.declared.fault.LineFault.{LineFault}
use Rattle.nb_words.specs.declared.fault.LineFault.TheVariants.{Refused, Memory}
use Rattle.nb_words.specs.declared.word.Word.{Word}
use Rattle.nb_read.specs.Then.{and_then}
use Rattle.nb_edit.specs.Call.{Call, number, text, at, from}

module _ {X Y : Type 0} where
  -- what was read goes on
  pub goes_on : (first : Result X Refusal) (go_on : X → Result Y Refusal) (x : X) (whole : Result Y Refusal) → first ≡ Ok x → go_on x ≡ whole → and_then first go_on ≡ whole
  goes_on first go_on x whole read rest = ap (λ r. and_then r go_on) read ∙ rest

  -- the first fault is that of the whole
  pub stops : (first : Result X Refusal) (go_on : X → Result Y Refusal) (fault : LineFault) → IsFaultOf first fault → IsFaultOf (and_then first go_on) fault
  stops first go_on (Refused refusal) is = ap (λ r. and_then r go_on) is
  stops first go_on Memory is = tt

  -- and so is a later one
  pub stops_later : (first : Result X Refusal) (go_on : X → Result Y Refusal) (x : X) (fault : LineFault) → first ≡ Ok x → IsFaultOf (go_on x) fault → IsFaultOf (and_then first go_on) fault
  stops_later first go_on x fault read is = subst (λ r. IsFaultOf (and_then r go_on) fault) (sym read) is

module _ {X : Type 0} where
  -- a word at a place
  pub read_at : (reading : ℕ → List ℕ → Result X Refusal) (call : Call) (place n : ℕ) (bytes : List ℕ) (x : X) → n ≡ number call place → bytes ≡ text call place → reading n bytes ≡ Ok x → at call place reading ≡ Ok x
  read_at reading call place n bytes x numbered said read = sym (ap (λ b. reading n b) said ∙ ap (λ m. reading m (text call place)) numbered) ∙ read

  pub refused_at : (reading : ℕ → List ℕ → Result X Refusal) (call : Call) (place n : ℕ) (bytes : List ℕ) (fault : LineFault) → n ≡ number call place → bytes ≡ text call place
      → IsFaultOf (reading n bytes) fault → IsFaultOf (at call place reading) fault
  refused_at reading call place n bytes fault numbered said refused =
      subst (λ r. IsFaultOf r fault) (ap (λ b. reading n b) said ∙ ap (λ m. reading m (text call place)) numbered) refused

  -- words from a place on
  pub read_from : (reading : ℕ → List Word → Result X Refusal) (call : Call) (place n : ℕ) (words : List Word) (x : X) → n ≡ number call place → words ≡ drop place call.words → reading n words ≡ Ok x → from call place reading ≡ Ok x
  read_from reading call place n words x numbered said read = sym (ap (λ b. reading n b) said ∙ ap (λ m. reading m (drop place call.words)) numbered) ∙ read

  pub refused_from : (reading : ℕ → List Word → Result X Refusal) (call : Call) (place n : ℕ) (words : List Word) (fault : LineFault) → n ≡ number call place → words ≡ drop place call.words
      → IsFaultOf (reading n words) fault → IsFaultOf (from call place reading) fault
  refused_from reading call place n words fault numbered said refused =
      subst (λ r. IsFaultOf r fault) (ap (λ b. reading n b) said ∙ ap (λ m. reading m (drop place call.words)) numbered) refused
