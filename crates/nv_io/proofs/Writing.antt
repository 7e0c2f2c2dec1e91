-- One write after another.
use Rattle.std.proofs.Common.{◌≡◌, ℕ, ◌+◌, List, [], ◌++◌, Option, Some, None, Result, Ok, length, take, refl, sym, ap, ◌∙◌, subst, append_assoc, arith}
use Rattle.std.proofs.lemmas.List.{append-nil, length-append, length-take-le}
use Rattle.std.specs.Prelude.{◌≤◌}
use Rattle.std.specs.Io.KnownBytes.{Appends, Consumes}
use Rattle.nv_io.specs.Counts.{count_after}
use Rattle.nv_io.specs.State.{SourceState, SinkState}
use Rattle.nv_io.specs.declared.sink.SinkFailed.{SinkFailed}
use Rattle.nv_io.specs.Passed.{Gave, Took, Puts, no_put, and_put}
use Rattle.nv_io.specs.Writing.{Wrote, PutFailed}

-- a count after some, and after more
count_none : (count : ℕ) → count ≡ count_after count 0
count_none count = omega arith

count_more : (count a b first second : ℕ) → first ≡ count_after count a → second ≡ count_after first b → second ≡ count_after count (a + b)
count_more count a b first second first_is second_is = omega (arith, first_is, second_is)

-- a count after these bytes, and after more
count_append : (count : ℕ) (a b : List ℕ) (first second : ℕ) → first ≡ count_after count (length a) → second ≡ count_after first (length b) → second ≡ count_after count (length (a ++ b))
count_append count a b first second first_is second_is = count_more count (length a) (length b) first second first_is second_is ∙ ap (count_after count) (sym (length-append a b))

-- one text appended after another
appended_more : (first second third : Option (List ℕ)) (a b : List ℕ) → Appends first second a → Appends second third b → Appends first third (a ++ b)
appended_more None second third a b h k = tt
appended_more (Some x) (Some y) (Some z) a b h k = k ∙ ap (λ v. v ++ b) h ∙ append_assoc x a b
appended_more (Some x) (Some y) None a b h k = absurd k
appended_more (Some x) None third a b h k = absurd h

nothing_appended : (told : Option (List ℕ)) → Appends told told []
nothing_appended None = tt
nothing_appended (Some bytes) = sym (append-nil bytes)

-- some bytes given after others
given_more : (first second third : Option (List ℕ)) (a b : List ℕ) → Consumes first second a → Consumes second third b → Consumes first third (a ++ b)
given_more None second third a b h k = tt
given_more (Some x) (Some y) (Some z) a b h k = h ∙ ap (λ v. a ++ v) k ∙ sym (append_assoc a b z)
given_more (Some x) (Some y) None a b h k = absurd k
given_more (Some x) None third a b h k = absurd h

nothing_given : (told : Option (List ℕ)) → Consumes told told []
nothing_given None = tt
nothing_given (Some bytes) = refl

-- what a source gave, and what a sink took
pub gave_nothing : (state : SourceState) → Gave state state []
gave_nothing state = record { told = nothing_given state.left; amount = count_none state.given }

pub gave_more : (s t u : SourceState) (a b : List ℕ) → Gave s t a → Gave t u b → Gave s u (a ++ b)
gave_more s t u a b first second = record { told = given_more _ _ _ _ _ first.told second.told; amount = count_append _ a b _ _ first.amount second.amount }

-- a source that tells the same bytes and the same amount
pub gave_still : (s t u : SourceState) (a : List ℕ) → u.left ≡ t.left → u.given ≡ t.given → Gave s t a → Gave s u a
gave_still s t u a left given gave = record { told = subst (λ told. Consumes s.left told a) (sym left) gave.told; amount = given ∙ gave.amount }

-- one take
pub gave_take : (s t : SourceState) (into : List ℕ) (n : ℕ) → n ≤ length into → Consumes s.left t.left (take n into) → t.given ≡ count_after s.given n → Gave s t (take n into)
gave_take s t into n within gave amount = record { told = gave; amount = amount ∙ ap (count_after s.given) (sym (length-take-le n into within)) }

pub took_nothing : (state : SinkState) → Took state state []
took_nothing state = record { told = nothing_appended state.taken; amount = count_none state.amount }

pub took_more : (k l m : SinkState) (a b : List ℕ) → Took k l a → Took l m b → Took k m (a ++ b)
took_more k l m a b first second = record { told = appended_more _ _ _ _ _ first.told second.told; amount = count_append _ a b _ _ first.amount second.amount }

module _ {K : Type 0} (gives : K → List ℕ → Result ℕ SinkFailed → K → Type 0) (state : K → SinkState) where
  puts_more : {k l m : K} {a b : List ℕ} → Puts gives k a l → Puts gives l b m → Puts gives k (a ++ b) m
  puts_more {k} {l} {a = a} first no_put = subst (λ text. Puts gives k text l) (sym (append-nil a)) first
  puts_more {k} {m = m} {a = a} first (and_put {n = n} {written = w} offered puts step) =
      subst (λ text. Puts gives k text m) (append_assoc a w (take n offered)) (and_put offered (puts_more first puts) step)

  -- before the first put
  pub wrote_nothing : (k : K) → Wrote gives state k k []
  wrote_nothing k = record { puts = no_put; took = took_nothing (state k); quiet = refl }

  -- one put more
  pub wrote_more : (k l m : K) (part offered : List ℕ) (n : ℕ) → Wrote gives state k l part → gives l offered (Ok n) m → n ≤ length offered → Appends (state l).taken (state m).taken (take n offered) → (state m).amount ≡ count_after (state l).amount n → (state m).faults ≡ (state l).faults → Wrote gives state k m (part ++ take n offered)
  wrote_more k l m part offered n wrote step within kept amount quiet = record {
    puts = and_put offered wrote.puts step;
    took = took_more _ _ _ part (take n offered) wrote.took (record { told = kept; amount = amount ∙ ap (count_after (state l).amount) (sym (length-take-le n offered within)) });
    quiet = quiet ∙ wrote.quiet;
  }

  pub wrote_after : (k l m : K) (a b : List ℕ) → Wrote gives state k l a → Wrote gives state l m b → Wrote gives state k m (a ++ b)
  wrote_after k l m a b first second = record {
    puts = puts_more first.puts second.puts;
    took = took_more _ _ _ a b first.took second.took;
    quiet = second.quiet ∙ first.quiet;
  }

  pub failed_after : (k l m : K) (a b : List ℕ) → Wrote gives state k l a → PutFailed gives state l m b → PutFailed gives state k m (a ++ b)
  failed_after k l m a b first second = record {
    before = second.before;
    puts = puts_more first.puts second.puts;
    offered = second.offered;
    failed = second.failed;
    took = took_more _ _ _ a b first.took second.took;
    rose = rw (sym first.quiet) second.rose;
  }
