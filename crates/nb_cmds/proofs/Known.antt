-- What a reading says where a part of it is known: its words, or what its first step gave.
use Rattle.std.proofs.Common.{◌≡◌, ℕ, ◌+◌, ◌<◌, ◌≤◌, Bool, List, [], ◌∷◌, length, get_or, drop, refl, sym, ap, ◌∙◌, subst, arith}
use Rattle.std.specs.Prelude.{◌==◌, Some, Result, Ok, Err, IfOk, IfErr}
use Rattle.std.proofs.lemmas.Bool.{le-ltb, lt-ltb}
use Rattle.nb_records.specs.declared.refusal.Refusal.{Refusal}
use Rattle.nb_records.specs.declared.refusal.Refusal.TheVariants.{WrongWords}
use Rattle.nb_words.specs.Fault.{IsFaultOf}
use Rattle.nb_words.specs.declared.command.Command.{Command}
use Rattle.nb_words.specs.declared.fault.LineFault.{LineFault}
use Rattle.nb_words.specs.declared.fault.LineFault.TheVariants.{Refused, Memory}
use Rattle.nb_words.specs.declared.word.Word.{Word}
use Rattle.nb_read.specs.Readings.{object_name}
use Rattle.nb_read.specs.Then.{and_then}
use Rattle.nb_cmds.specs.Lines.{edits, said}
use Rattle.nb_cmds.specs.Queries.{minimal_after, query_of, trace, trace_of, traced}
use Rattle.nb_cmds.specs.declared.line.Line.TheVariants as line
use Rattle.nb_cmds.specs.declared.query.Query.TheVariants as query
use Rattle.nb_cmds.specs.declared.task.Question.{Question}
use Rattle.nb_cmds.specs.declared.task.Question.TheVariants as question

-- ---- lists of a known length

pub is_one : {X : Type 0} (xs : List X) (x : X) → 1 ≤ length xs → length xs < 2 → x ≡ get_or xs 0 x → xs ≡ x ∷ []
is_one [] x some few first = absurd (omega arith)
is_one (y ∷ []) x some few first = cc
is_one (y ∷ z ∷ xs) x some few first = absurd (omega arith)

pub are_two : {X : Type 0} (xs : List X) (x y : X) → 2 ≤ length xs → length xs < 3 → x ≡ get_or xs 0 x → y ≡ get_or xs 1 y → xs ≡ x ∷ y ∷ []
are_two [] x y some few first second = absurd (omega arith)
are_two (z ∷ []) x y some few first second = absurd (omega arith)
are_two (z ∷ w ∷ []) x y some few first second = cc
are_two (z ∷ w ∷ v ∷ xs) x y some few first second = absurd (omega arith)

pub has_second : {X : Type 0} (xs : List X) (y : X) → 2 ≤ length xs → length xs < 3 → y ≡ get_or xs 1 y → (x : X) × (xs ≡ x ∷ y ∷ [])
has_second [] y some few second = absurd (omega arith)
has_second (z ∷ []) y some few second = absurd (omega arith)
has_second (z ∷ w ∷ []) y some few second = (z, cc)
has_second (z ∷ w ∷ v ∷ xs) y some few second = absurd (omega arith)

pub has_first : {X : Type 0} (xs : List X) → 1 ≤ length xs → (x : X) × (xs ≡ x ∷ drop 1 xs)
has_first [] some = absurd (omega arith)
has_first (x ∷ xs) some = (x, refl)

-- ---- readings that are equal

pub read_as : {X : Type 0} (r : Result X LineFault) (one other : Result X Refusal) → one ≡ other → IfOk r (λ found. other ≡ Ok found) → IfOk r (λ found. one ≡ Ok found)
read_as r one other same read = subst (λ reading. IfOk r (λ found. reading ≡ Ok found)) (sym same) read

pub refused_as : {X : Type 0} (r : Result X LineFault) (one other : Result X Refusal) → one ≡ other → IfErr r (IsFaultOf other) → IfErr r (IsFaultOf one)
refused_as r one other same refused = subst (λ reading. IfErr r (IsFaultOf reading)) (sym same) refused

-- a fault of the first step is one of the whole
pub fault_first : {X Y : Type 0} (first : Result X Refusal) (go_on : X → Result Y Refusal) (whole : Result Y Refusal) (fault : LineFault) → whole ≡ and_then first go_on → IsFaultOf first fault → IsFaultOf whole fault
fault_first first go_on whole (Refused refusal) same is = same ∙ ap (λ r. and_then r go_on) is
fault_first first go_on whole Memory same is = tt

-- ---- traces and lines

pub is_minimal_twice : (before number : ℕ) (words : List Word) → 1 < before + minimal_after words → trace before number words ≡ Err WrongWords
is_minimal_twice before number words twice = rw (lt-ltb 1 (before + minimal_after words) twice) refl

pub is_minimal_once : (before number : ℕ) (words : List Word) → before + minimal_after words ≤ 1
    → trace before number words ≡ traced (before + minimal_after words == 1) (number + minimal_after words) (drop (minimal_after words) words)
is_minimal_once before number words once = rw (le-ltb 1 (before + minimal_after words) once) refl

pub said_of_more : (commands : List Command) → 2 ≤ length commands → said commands ≡ and_then (edits [] commands) (λ list. Ok (line.Edits list))
said_of_more [] some = absurd (omega arith)
said_of_more (c ∷ []) some = absurd (omega arith)
said_of_more (c ∷ d ∷ commands) some = refl

-- ---- queries

pub traced_of_two : (minimal : Bool) (number : ℕ) (words : List Word) (x y : Word) → 2 ≤ length words → length words < 3 → x ≡ get_or words 0 x → y ≡ get_or words 1 y
    → traced minimal number words ≡ trace_of minimal number x.text y.text
traced_of_two minimal number words x y some few first second = ap (traced minimal number) (are_two words x y some few first second)

pub list_of_two : (asks : Question) (options number : ℕ) (words : List Word) (y : Word) → asks ≡ question.FlowList → 2 ≤ length words → length words < 3 → y ≡ get_or words 1 y
    → query_of asks options number words ≡ and_then (object_name (number + 1) y.text) (λ dp. Ok (query.FlowList (Some dp)))
list_of_two asks options number words y is some few second =
    ap (λ q. query_of q options number words) is ∙ ap (query_of question.FlowList options number) ((has_second words y some few second).1)

pub trace_of_rest : (asks : Question) (options number : ℕ) (words : List Word) → asks ≡ question.Trace → 1 ≤ length words
    → query_of asks options number words ≡ trace options (number + 1) (drop 1 words)
trace_of_rest asks options number words is some =
    ap (λ q. query_of q options number words) is ∙ ap (query_of question.Trace options number) ((has_first words some).1)
