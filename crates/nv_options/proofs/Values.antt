-- The values of the options passed their parsers, and they are read as numbers.
use Rattle.std.proofs.Common.{◌≡◌, ◌∙◌, ◌^◌, ◌<◌, ◌≤◌, ℕ, zero, suc, true, false, List, [], ◌∷◌, length, map, Option, Some, None, Result, Ok, refl, sym, ap, subst, inl, inr, arith, codes, slice_index, unwrap_or, IfSome}
use Rattle.std.specs.Prelude.{pos, option_map, slice_get}
use Rattle.std.specs.Borrow.{Bor}
use Rattle.std.specs.List.{All, slice_index_or}
use Rattle.std.specs.Option.{option_map_or}
use Rattle.std.specs.Str.{bytes_eq}
use Rattle.std.specs.Str.Parse.{ParsesUnsigned}
use Rattle.std.proofs.lemmas.List.Elements.{All-get_or}
use Rattle.std.proofs.lemmas.Slice.Eq.{bytes_eq-Decides}
use Rattle.clap.specs.Facts.{Entry, EntryPasses, HasReading, PassesArg, args_of, groups_of, parser_of, parser_of_value}
use Rattle.clap.specs.Built.{IsAuto, IsParsedFrom, SameRules}
use Rattle.clap.specs.Matches.{ReadsOne, found_of, matched_of, one_text}
use Rattle.clap.specs.Simple.{app_of}
use Rattle.clap.specs.Values.{Accepts, IsSignedIn, read_as, reading_of}
use Rattle.clap.specs.Walk.{Rule, rule_of}
use Rattle.clap.specs.declared.builder.arg.Arg.{Arg}
use Rattle.clap.specs.declared.builder.command.Command.{Command}
use Rattle.clap.specs.declared.builder.value_parser.Reading.{Reading}
use Rattle.clap.specs.declared.builder.value_parser.Reading.TheVariants.{WithoutMinus}
use Rattle.clap.specs.declared.builder.value_parser.ValueParser.{ValueParser}
use Rattle.clap.specs.declared.builder.value_parser.ValueParser.TheVariants.{Signed}
use Rattle.clap.specs.declared.parser.matches.ArgMatches.{ArgMatches}
use Rattle.clap.specs.declared.parser.matches.MatchedArg.{MatchedArg}
use Rattle.clap.proofs.CallerLemmas.{entry_by_id, same_rules_by_id}
use Rattle.clap.proofs.CallerReads.{signed_reads}
use Rattle.clap.proofs.SimpleLemmas.{all_simple, plain_fields, simple_groups}
use Rattle.nv_options.specs.Options.{generate_rule, hops_rule, number_of, program}
use Rattle.nv_options.specs.inner.Passed.{HasPassed}

-- a list of two arguments
record IsBoth (args : List Arg) : Type 0 where
  pub hops : Arg
  pub generate : Arg
  pub list : args ≡ hops ∷ generate ∷ []
  pub hops_is : rule_of hops ≡ hops_rule
  pub generate_is : rule_of generate ≡ generate_rule

both_args : (args : List Arg) → map rule_of args ≡ hops_rule ∷ generate_rule ∷ [] → IsBoth args
both_args [] e = absurd (none e)
  where
    none : {X : Type 0} {x : X} {xs : List X} → ([] ≡ x ∷ xs) → ⊥
    none e = cc
both_args (a ∷ []) e = absurd (one e)
  where
    one : {X : Type 0} {x y z : X} {xs : List X} → (x ∷ [] ≡ y ∷ z ∷ xs) → ⊥
    one e = cc
both_args (a ∷ b ∷ []) e = record { hops = a; generate = b; list = refl; hops_is = ap (first hops_rule) e; generate_is = ap (second hops_rule) e }
  where
    first : Rule → List Rule → Rule
    first other [] = other
    first other (r ∷ rs) = r

    second : Rule → List Rule → Rule
    second other [] = other
    second other (r ∷ rs) = first other rs
both_args (a ∷ b ∷ d ∷ args) e = absurd (more e)
  where
    more : {X : Type 0} {x y z u v : X} {xs : List X} → (x ∷ y ∷ z ∷ xs ≡ u ∷ v ∷ []) → ⊥
    more e = cc

-- an option among the arguments of a command: its place, its name, and the most that its value may be
record IsOption (args : List Arg) (k : ℕ) (a : Arg) (id : List ℕ) (most : ℕ) : Type 0 where
  pub within : k < length args
  pub at : slice_index_or args k a ≡ a
  pub id_is : a.id.now ≡ id
  pub parser_is : a.value_parser ≡ Some (Signed (pos 1) (pos most))
  pub alone : (j : ℕ) (e : Arg) → j < length args → bytes_eq (slice_index_or args j e).id.now id ≡ true → j ≡ k
  pub no_help : id ≡ codes "help" → ⊥
  pub no_version : id ≡ codes "version" → ⊥
  pub named : id ≡ [] → ⊥

-- no text with another first byte is the text
apart : (id t : List ℕ) (x y : ℕ) → slice_index id 0 ≡ x → slice_index t 0 ≡ y → (x ≡ y → ⊥) → id ≡ t → ⊥
apart id t x y first other differ e = differ (sym first ∙ ap (λ t. slice_index t 0) e ∙ other)

false_true : false ≡ true → ⊥
false_true e = cc

module _ (a b : Arg) (hops : rule_of a ≡ hops_rule) (generate : rule_of b ≡ generate_rule) where
  hops_id : a.id.now ≡ codes "hops"
  hops_id = ap (λ (r : Rule). r.id) hops

  generate_id : b.id.now ≡ codes "generate"
  generate_id = ap (λ (r : Rule). r.id) generate

  only_hops : (j : ℕ) (e : Arg) → j < 2 → bytes_eq (slice_index_or (a ∷ b ∷ []) j e).id.now (codes "hops") ≡ true → j ≡ 0
  only_hops zero e low same = refl
  only_hops (suc zero) e low same = absurd (false_true (subst (λ t. bytes_eq t (codes "hops") ≡ true) generate_id same))
  only_hops (suc (suc j)) e low same = absurd (omega (arith, low))

  only_generate : (j : ℕ) (e : Arg) → j < 2 → bytes_eq (slice_index_or (a ∷ b ∷ []) j e).id.now (codes "generate") ≡ true → j ≡ 1
  only_generate zero e low same = absurd (false_true (subst (λ t. bytes_eq t (codes "generate") ≡ true) hops_id same))
  only_generate (suc zero) e low same = refl
  only_generate (suc (suc j)) e low same = absurd (omega (arith, low))

  is_hops : IsOption (a ∷ b ∷ []) 0 a (codes "hops") 64
  is_hops = record {
    within = omega arith;
    at = refl;
    id_is = hops_id;
    parser_is = ap (λ (r : Rule). r.parser) hops;
    alone = only_hops;
    no_help = λ e. absurd (clash (ap (λ t. slice_index t 1) e));
    no_version = apart (codes "hops") (codes "version") 104 118 refl refl (λ e. absurd (omega (arith, e)));
    named = λ e. absurd (empty (ap length e));
  }
    where
      clash : ◌≡◌ {A = ℕ} 111 101 → ⊥
      clash bad = absurd (omega (arith, bad))

      empty : ◌≡◌ {A = ℕ} 4 0 → ⊥
      empty bad = absurd (omega (arith, bad))

  is_generate : IsOption (a ∷ b ∷ []) 1 b (codes "generate") 16000
  is_generate = record {
    within = omega arith;
    at = refl;
    id_is = generate_id;
    parser_is = ap (λ (r : Rule). r.parser) generate;
    alone = only_generate;
    no_help = apart (codes "generate") (codes "help") 103 104 refl refl (λ e. absurd (omega (arith, e)));
    no_version = apart (codes "generate") (codes "version") 103 118 refl refl (λ e. absurd (omega (arith, e)));
    named = λ e. absurd (empty (ap length e));
  }
    where
      empty : ◌≡◌ {A = ℕ} 8 0 → ⊥
      empty bad = absurd (omega (arith, bad))

module _ (c : Command) (m : ArgMatches) (p : IsParsedFrom c m) (k : ℕ) (a : Arg) (id : List ℕ) (most : ℕ) (option : IsOption (args_of c) k a id most) where
  abbrev range : ValueParser
  range = Signed (pos 1) (pos most)

  own_id : (slice_index_or (args_of c) k a).id.now ≡ id
  own_id = ap (λ (x : Arg). x.id.now) option.at ∙ option.id_is

  -- it is not one of the flags that are added
  not_auto : IsAuto (slice_index_or (args_of c) k a) → ⊥
  not_auto (inl help) = option.no_help (sym own_id ∙ help)
  not_auto (inr version) = option.no_version (sym own_id ∙ version)

  -- an argument of the built command with its id has its parser
  parser_is : (j : ℕ) (x : Arg) → j < length (args_of p.built) → slice_index_or (args_of p.built) j x ≡ x → bytes_eq x.id.now id ≡ true → parser_of x ≡ range
  parser_is j x high at same =
      let rules : SameRules (slice_index_or (args_of c) k a) x =
      same_rules_by_id c m p k a option.within
      (λ j e low same. option.alone j e low (subst (λ t. bytes_eq (slice_index_or (args_of c) j e).id.now t ≡ true) own_id same)) not_auto j x high at
      (subst (λ t. bytes_eq x.id.now t ≡ true) (sym own_id) same) in
      ap parser_of_value (rules.parser range (ap (λ (x : Arg). x.value_parser) option.at ∙ option.parser_is))

  reading_is : (how : Reading) → HasReading p.built id how → how ≡ WithoutMinus
  reading_is how any = sym any.4.1 ∙ ap reading_of (parser_is any.0 any.1 any.2 any.3 any.4.0)

  passes : (text : List ℕ) → PassesArg p.built id text → IsSignedIn (pos 1) (pos most) text
  passes text any = subst (λ parser. Accepts any.1.ignore_case parser text) (parser_is any.0 any.1 any.2 any.3 any.4.0) any.4.1

  -- the values of its entry, the first of which is read
  first_passes : (how : Reading) (values : List (Bor (List ℕ))) → how ≡ WithoutMinus → All (λ v. PassesArg p.built id v.now) values
      → HasPassed most (option_map (λ s. read_as how s.now) (slice_get values 0))
  first_passes how [] is all = tt
  first_passes how (v ∷ values) is all = rw is (v.now, refl, passes v.now (All-get_or (λ v. PassesArg p.built id v.now) (v ∷ values) 0 v (omega arith) all))

  -- an entry of the option is no group's
  entry_passes : groups_of p.built ≡ [] → (e : Entry) → e.0.now ≡ id → EntryPasses p.built e
      → HasPassed most (option_map (λ s. read_as e.1.reading s.now) (slice_get e.1.vals.items 0))
  entry_passes no_groups e key pass =
      let no_group : e.1.is_group ≡ true → ⊥ = λ g. elim (pass.3 g) [
        | inl empty ↦ option.named (sym key ∙ empty)
        | inr lots ↦ let bad : 0 < 0 = rw no_groups at lots in absurd (omega arith)
      ] in
      let how : e.1.reading ≡ WithoutMinus = elim pass.4 [
        | inl g ↦ absurd (no_group g)
        | inr has ↦ reading_is e.1.reading (subst (λ t. HasReading p.built t e.1.reading) key has)
      ] in
      elim pass.0 [
        | inl g ↦ absurd (no_group g)
        | inr all ↦ first_passes e.1.reading e.1.vals.items how (subst (λ t. All (λ v. PassesArg p.built t v.now) e.1.vals.items) key all)
      ]

  -- what is read of it passed its parser
  option_passed : groups_of p.built ≡ [] → All (EntryPasses p.built) (found_of m).entries.items → HasPassed most (one_text (found_of m) id)
  option_passed groups values = by (matched_of (found_of m) id) refl
    where
      by : (o : Option MatchedArg) → matched_of (found_of m) id ≡ o → HasPassed most (one_text (found_of m) id)
      by None e = rw e tt
      by (Some x) e =
          let got = entry_by_id (EntryPasses p.built) (found_of m).entries.items id x values e in
          rw (e, sym got.1) (entry_passes groups got.0 ((bytes_eq-Decides got.0.0.now id).0 got.2) got.3)

-- what is read of each option passed its parser
pub passed : (c : Command) (m : ArgMatches) → app_of c ≡ program → IsParsedFrom c m
    → HasPassed 64 (one_text (found_of m) (codes "hops")) × HasPassed 16000 (one_text (found_of m) (codes "generate"))
passed c m app p =
    let both = both_args (args_of c) (ap (λ a. a.top.rules) app) in
    let fields = plain_fields c (ap (λ a. a.top.is_plain) app) in
    let groups : groups_of p.built ≡ [] = (p.from.same_groups (simple_groups c (ap (λ a. all_simple a.top.rules) app))).1 ∙ fields.groups in
    let values = (p.parsed (p.from.globals ∙ fields.globals)).values in (
      option_passed c m p 0 both.hops (codes "hops") 64
          (subst (λ args. IsOption args 0 both.hops (codes "hops") 64) (sym both.list) (is_hops both.hops both.generate both.hops_is both.generate_is)) groups values,
      option_passed c m p 1 both.generate (codes "generate") 16000
          (subst (λ args. IsOption args 1 both.generate (codes "generate") 16000) (sym both.list) (is_generate both.hops both.generate both.hops_is both.generate_is)) groups values,
    )

-- a text that passed is read as a number
pub read_so : (E : Type 0) (G : List ℕ → Result ℕ E → Type 0) (bits most : ℕ) → most < 2 ^ bits → ((t : List ℕ) (x : Result ℕ E) → G t x → ParsesUnsigned bits 10 t x)
    → (text : Option (List ℕ)) (value : Option ℕ) → HasPassed most text → (text ≡ None → value ≡ None) → ((t : List ℕ) → text ≡ Some t → ReadsOne G t value)
    → (value ≡ option_map number_of text) × IfSome value (λ n. (1 ≤ n) × (n ≤ most))
read_so E G bits most fits parses None value may none some = rw (none refl) (refl, tt)
read_so E G bits most fits parses (Some t) value (written, is, within) none some =
    let reads = some t refl in
    let got = signed_reads E G bits 1 most written value (subst (λ t. ReadsOne G t value) is reads) parses fits within in
    let parsed = parses t (Ok got.0) (subst (λ o. ReadsOne G t o) got.1 reads) in
    rw got.1 (ap Some parsed.1, (got.2, got.3))

-- where none is given a default is taken
pub or_default : (text : Option (List ℕ)) (default : ℕ) → unwrap_or (option_map number_of text) default ≡ option_map_or number_of text default
or_default None default = refl
or_default (Some t) default = refl

pub default_within : (value : Option ℕ) (most default : ℕ) → 1 ≤ default → default ≤ most → IfSome value (λ n. (1 ≤ n) × (n ≤ most)) → (1 ≤ unwrap_or value default) × (unwrap_or value default ≤ most)
default_within None most default low high within = (low, high)
default_within (Some n) most default low high within = within
