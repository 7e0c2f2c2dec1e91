-- The words of the proofs: trees, tokens, the grammar, its rules, and std's lemmas on lists and tests.
pub use Rattle.std.specs.Char.{is_digit, digit_value}
pub use Rattle.std.specs.Cmp.Lexicographic.{pointwise}
pub use Rattle.std.specs.List.{All, list_all, prefix_len, slice_split, join_with_byte}
pub use Rattle.std.specs.Option.{option_map}
pub use Rattle.std.proofs.lemmas.Bool.{and_parts, and_left, and_right, and_from, or_left, or_right, or_cases, eqb-true, eqb-false, eq-eqb, ltb-true, lt-ltb, leb-true, le-leb}
pub use Rattle.std.proofs.lemmas.Bool.{cases_lt, false_from_ne_true, false≢true, not-true}
pub use Rattle.std.proofs.lemmas.List.{length-take-le, length-map, take_rest, get_or-take, take-take}
pub use Rattle.std.proofs.lemmas.List.Folds.{list_all_at, list_all-append}
pub use Rattle.std.proofs.lemmas.List.Sums.{prefix_len-le-length, prefix_len_stops}
pub use Rattle.std.proofs.lemmas.Option.{cond_some, some_pair_parts}
pub use Rattle.nv_base.specs.Bytes.{octet_of, pair_of, number_of_parts}
pub use Rattle.nv_base.specs.Ip4.{address, ip4_of}
pub use Rattle.nv_base.specs.declared.ip4.Ip4.{Ip4}
pub use Rattle.nv_base.specs.Mac.{mac_of}
pub use Rattle.nv_base.specs.Name.{is_quotable}
pub use Rattle.nv_base.specs.Number.{digits_number, decimal_of, hexadecimal_of}
pub use Rattle.expr_core.specs.Formula.{Formula, Formulas, formulas, formulas_map}
pub use Rattle.expr_core.specs.Formula.Formula.{Leaf, Not as Negation, And as Conjunction, Or as Disjunction}
pub use Rattle.expr_core.specs.Formula.Formulas.{Nil, Cons}
pub use Rattle.expr_core.specs.Text.{is_joined, needs_parentheses, expr_writing, expr_text, bits_text, const_text, rel_text, atom_text}
pub use Rattle.expr_core.specs.WellFormed.{AreTwo, IsWellFormed, AreWellFormed, one_if, levels_of, levels_among}
pub use Rattle.expr_core.specs.Width.{is_decimal, limit}
pub use Rattle.expr_core.specs.declared.comparison.Item.{Item}
pub use Rattle.expr_core.specs.declared.comparison.Rel.{Rel}
pub use Rattle.expr_core.specs.declared.comparison.Right.{Right}
pub use Rattle.expr_core.specs.declared.constant.Const.{Const}
pub use Rattle.expr_core.specs.declared.constant.Form.{Form}
pub use Rattle.expr_core.specs.declared.expr.Atom.{Atom}
pub use Rattle.expr_core.specs.declared.expr.Atom.TheVariants.{Truth, Bare, Compare}
pub use Rattle.expr_core.specs.declared.part.Bits.{Bits}
pub use Rattle.expr_core.specs.declared.part.Bits.TheVariants.{Whole, Bit, Range}
pub use Rattle.expr_core.specs.declared.part.Part.{Part}
pub use Rattle.expr_const.specs.Constant.{or_else, constant_in as constant, number_after_0x, constant_of}
pub use Rattle.expr_const.specs.inner.Bytes.{is_in_constant}
pub use Rattle.expr_parse.specs.Class.{begins_name}
pub use Rattle.expr_parse.specs.Faults.{fault_offset, up_to, BeginsWith}
pub use Rattle.expr_parse.specs.Grammar.{Reading, and_then, bit_number, last_bit, first_bit, bits, part_of, part, mask, number, item, items, right, compared, truth, closed}
pub use Rattle.expr_parse.specs.Grammar.{Inside, operand, unit, sign, join, after_operator, chain_end, one_more, chain, joined, whole, levels, level_limit, finished}
pub use Rattle.expr_parse.specs.Grammar.{match_of, reading, is_memory}
pub use Rattle.expr_parse.specs.Grammar.Reading.{Read, Fails}
pub use Rattle.expr_parse.specs.GrammarRules.{kinds, decimal as decimal_token, truth_number, bits_tokens, AreBits, IsPart, item_tokens, items_tokens, IsRight, IsAtom}
pub use Rattle.expr_parse.specs.GrammarRules.{IsMatch, AreUnits, IsUnit, IsOperand, IsText}
pub use Rattle.expr_parse.specs.GrammarRules.IsMatch.{alone, joined as is_match}
pub use Rattle.expr_parse.specs.GrammarRules.AreUnits.{last, more}
pub use Rattle.expr_parse.specs.GrammarRules.IsUnit.{plain, comparison}
pub use Rattle.expr_parse.specs.GrammarRules.IsOperand.{truth as is_truth, bare as is_bare, negation as is_negation, enclosed as is_enclosed}
pub use Rattle.expr_parse.specs.Spelling.{is_in_name, is_name, name_after, quoted_of, signs, sign_among, spelled}
pub use Rattle.expr_parse.specs.Token.{Token, Tokens}
pub use Rattle.expr_parse.specs.Token.Token.{Name, Number, Text, AddrSet, Group, Relation, And, Or, Not, Open, Close, OpenBrace, CloseBrace, OpenBracket, CloseBracket, Comma, Slash, Dots}
pub use Rattle.expr_parse.specs.Tokens.{is_blank, blanks, longest, first_token, in_front, tokens_at, tokens_from, tokens_of}
pub use Rattle.expr_parse.specs.Written.{IsConst, IsItem, AreItems, IsRightSide, IsPartName, IsLeaf, IsLexed, IsReadAgain}
pub use Rattle.expr_parse.specs.Written.{part_tokens, right_tokens, atom_tokens, enclosed_tokens, tree_tokens, operand_tokens, more_tokens}
pub use Rattle.expr_parse.specs.declared.class.Class.{Class}
pub use Rattle.expr_parse.specs.declared.class.Class.TheVariants.{Letter, Digit, Quote, Dollar, At, Other}
pub use Rattle.expr_parse.specs.declared.fault.MatchFault.{MatchFault}
pub use Rattle.expr_parse.specs.declared.fault.MatchFault.TheVariants.{Syntax, Mixed, TooDeep}
pub use Rattle.expr_parse.specs.declared.operator.Operator.{Operator}
pub use Rattle.expr_parse.specs.declared.token.TokenAt.{TokenAt}
pub use Rattle.expr_parse.specs.inner.Borrowed.{token_of, token_at}
pub use Rattle.expr_parse.specs.inner.Class.{class_of}
pub use Rattle.expr_parse.specs.inner.Fronts.{front_name}
pub use Rattle.expr_parse.specs.inner.Gives.{seen}
