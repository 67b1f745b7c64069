-- Worked examples.
use Rattle.std.proofs.Common.{◌≡◌, List, [], ◌∷◌, Ok, Err, codes, IsUtf8, lit<, refl, ap, sym, ◌∙◌, subst, arith}
use Rattle.std.proofs.lemmas.Str.{encode_ascii}
use Rattle.std.specs.Str.{chars}
use Rattle.unicode_ident.proofs.IdentLemmas.{is_xid_start-ascii, is_xid_continue-ascii}
use Rattle.ag_tokens.specs.declared.token.Punctuation.TheVariants as punctuation
use Rattle.ag_tokens.specs.Ending as ending
use Rattle.ag_tokens.specs.Lexing.{token_from}
use Rattle.ag_tokens.specs.PlacedToken.{PlacedToken, Input}
use Rattle.ag_expr.specs.language.Reading.{expr_of, expr_in, whole_from, ranked_from, chain_from, atom_from}
use Rattle.ag_tokens.specs.Parsing.{many_from}
use Rattle.ag_tokens.specs.Tokens.{Lexes}
use Rattle.ag_tokens.specs.Remaining.{cut}
use Rattle.ag_tokens.proofs.Lexes.{cut_at, lexed, one_input}
use Rattle.ag_text.specs.Grammar.{ReadsAsGrammar, ReadsAsNone}
use Rattle.ag_text.specs.Reading.{next_name_from, names_from, section_from, attributes_from, symbol_from, ended_expr_from}
use Rattle.ag_text.specs.Reading.{rule_from, production_from, grammar_from, grammar_of}
use Rattle.ag_text.specs.declared.stop.Stop.TheVariants.{WrongAt}
use Rattle.ag_text.specs.Syntax.{IsGrammar}
use Rattle.ag_text.specs.Worked.{name_at, mark_at, start_tokens, start_alone, constant_tokens, constant}
use Rattle.ag_text.proofs.Agree.{reading_agrees}

constant_is_read : grammar_of (record { left = constant_tokens; ending = ending.EndsAt 57 }) ≡ Ok
    (constant, record { left = []; ending = ending.EndsAt 57 })
unfolding grammar_of grammar_from many_from symbol_from attributes_from section_from names_from next_name_from production_from
    rule_from ended_expr_from expr_of expr_in whole_from ranked_from chain_from atom_from
constant_is_read = refl

pub constant_is_spelled : IsGrammar constant_tokens constant
constant_is_spelled = (reading_agrees 57 constant_tokens constant).0 constant_is_read

start_is_read : grammar_of (record { left = start_tokens; ending = ending.EndsAt 8 }) ≡ Ok
    (start_alone, record { left = []; ending = ending.EndsAt 8 })
unfolding grammar_of grammar_from many_from
start_is_read = refl

start_is_cut : cut_at 8 (codes "start S;") ≡ record { left = start_tokens; ending = ending.EndsAt 8 }
unfolding cut_at cut token_from
start_is_cut =
    rw (
      is_xid_start-ascii 115 (lit< tt),
      is_xid_continue-ascii 115 (lit< tt),
      is_xid_continue-ascii 116 (lit< tt),
      is_xid_continue-ascii 97 (lit< tt),
      is_xid_continue-ascii 114 (lit< tt),
      is_xid_continue-ascii 32 (lit< tt),
      encode_ascii 115 (lit< tt),
      encode_ascii 116 (lit< tt),
      encode_ascii 97 (lit< tt),
      encode_ascii 114 (lit< tt),
      is_xid_start-ascii 83 (lit< tt),
      is_xid_continue-ascii 83 (lit< tt),
      is_xid_continue-ascii 59 (lit< tt),
      encode_ascii 83 (lit< tt),
      is_xid_start-ascii 59 (lit< tt),
    ) refl

start_characters : (chars (codes "start S;") ≡ codes "start S;") × (chars (codes "start ;") ≡ codes "start ;")
unfolding chars
start_characters = (refl, refl)

start_utf8 : IsUtf8 (codes "start S;")
start_utf8 = (
  codes "start S;",
  (
    refl,
    rw (
      encode_ascii 115 (lit< tt),
      encode_ascii 116 (lit< tt),
      encode_ascii 97 (lit< tt),
      encode_ascii 114 (lit< tt),
      encode_ascii 32 (lit< tt),
      encode_ascii 83 (lit< tt),
      encode_ascii 59 (lit< tt),
    ) refl,
  ),
)

pub start_alone_is_read : ReadsAsGrammar (codes "start S;") start_alone
start_alone_is_read = record {
  short = omega arith;
  utf8 = start_utf8;
  placed = start_tokens;
  lexes = rw start_characters.0 (lexed (codes "start S;") _ 8 refl start_is_cut);
  spells = (reading_agrees 8 start_tokens start_alone).0 start_is_read;
}

-- the tokens of `start ;`
abbrev bare_tokens : List PlacedToken
bare_tokens = name_at 0 (codes "start") ∷ mark_at 6 punctuation.Semicolon ∷ []

bare_is_cut : cut_at 7 (codes "start ;") ≡ record { left = bare_tokens; ending = ending.EndsAt 7 }
unfolding cut_at cut token_from
bare_is_cut =
    rw (
      is_xid_start-ascii 115 (lit< tt),
      is_xid_continue-ascii 115 (lit< tt),
      is_xid_continue-ascii 116 (lit< tt),
      is_xid_continue-ascii 97 (lit< tt),
      is_xid_continue-ascii 114 (lit< tt),
      is_xid_continue-ascii 32 (lit< tt),
      encode_ascii 115 (lit< tt),
      encode_ascii 116 (lit< tt),
      encode_ascii 97 (lit< tt),
      encode_ascii 114 (lit< tt),
      is_xid_start-ascii 59 (lit< tt),
    ) refl

bare_is_refused : grammar_of (record { left = bare_tokens; ending = ending.EndsAt 7 }) ≡ Err (WrongAt 6)
unfolding grammar_of grammar_from
bare_is_refused = refl

pub no_start_is_none : ReadsAsNone (codes "start ;")
no_start_is_none raw is =
    let bare : Lexes 0 (chars (codes "start ;")) (record { left = bare_tokens; ending = ending.EndsAt 7 }) =
    rw start_characters.1 (lexed (codes "start ;") _ 7 refl bare_is_cut) in
    let input = one_input (chars (codes "start ;")) in
    let same : is.placed ≡ bare_tokens = ap (λ (i : Input). i.left) (input.2 _ is.lexes ∙ sym (input.2 _ bare)) in
    let read = (reading_agrees 7 bare_tokens raw).1 (subst (λ ps. IsGrammar ps raw) same is.spells) in
    let bad = sym bare_is_refused ∙ read in
    cc
