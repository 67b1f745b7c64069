-- Worked examples.
use Rattle.ag_expr.proofs.Common
use Common.{◌≡◌, List, [], ◌∷◌, Ok, pos, codes, lit<, refl, subst, PlacedToken, tokens, AreTokens, ReadsAsExpr}
use Common.punctuation
use Common.ending
use Common.token
use Rattle.std.proofs.lemmas.Str.{encode_ascii}
use Rattle.std.specs.Str.{chars}
use Rattle.unicode_ident.proofs.IdentLemmas.{is_xid_start-ascii, is_xid_continue-ascii}
use Rattle.ag_tokens.specs.Remaining.{cut}
use Rattle.ag_tokens.specs.Lexing.{token_from}
use Rattle.ag_tokens.specs.Parsing.{many_from}
use Rattle.ag_expr.specs.language.Reading.{expr_of, expr_in, whole_from, let_from, ranked_from, chain_from, other_from, atom_from}
use Rattle.ag_expr.specs.language.Syntax.{IsExpr}
use Rattle.ag_expr.specs.language.Worked.{placed, sum_and_product, let_and_compare, bound_and_compared}
use Rattle.ag_expr.proofs.language.Agree as agree
use Rattle.ag_tokens.proofs.Lexes.{cut_at, lexed}

occurrence_is_cut : cut_at 8 (codes "$1.a + 2") ≡ record {
  left =
      placed 0 (token.Occurrence 1 (codes "a")) ∷ placed 5 (token.Punctuation punctuation.Plus) ∷ placed 7
      (token.Number (pos 2)) ∷ [];
  ending = ending.EndsAt 8;
}
unfolding cut_at cut token_from
occurrence_is_cut =
    rw (
      is_xid_start-ascii 97 (lit< tt),
      is_xid_continue-ascii 97 (lit< tt),
      is_xid_continue-ascii 32 (lit< tt),
      encode_ascii 97 (lit< tt),
      is_xid_start-ascii 43 (lit< tt),
    ) refl

pub occurrence_and_number : AreTokens 0 (codes "$1.a + 2")
    (placed 0 (token.Occurrence 1 (codes "a")) ∷ placed 5 (token.Punctuation punctuation.Plus) ∷ placed 7 (token.Number (pos 2))
    ∷ []) 8 []
occurrence_and_number = let all = lexed (codes "$1.a + 2") _ 8 refl occurrence_is_cut in
    subst (AreTokens 0 _ _ 8) all.stops all.before

sum_tokens : List PlacedToken
sum_tokens =
    placed 0 (token.Number (pos 2)) ∷ placed 2 (token.Punctuation punctuation.Plus) ∷ placed 4 (token.Number (pos 3)) ∷ placed 6
    (token.Punctuation punctuation.Times) ∷ placed 8 (token.Number (pos 4)) ∷ []

sum_is_cut : cut_at 9 (codes "2 + 3 * 4") ≡ record { left = sum_tokens; ending = ending.EndsAt 9 }
unfolding sum_tokens cut_at cut token_from
sum_is_cut = rw (is_xid_start-ascii 43 (lit< tt), is_xid_start-ascii 42 (lit< tt)) refl

sum_is_parsed : expr_of [] 64 (record { left = sum_tokens; ending = ending.EndsAt 9 }) ≡ Ok
    (sum_and_product, record { left = []; ending = ending.EndsAt 9 })
unfolding sum_tokens expr_of expr_in whole_from ranked_from chain_from other_from atom_from many_from
sum_is_parsed = refl

sum_characters : chars (codes "2 + 3 * 4") ≡ codes "2 + 3 * 4"
unfolding chars
sum_characters = refl

pub sum_is_read : ReadsAsExpr (codes "2 + 3 * 4") (record { tree = sum_and_product; occurrences = [] })
unfolding sum_tokens
sum_is_read = record {
  placed = sum_tokens;
  lexes = rw sum_characters (lexed (codes "2 + 3 * 4") _ 9 refl sum_is_cut);
  listed = refl;
  spells = (agree.exact [] 64 9 sum_tokens sum_and_product).0 sum_is_parsed;
}

let_is_parsed : expr_of [] 2 (record { left = let_and_compare; ending = ending.EndsAt 18 }) ≡ Ok
    (bound_and_compared, record { left = []; ending = ending.EndsAt 18 })
unfolding expr_of expr_in whole_from let_from ranked_from chain_from other_from atom_from many_from
let_is_parsed = refl

pub let_is_spelled : IsExpr [] 2 (tokens let_and_compare) bound_and_compared
let_is_spelled = (agree.exact [] 2 18 let_and_compare bound_and_compared).0 let_is_parsed
