-- The expression of a rule, up to its `;`, is parsed as in the expression language.
use Rattle.std.proofs.Common.{◌≡◌, ◌≢◌, ℕ, pos, Bool, true, List, [], ◌∷◌, ◌++◌, map, Option, Some, None, Result, Ok, Err, refl}
use Rattle.std.proofs.Common.{ap, sym, ◌∙◌, subst, append_assoc, arith}
use Rattle.ag_expr.specs.declared.fault.ExprFault.{ExprFault}
use Rattle.ag_expr.specs.declared.fault.ExprFault.TheVariants as fault
use Rattle.ag_grammar.specs.declared.syntax.node.Node.TheVariants as node
use Rattle.ag_grammar.specs.expressions.Expression.{Expression}
use Rattle.ag_tokens.specs.declared.token.Punctuation.TheVariants as punctuation
use Rattle.ag_value.specs.declared.value.Value.TheVariants as value
use Rattle.ag_tokens.specs.Ending as ending
use Rattle.ag_tokens.specs.PlacedToken.{PlacedToken, Input}
use Rattle.ag_expr.specs.language.Offsets.{read_from}
use Rattle.ag_tokens.specs.Parsing.{many_from}
use Rattle.ag_expr.specs.language.Reading.{expr_of, expr_in, whole_from, ranked_from, chain_from, atom_from}
use Rattle.ag_tokens.specs.GrammarToken.{GrammarToken}
use Rattle.ag_tokens.specs.GrammarToken as token
use Rattle.ag_expr.proofs.language.Agree as agree
use Rattle.ag_expr.proofs.language.Manner.{sign_is}
use Rattle.ag_expr.proofs.language.Texts.{spells_of, spelled_back}
use Rattle.ag_expr.proofs.language.Until.{split_first, found_first}
use Rattle.ag_expr.specs.language.Until.{Ended, semicolon, after_semicolon, first_semicolon, before_semicolon, until_by}
use Rattle.ag_expr.specs.language.Until.{read_until_from}
use Rattle.ag_text.specs.Reading.{ended, ended_expr_from}
use Rattle.ag_text.specs.declared.stop.Stop.{Stop}
use Rattle.ag_text.specs.declared.stop.Stop.TheVariants.{NoMemory}
use Rattle.ag_text.specs.ParserContract.{stop_of}
use Rattle.ag_text.specs.Syntax.{IsOwnExpr, IsEndedExpr}
use Rattle.ag_text.specs.Meanings.{is_mark}
use Rattle.ag_expr.proofs.reading.Exact.{before}
use Rattle.ag_text.proofs.Manner.{Exact, Steady, itself, manner}

abbrev is_semicolon : GrammarToken → Bool
is_semicolon = is_mark punctuation.Semicolon

-- ---- tokens that are a whole text

own_of : (at : ℕ) (es : List PlacedToken) (x : Expression) → first_semicolon es ≡ None
    → read_from (record { left = es; ending = ending.EndsAt at }) ≡ Ok x → IsOwnExpr es x
own_of at es x free h = let s = spells_of (record { left = es; ending = ending.EndsAt at }) x h in
    record { free = free; listed = s.listed; spells = rw s.listed s.spells }

zero_tokens : List PlacedToken
zero_tokens = record { at = 0; token = token.Number (pos 0) } ∷ []

abbrev zero_expr : Expression
zero_expr = record { tree = node.Literal (value.Num (pos 0)); occurrences = [] }

zero_read : expr_of [] 64 (record { left = zero_tokens; ending = ending.EndsAt 1 }) ≡ Ok
    (zero_expr.tree, record { left = []; ending = ending.EndsAt 1 })
unfolding zero_tokens expr_of expr_in whole_from ranked_from chain_from atom_from many_from
zero_read = refl

zero_own : IsOwnExpr zero_tokens zero_expr
unfolding zero_tokens
zero_own = record { free = refl; listed = refl; spells = (agree.exact [] 64 1 zero_tokens zero_expr.tree).0 zero_read }

-- ---- with the `;`

ended_is : (es : List PlacedToken) (at : ℕ) (x : Expression) → IsOwnExpr es x → IsEndedExpr (es ++ semicolon at ∷ []) x
ended_is es at x is =
    (es, semicolon at ∷ [], x, refl, is, (semicolon at ∷ [], [], tt, refl, (semicolon at, refl, refl), (refl, refl)))

complete : (us : List PlacedToken) (j : Input) (x : Expression) → IsEndedExpr us x
    → ended_expr_from (before us j) ≡ Ok (x, j)
unfolding ended_expr_from
complete us j x (es, vs, y, e, is, (ms, ns, u, d, (p, single, sign), (empty, same))) =
    let mark : is_semicolon p.token ≡ true = grind arith in
    let there : p ≡ semicolon p.at =
    ap (λ t. record { at = p.at; token = t }) (sign_is (token.mark punctuation.Semicolon) p.token mark) in
    let text : us ++ j.left ≡ es ++ semicolon p.at ∷ j.left =
    rw (e, d, single, empty) (append_assoc es (p ∷ []) j.left ∙ ap (λ q. es ++ q ∷ j.left) there) in
    let cut = found_first es p.at j.left is.free in
    let found = spelled_back es p.at y is.listed is.spells in
    rw (text, cut.0, cut.1, found, cut.2, same) refl

found_at : (i j : Input) (x : Expression) (o : Option ℕ) → first_semicolon i.left ≡ o → ended i (until_by o i) ≡ Ok (x, j)
    → (us : List PlacedToken) × (i ≡ before us j) × IsEndedExpr us x
found_at i j x None e h = let bad : ⊥ = grind arith in absurd bad
found_at i j x (Some at) e h =
    let es : List PlacedToken = before_semicolon i.left in
    let part : Input = record { left = es; ending = ending.EndsAt at } in
    let read : (read_from part ≡ Ok x) × (j ≡ record i { left = after_semicolon i.left }) = (grind arith, grind arith) in
    let cut = split_first i.left at e in
    let whole : i.left ≡ (es ++ semicolon at ∷ []) ++ after_semicolon i.left =
    cut.0 ∙ sym (append_assoc es (semicolon at ∷ []) (after_semicolon i.left)) in
    (es ++ semicolon at ∷ [], rw read.1 (ap (λ ps. record i { left = ps }) whole), ended_is es at x (own_of at es x cut.1 read.0))

found : (i j : Input) (x : Expression) → ended_expr_from i ≡ Ok (x, j)
    → (us : List PlacedToken) × (i ≡ before us j) × IsEndedExpr (map (λ p. p) us) x
unfolding ended_expr_from
found i j x h = let f = found_at i j x (first_semicolon i.left) refl h in
    (f.0, f.1, subst (λ ps. IsEndedExpr ps x) (sym (itself f.0)) f.2)

pub ended_exact : {stops : GrammarToken → Bool} → Exact stops IsEndedExpr ended_expr_from
ended_exact = record { sound = found; complete = λ us j x is h. complete us j x (subst (λ ps. IsEndedExpr ps x) (itself us) is) }

never_reported : (i : Input) (r : Result Ended ExprFault) (f : Stop) → manner.is_reported f ≡ true → ended i r ≡ Err f → ⊥
never_reported i r f reported h = let bad : ⊥ = grind arith in bad

pub ended_steady : Steady IsEndedExpr ended_expr_from
unfolding ended_expr_from
ended_steady = record {
  at =
      λ i.
      record {
        ok =
            λ j x h. (let f = found i j x h in
            let again : (k : Input) → ended_expr_from (before f.0 k) ≡ Ok (x, k) =
            λ k. complete f.0 k x (subst (λ ps. IsEndedExpr ps x) (itself f.0) f.2) in
            (f.0, f.1, f.2, λ k e. (again k, again k)));
        err = λ f reported h. absurd (never_reported i (read_until_from i) f reported h);
      };
  word = (zero_tokens ++ semicolon 1 ∷ [], zero_expr, ended_is zero_tokens 1 zero_expr zero_own);
}

-- ---- the result for a cursor

pub read_refused : (i : Input) (f : ExprFault) → stop_of f ≢ NoMemory → (f ≢ fault.NoMemory → read_until_from i ≡ Err f)
    → ended_expr_from i ≡ Err (stop_of f)
unfolding ended_expr_from
read_refused i fault.NoMemory other read = absurd (other refl)
read_refused i f other read = ap (ended i) (read (λ e. cc))
