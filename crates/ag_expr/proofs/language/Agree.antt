-- The parser agrees with the syntax.
use Rattle.ag_expr.proofs.Common
use Common.{rules, ◌≡◌, ℕ, zero, suc, Bool, true, false, not, ◌||◌, if◌then◌else◌, ◌&&◌, List, [], ◌∷◌, ◌++◌, length, ◌<◌, Option}
use Common.{Some, None, Ok, Err, is_some, refl, append-nil, ◌↔◌, codes, arith, and_parts, Precedence, Call, Operator, Node, Occ}
use Common.{Ending, Names, PlacedToken, Input, tokens, ◌>>=◌, ◌>>◌, gives, one, pure, is_end, is_sign, GrammarToken, Sign, mark}
use Common.{word, sign_token}
use Common.call
use Common.punctuation
use Common.node
use Common.ending
use Common.reading
use denote.Enum.Bare.{same_true}
use Rattle.ag_expr.specs.contracts.parser.Precedence.{the_type}
use Rattle.ag_expr.specs.language.Syntax.{one_sign, operator_of, binary_operator, precedences, closer, takes_one, same_precedence}
use Rattle.ag_expr.specs.language.Syntax.{of_precedence, chain_of, new_name, call_in, operand_of, IsOther, IsChain, IsRanked}
use Rattle.ag_expr.specs.language.Syntax.{AreNone, IsTable, IsParenthesized, IsNext, AreSome, IsList, AreArguments, IsCall, IsLet}
use Rattle.ag_expr.specs.language.Syntax.{IsIf, IsAtom, IsWhole, IsExpr, IsExprIn}
use Rattle.ag_expr.specs.language.Reading.{expect, expr_of, refusal, Parser, is_call, is_operand, is_operator_of, begins}
use Rattle.ag_expr.specs.language.Reading.{begins_atom, other_from, chain_from, ranked_from, none_from, table_from}
use Rattle.ag_expr.specs.language.Reading.{parenthesized_from, next_from, items_from, some_from, list_from, unary_from}
use Rattle.ag_expr.specs.language.Reading.{binary_from, put_from, arguments_from, call_from, let_from, if_from, atom_from}
use Rattle.ag_expr.specs.language.Reading.{whole_from, expr_from, expr_in}
use Rattle.ag_expr.proofs.reading.Exact.{Test, nowhere, Apart, then_exact, or_exact, further_exact, further_after, further_then}
use Rattle.ag_expr.proofs.reading.Exact.{then_starts, ends_exact, any_then, start_then, opened, shortens}
use Rattle.ag_expr.proofs.language.Manner.{Language, Starts, Exact, First, token_exact, token_starts, sign_exact, sign_is}
use Rattle.ag_expr.proofs.language.Manner.{sign_first}
use Rattle.ag_expr.proofs.language.Manner.{or_first, starts_with}

-- ---- precedences

abbrev pub in_precedences : List Precedence → GrammarToken → Bool
in_precedences [] t = false
in_precedences (r ∷ rs) t = is_operator_of r t || in_precedences rs t

abbrev absent : Precedence → List Precedence → Bool
absent r [] = true
absent r (q ∷ qs) = not (same_precedence q r) && absent r qs

abbrev pub AllApart : List Precedence → Type 0
AllApart [] = Unit {0}
AllApart (r ∷ rs) = Apart (is_operator_of r) (in_precedences rs) × AllApart rs

of_one : (r : Precedence) (o : Option (Precedence × Operator)) → is_some (of_precedence r o) ≡ true
    → (x : Operator) × (o ≡ Some (r, x))
of_one r None h = cc
of_one r (Some (q, x)) h = let same = same_true the_type (search rules) r q in (x, grind (arith, same))

apart : (r : Precedence) (rs : List Precedence) → absent r rs ≡ true → Apart (is_operator_of r) (in_precedences rs)
apart r [] a t h = refl
apart r (q ∷ qs) a t h = let ih = apart r qs in let one = of_one r (binary_operator t) h in let is = one.1 in grind (arith, ih)

abbrev distinct : List Precedence → Bool
distinct [] = true
distinct (r ∷ rs) = absent r rs && distinct rs

pub all_apart : (rs : List Precedence) → distinct rs ≡ true → AllApart rs
all_apart [] h = tt
all_apart (r ∷ rs) h = let parts = and_parts (absent r rs) (distinct rs) h in (apart r rs parts.0, all_apart rs parts.1)

-- ---- chains

pub other_exact : (k : Precedence) {stops : Test} {L : Language Node} {l : Parser Node}
    → Exact stops L l → Exact stops (IsOther k L) (other_from k l)
unfolding other_from
other_exact k x = any_then (token_exact (operator_of k)) (λ o. ends_exact (λ e. (o, e)) x)

pub other_starts : (k : Precedence) (L : Language Node) → Starts (is_operator_of k) (IsOther k L)
other_starts k L = then_starts (token_starts (operator_of k))

chain_exact : (k : Precedence) {stops : Test} {L : Language Node} {l : Parser Node}
    → Exact stops L l → Apart (is_operator_of k) stops → Exact (λ t. is_operator_of k t || stops t) (IsChain k L) (chain_from k l)
unfolding chain_from
chain_exact k {stops} {L} x away =
    then_exact x (λ first. ends_exact (chain_of first) (further_exact (takes_one k) [] (other_exact k x) (other_starts k L) away))
    (λ first. further_after (takes_one k) [] (is_operator_of k) stops (chain_of first) (other_starts k L) away)

pub ranked_exact : {L : Language Node} {l : Parser Node} → Exact nowhere L l → (ks : List Precedence)
    → AllApart ks → Exact (in_precedences ks) (IsRanked L ks) (ranked_from l ks)
unfolding ranked_from
ranked_exact x [] a = x
ranked_exact x (k ∷ ks) a = chain_exact k (ranked_exact x ks a.1) a.0

pub ranked_starts : {test : Test} {L : Language Node} → Starts test L → (ks : List Precedence)
    → Starts test (IsRanked L ks)
ranked_starts x [] = x
ranked_starts x (k ∷ ks) = then_starts (ranked_starts x ks)

-- ---- disjoint sets of tokens

abbrev pub operators : Test
operators = in_precedences precedences

sign_apart : (s : Sign) (stops : Test) → stops (sign_token s) ≡ false → Apart (is_sign s) stops
sign_apart s stops no_stop t h = cc (sign_is s t h)

-- a call is not an operand, since its name is reserved
call_apart : (listed : List Occ) (scope : Names) → Apart is_call (is_operand listed scope)
call_apart listed scope t h = grind arith

-- ---- expressions

none_exact : Exact nowhere AreNone none_from
unfolding none_from
none_exact = ends_exact (λ u. node.List []) (sign_exact (mark punctuation.CloseList))

table_exact : Exact nowhere IsTable table_from
unfolding table_from
table_exact =
    any_then (sign_exact (mark punctuation.OpenTable))
    (λ u. ends_exact (λ u. node.EmptyTable) (sign_exact (mark punctuation.CloseTable)))

module _ (listed : List Occ) {inner : Names → Language Node} {read : Names → Parser Node}
    (x : (scope : Names) → First (begins listed scope) operators (inner scope) (read scope)) (scope : Names) where
  comma : Apart (is_sign (mark punctuation.Comma)) operators
  comma = sign_apart (mark punctuation.Comma) operators refl

  -- an expression and the closing parenthesis of its form
  closed : {R : Language Node} {r : Parser Node} (f : Node → Node) → Exact operators R r
      → Exact nowhere (R >>= (λ e. one_sign (mark punctuation.Close) >> gives (f e)))
      (reading.◌>>=◌ r (λ e. reading.◌>>◌ (expect (mark punctuation.Close)) (pure (f e))))
  closed f y =
      start_then y (λ e. ends_exact (λ u. f e) (sign_exact (mark punctuation.Close))) (λ e. starts_with (mark punctuation.Close))
      (sign_apart (mark punctuation.Close) operators refl)

  parenthesized_exact : Exact nowhere (IsParenthesized inner scope) (parenthesized_from read scope)
  unfolding parenthesized_from
  parenthesized_exact = any_then (sign_exact (mark punctuation.Open)) (λ u. closed (λ e. e) (x scope).exact)

  pub next_starts : Starts (is_sign (mark punctuation.Comma)) (IsNext inner scope)
  next_starts = starts_with (mark punctuation.Comma)

  pub next_exact : Exact operators (IsNext inner scope) (next_from read scope)
  unfolding next_from
  next_exact = any_then (sign_exact (mark punctuation.Comma)) (λ u. (x scope).exact)

  some_exact : Exact nowhere (AreSome inner scope) (some_from read scope)
  unfolding some_from items_from
  some_exact =
      then_exact (x scope).exact (λ first.
      start_then (further_exact false (first ∷ []) next_exact next_starts comma)
      (λ items. ends_exact (λ u. node.List items) (sign_exact (mark punctuation.CloseList)))
      (λ items. starts_with (mark punctuation.CloseList)) (sign_apart (mark punctuation.CloseList) _ refl))
      (λ first. further_then false (first ∷ []) (is_sign (mark punctuation.Comma)) operators nowhere next_starts comma
      (λ items. starts_with (mark punctuation.CloseList)) (sign_apart (mark punctuation.CloseList) operators refl))

  list_exact : Exact nowhere (IsList inner scope) (list_from read scope)
  unfolding list_from
  list_exact =
      any_then (sign_exact (mark punctuation.OpenList))
      (λ u. or_exact none_exact some_exact (starts_with (mark punctuation.CloseList)) (then_starts (x scope).starts)
      (sign_apart (mark punctuation.CloseList) (begins listed scope) refl))

  arguments_exact : (c : Call) → Exact nowhere (AreArguments inner scope c) (arguments_from read scope c)
  unfolding unary_from binary_from put_from
  arguments_exact (call.Unary c) = closed (node.Unary c) (x scope).exact
  arguments_exact (call.Binary c) =
      start_then (x scope).exact (λ a. closed (node.Binary c a) next_exact) (λ a. then_starts next_starts) comma
  arguments_exact call.Put =
      start_then (x scope).exact (λ t.
      start_then next_exact (λ k. closed (node.Put t k) next_exact) (λ k. then_starts next_starts) comma)
      (λ t. then_starts next_starts) comma

  call_exact : Exact nowhere (IsCall inner scope) (call_from read scope)
  unfolding call_from
  call_exact = any_then (token_exact call_in) (λ c. any_then (sign_exact (mark punctuation.Open)) (λ u. arguments_exact c))

  let_exact : Exact operators (IsLet inner scope) (let_from read scope)
  unfolding let_from
  let_exact =
      any_then (sign_exact (word (codes "let")))
      (λ u. any_then (token_exact new_name)
      (λ name. any_then (sign_exact (mark punctuation.Equal)) (λ u. start_then (x scope).exact
      (λ e. any_then (sign_exact (word (codes "in"))) (λ u. ends_exact (node.Let e) (x (scope ++ name ∷ [])).exact))
      (λ e. starts_with (word (codes "in"))) (sign_apart (word (codes "in")) operators refl))))

  if_exact : Exact operators (IsIf inner scope) (if_from read scope)
  unfolding if_from
  if_exact = any_then (sign_exact (word (codes "if"))) (λ u. start_then (x scope).exact
      (λ c. any_then (sign_exact (word (codes "then"))) (λ u. start_then (x scope).exact
      (λ e. any_then (sign_exact (word (codes "else"))) (λ u. ends_exact (node.If c e) (x scope).exact))
      (λ e. starts_with (word (codes "else"))) (sign_apart (word (codes "else")) operators refl)))
      (λ c. starts_with (word (codes "then"))) (sign_apart (word (codes "then")) operators refl))

  atom_first : First (begins_atom listed scope) nowhere (IsAtom inner scope listed) (atom_from read scope listed)
  unfolding atom_from
  atom_first =
      or_first (sign_first (mark punctuation.Open) parenthesized_exact)
      (or_first (sign_first (mark punctuation.OpenList) list_exact)
      (or_first (sign_first (mark punctuation.OpenTable) table_exact)
      (or_first (record { starts = then_starts (token_starts call_in); exact = call_exact })
      (record { starts = token_starts (operand_of listed scope); exact = token_exact (operand_of listed scope) })
      (call_apart listed scope))
      (sign_apart (mark punctuation.OpenTable) _ refl)) (sign_apart (mark punctuation.OpenList) _ refl))
      (sign_apart (mark punctuation.Open) _ refl)

  pub atom_exact : Exact nowhere (IsAtom inner scope listed) (atom_from read scope listed)
  atom_exact = atom_first.exact

  whole_first : First (begins listed scope) operators (IsWhole inner scope listed) (whole_from read scope listed)
  unfolding whole_from
  whole_first = or_first (sign_first (word (codes "let")) let_exact)
      (or_first (sign_first (word (codes "if")) if_exact)
      (record {
        starts = ranked_starts atom_first.starts precedences;
        exact = ranked_exact atom_first.exact precedences (all_apart precedences refl);
      })
      (sign_apart (word (codes "if")) (begins_atom listed scope) refl))
      (sign_apart (word (codes "let")) _ refl)

pub expr_first : (listed : List Occ) (levels : ℕ) (scope : Names)
    → First (begins listed scope) operators (IsExprIn listed levels scope) (expr_in listed levels scope)
unfolding expr_in IsExprIn
expr_first listed zero scope = record {
  starts = record { leads = λ ts e h. absurd h };
  exact = record { sound = λ i j e h. cc; complete = λ us j e h. absurd h };
}
expr_first listed (suc levels) scope = whole_first listed (expr_first listed levels) scope

closer_apart : (k : Precedence) → AllApart (closer k)
closer_apart k = grind (arith, all_apart)

end_left : (e : Ending) (ps : List PlacedToken) → is_end e ps ≡ true → (at : ℕ) × (e ≡ ending.EndsAt at) × (ps ≡ [])
end_left e ps h = grind arith

-- ---- the parser of expressions

module _ (listed : List Occ) (levels : ℕ) where
  pub expr_exact : (scope : Names) → Exact operators (IsExprIn listed levels scope) (expr_in listed levels scope)
  expr_exact scope = (expr_first listed levels scope).exact

  pub other_shortens : (scope : Names) (k : Precedence) (i j : Input) (a : Operator × Node)
      → other_from k (ranked_from (atom_from (expr_in listed levels) scope listed) (closer k)) i ≡ Ok (a, j)
      → length j.left < length i.left
  other_shortens scope k =
      shortens (other_exact k (ranked_exact (atom_exact listed (expr_first listed levels) scope) (closer k) (closer_apart k)))
      (other_starts k (IsRanked (IsAtom (IsExprIn listed levels) scope listed) (closer k)))

  pub next_shortens : (scope : Names) (i j : Input) (a : Node)
      → next_from (expr_in listed levels) scope i ≡ Ok (a, j) → length j.left < length i.left
  next_shortens scope =
      shortens (next_exact listed (expr_first listed levels) scope) (next_starts listed (expr_first listed levels) scope)

  -- tokens that are parsed to the end of a text are an expression
  pub whole_is : (i j : Input) (e : Node) → expr_from listed levels i ≡ Ok (e, j)
      → is_end j.ending j.left ≡ true → (at : ℕ) × (i.ending ≡ ending.EndsAt at) × IsExpr listed levels (tokens i.left) e
  whole_is i j e h ends =
      let found = (expr_exact []).sound i j e h in
      let last = end_left j.ending j.left ends in
      let all : i.left ≡ found.0 = cc (append-nil found.0) in
      (last.0, cc, rw all found.2)

  -- and an expression is parsed to the end
  pub read_whole : (at : ℕ) (ps : List PlacedToken) (e : Node) → IsExpr listed levels (tokens ps) e
      → expr_of listed levels (record { left = ps; ending = ending.EndsAt at }) ≡ Ok
      (e, record { left = []; ending = ending.EndsAt at })
  unfolding expr_of
  read_whole at ps e is =
      let end : Input = record { left = []; ending = ending.EndsAt at } in
      let read = (expr_exact []).complete ps end e is refl in
      rw (rw append-nil at read) refl

  -- the result of parsing a whole text
  pub read_of : (i j : Input) (e : Node) → expr_from listed levels i ≡ Ok (e, j)
      → is_end j.ending j.left ≡ true → expr_of listed levels i ≡ Ok (e, j)
  unfolding expr_of
  read_of i j e read ends = rw (read, ends) refl

  pub read_to_end : (i j : Input) (e : Node) → expr_of listed levels i ≡ Ok (e, j)
      → (expr_from listed levels i ≡ Ok (e, j)) × (is_end j.ending j.left ≡ true)
  unfolding expr_of
  read_to_end i j e h =
      let one = opened (expr_from listed levels i) _ _ h in
      let ended : reading.and_then {A = Unit {0}}
      (if is_end one.0.1.ending one.0.1.left then Ok (tt {0}, one.0.1) else Err (refusal one.0.1)) (λ u. pure one.0.0) ≡ Ok
      (e, j) = one.2 in
      let read = one.1 in (grind arith, grind arith)

  pub exact : (at : ℕ) (ps : List PlacedToken) (e : Node)
      → (expr_of listed levels (record { left = ps; ending = ending.EndsAt at }) ≡ Ok
      (e, record { left = []; ending = ending.EndsAt at })) ↔ IsExpr listed levels (tokens ps) e
  exact at ps e = (
    λ h. let all = read_to_end _ _ e h in (whole_is _ _ e all.0 all.1).2,
    read_whole at ps e,
  )
