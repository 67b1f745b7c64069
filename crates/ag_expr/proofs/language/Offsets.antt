-- The first token that cannot be accepted: the tokens before it are a prefix of an expression, and together
-- with it they are not.
use Rattle.ag_expr.proofs.Common
use Common.{◌≡◌, ℕ, zero, suc, ◌+◌, pos, Bool, true, false, if◌then◌else◌, ◌||◌, List, [], ◌∷◌, ◌++◌, Option, Some, None, is_some}
use Common.{Ok, Err, inl, inr, refl, ap, sym, ◌∙◌, subst, append_assoc, append-nil, arith, codes, ExprFault, Call, Operator, Node}
use Common.{Occ, Precedence, Ending, begins_expression, Names, PlacedToken, Input, tokens, sees, is_end, is_sign, choose, ◌>>=◌}
use Common.{◌>>◌, gives, one, ◌or◌, none, further, IsFew, GrammarToken, Sign, mark, word, sign_token, map-append}
use Common.fault
use Common.call
use Common.node
use Common.precedence
use Common.punctuation
use Common.ending
use Common.reading
use Common.token
use Rattle.ag_grammar.specs.declared.syntax.node.Operator.TheVariants as operator
use Rattle.ag_value.specs.declared.value.Value.TheVariants as value
use Rattle.ag_expr.specs.language.Laws.{RefusesAtTheFirst}
use Rattle.ag_expr.specs.language.Offsets.{NoneGoesOn, IsReportedFirst}
use Rattle.ag_expr.specs.language.Reading.{token_as, Outcome, Parser, refusal, refusal_of, at_end, expect, is_operator_of, begins}
use Rattle.ag_expr.specs.language.Reading.{begins_atom, other_from, chain_from, ranked_from, none_from, table_from}
use Rattle.ag_expr.specs.language.Reading.{parenthesized_from, next_from, items_from, some_from, list_from, unary_from}
use Rattle.ag_expr.specs.language.Reading.{binary_from, put_from, arguments_from, call_from, let_from, if_from, atom_from}
use Rattle.ag_expr.specs.language.Reading.{whole_from, level_fault_of, expr_from, expr_in, expr_of}
use Rattle.ag_expr.specs.language.Syntax.{one_sign, operator_of, precedences, takes_one, chain_of, new_name, call_in, operand_of}
use Rattle.ag_expr.specs.language.Syntax.{IsOther, IsChain, IsRanked, AreNone, IsTable, IsParenthesized, IsNext, AreSome, IsList}
use Rattle.ag_expr.specs.language.Syntax.{AreArguments, IsCall, IsLet, IsIf, IsAtom, IsWhole, IsExpr, IsExprIn}
use Rattle.ag_expr.proofs.reading.Exact.{Test, answered, before, nowhere, shortens}
use Rattle.ag_expr.proofs.language.Manner.{Exact, First, Language, Steady, manner, deep_is, is_too_deep, sign_is, sign_steady}
use Rattle.ag_expr.proofs.language.Manner.{token_steady}
use Rattle.ag_expr.proofs.language.Agree.{AllApart, operators, other_exact, other_starts, ranked_exact, all_apart, next_exact}
use Rattle.ag_expr.proofs.language.Agree.{next_starts, atom_exact, expr_exact, expr_first}
use Rattle.ag_expr.proofs.reading.Steady as steady
use Rattle.ag_expr.proofs.reading.Steady.{Heads, first, first_of, same_first_token, then_steady, or_steady, ends_steady}
use Rattle.ag_expr.proofs.reading.Steady.{further_steady}

-- ---- chains

an_operator : (k : Precedence) → (t : GrammarToken) × (o : Operator) × (operator_of k t ≡ Some o)
an_operator precedence.Comparison = (token.Punctuation punctuation.Less, operator.Less, refl)
an_operator precedence.Join = (token.Punctuation punctuation.Join, operator.Join, refl)
an_operator precedence.Sum = (token.Punctuation punctuation.Plus, operator.Add, refl)
an_operator precedence.Product = (token.Punctuation punctuation.Times, operator.Multiply, refl)

other_steady : (k : Precedence) {L : Language Node} {r q : Parser Node} → Steady L r q
    → Steady (IsOther k L) (other_from k r) (other_from k q)
unfolding other_from
other_steady k x = let w = an_operator k in
    then_steady (token_steady (operator_of k) w.0 w.1 w.2) (λ o. ends_steady (λ e. (o, e)) x)

chain_steady : (k : Precedence) {stops : Test} {L M : Language Node} {r q : Parser Node}
    → Steady M r q → Exact stops L r → Exact stops M q → Steady (IsChain k M) (chain_from k r) (chain_from k q)
unfolding chain_from
chain_steady k {stops} {L} {M} x y z =
    then_steady x
    (λ first. ends_steady (chain_of first)
    (further_steady (takes_one k) (is_operator_of k) [] (other_steady k x) (shortens (other_exact k y) (other_starts k L))
    (shortens (other_exact k z) (other_starts k M))))

ranked_steady : {L M : Language Node} {r q : Parser Node} → Steady M r q → Exact nowhere L r
    → Exact nowhere M q → (ks : List Precedence) → AllApart ks → Steady (IsRanked M ks) (ranked_from r ks) (ranked_from q ks)
unfolding ranked_from
ranked_steady x y z [] a = x
ranked_steady x y z (k ∷ ks) a = chain_steady k (ranked_steady x y z ks a.1) (ranked_exact y ks a.1) (ranked_exact z ks a.1)

-- ---- expressions

none_steady : Steady AreNone none_from none_from
unfolding none_from
none_steady = ends_steady (λ u. node.List []) (sign_steady (mark punctuation.CloseList))

table_steady : Steady IsTable table_from table_from
unfolding table_from
table_steady =
    then_steady (sign_steady (mark punctuation.OpenTable))
    (λ u. ends_steady (λ u. node.EmptyTable) (sign_steady (mark punctuation.CloseTable)))

module _ (listed : List Occ) {inner outer : Names → Language Node} {r q : Names → Parser Node}
    (y : (scope : Names) → First (begins listed scope) operators (inner scope) (r scope))
    (z : (scope : Names) → First (begins listed scope) operators (outer scope) (q scope))
    (x : (scope : Names) → Steady (outer scope) (r scope) (q scope)) (scope : Names) where
  closed : {R : Language Node} {s t : Parser Node} (m : Sign) (f : Node → Node) → Steady R s t
      → Steady (R >>= (λ e. one_sign m >> gives (f e)))
      (reading.◌>>=◌ s (λ e. reading.◌>>◌ (expect m) (reading.pure (f e))))
      (reading.◌>>=◌ t (λ e. reading.◌>>◌ (expect m) (reading.pure (f e))))
  closed m f s = then_steady s (λ e. ends_steady (λ u. f e) (sign_steady m))

  parenthesized_steady : Steady (IsParenthesized outer scope) (parenthesized_from r scope) (parenthesized_from q scope)
  unfolding parenthesized_from
  parenthesized_steady =
      then_steady (sign_steady (mark punctuation.Open)) (λ u. closed (mark punctuation.Close) (λ e. e) (x scope))

  next_steady : Steady (IsNext outer scope) (next_from r scope) (next_from q scope)
  unfolding next_from
  next_steady = then_steady (sign_steady (mark punctuation.Comma)) (λ u. x scope)

  some_steady : Steady (AreSome outer scope) (some_from r scope) (some_from q scope)
  unfolding some_from items_from
  some_steady =
      then_steady (x scope) (λ first.
      then_steady (further_steady false (is_sign (mark punctuation.Comma)) (first ∷ []) next_steady
      (shortens (next_exact listed y scope) (next_starts listed y scope))
      (shortens (next_exact listed z scope) (next_starts listed z scope)))
      (λ items. ends_steady (λ u. node.List items) (sign_steady (mark punctuation.CloseList))))

  list_steady : Steady (IsList outer scope) (list_from r scope) (list_from q scope)
  unfolding list_from
  list_steady = then_steady (sign_steady (mark punctuation.OpenList)) (λ u. or_steady none_steady some_steady)

  arguments_steady : (c : Call) → Steady (AreArguments outer scope c) (arguments_from r scope c) (arguments_from q scope c)
  unfolding unary_from binary_from put_from
  arguments_steady (call.Unary c) = closed (mark punctuation.Close) (node.Unary c) (x scope)
  arguments_steady (call.Binary c) = then_steady (x scope) (λ a. closed (mark punctuation.Close) (node.Binary c a) next_steady)
  arguments_steady call.Put =
      then_steady (x scope) (λ t. then_steady next_steady (λ k. closed (mark punctuation.Close) (node.Put t k) next_steady))

  call_steady : Steady (IsCall outer scope) (call_from r scope) (call_from q scope)
  unfolding call_from
  call_steady =
      then_steady (token_steady call_in (token.Name (codes "put")) call.Put refl)
      (λ c. then_steady (sign_steady (mark punctuation.Open)) (λ u. arguments_steady c))

  atom_steady : Steady (IsAtom outer scope listed) (atom_from r scope listed) (atom_from q scope listed)
  unfolding atom_from
  atom_steady =
      or_steady parenthesized_steady
      (or_steady list_steady
      (or_steady table_steady
      (or_steady call_steady
      (token_steady (operand_of listed scope) (token.Number (pos 0)) (node.Literal (value.Num (pos 0))) refl))))

  let_steady : Steady (IsLet outer scope) (let_from r scope) (let_from q scope)
  unfolding let_from
  let_steady =
      then_steady (sign_steady (word (codes "let")))
      (λ u. then_steady (token_steady new_name (token.Name []) [] refl)
      (λ name. then_steady (sign_steady (mark punctuation.Equal)) (λ u. then_steady (x scope)
      (λ e. then_steady (sign_steady (word (codes "in"))) (λ u. ends_steady (node.Let e) (x (scope ++ name ∷ [])))))))

  if_steady : Steady (IsIf outer scope) (if_from r scope) (if_from q scope)
  unfolding if_from
  if_steady =
      then_steady (sign_steady (word (codes "if")))
      (λ u. then_steady (x scope) (λ c. then_steady (sign_steady (word (codes "then"))) (λ u. then_steady (x scope)
      (λ e. then_steady (sign_steady (word (codes "else"))) (λ u. ends_steady (node.If c e) (x scope))))))

  whole_steady : Steady (IsWhole outer scope listed) (whole_from r scope listed) (whole_from q scope listed)
  unfolding whole_from
  whole_steady =
      or_steady let_steady
      (or_steady if_steady
      (ranked_steady atom_steady (atom_exact listed y scope) (atom_exact listed z scope) precedences
      (all_apart precedences refl)))

-- ---- languages that have a word, and a word for each first token

pub record Word {A : Type 0} (L : Language A) : Type 0 where
  pub ts : List GrammarToken
  pub a : A
  pub is : L ts a

-- a word that begins with the token t
abbrev pub BeginsWith : {A : Type 0} → GrammarToken → Language A → Type 0
BeginsWith {A} t L = (rest : List GrammarToken) × (a : A) × L (t ∷ rest) a

pub record Covers {A : Type 0} (test : Test) (L : Language A) : Type 0 where
  pub from : (t : GrammarToken) → test t ≡ true → BeginsWith t L

gives_word : {A : Type 0} (a : A) → Word (gives a)
gives_word a = record { ts = []; a = a; is = (refl, refl) }

sign_word : (s : Sign) → Word (one_sign s)
sign_word s = record { ts = sign_token s ∷ []; a = tt; is = refl }

then_word : {A B : Type 0} {R : Language A} {S : A → Language B} → Word R
    → ((a : A) → Word (S a)) → Word (R >>= S)
then_word w v = let u = v w.a in record { ts = w.ts ++ u.ts; a = u.a; is = (w.ts, u.ts, w.a, refl, w.is, u.is) }

further_word : {A : Type 0} (one : Bool) (found : List A) (L : Language A) → Word (further one found L)
further_word true found L = record { ts = []; a = found ++ []; is = ([], none, omega arith, refl) }
further_word false found L = record { ts = []; a = found ++ []; is = ([], none, tt, refl) }

sign_covers : (s : Sign) → Covers (is_sign s) (one_sign s)
sign_covers s = record { from = λ t h. ([], tt, cc (sign_is s t h)) }

token_covers : {A : Type 0} (meaning : GrammarToken → Option A) → Covers (λ t. is_some (meaning t)) (one meaning)
token_covers {A} meaning = record { from = λ t h. go t (meaning t) refl h }
  where
    go : (t : GrammarToken) (o : Option A) → meaning t ≡ o → is_some o ≡ true → BeginsWith t (one meaning)
    go t (Some a) e h = ([], a, (t, refl, e))
    go t None e h = cc

then_covers : {A B : Type 0} {test : Test} {R : Language A}
    {S : A → Language B} → Covers test R → ((a : A) → Word (S a)) → Covers test (R >>= S)
then_covers x v = record {
  from = λ t h. let one = x.from t h in let u = v one.1 in
      (one.0 ++ u.ts, u.a, (t ∷ one.0, u.ts, one.1, refl, one.2, u.is));
}

or_covers : {A : Type 0} {these those : Test} {L M : Language A} → Covers these L
    → Covers those M → Covers (λ t. these t || those t) (L or M)
or_covers {these = these} {those = those} {L = L} {M = M} x y = record { from = λ t h. go t (these t) refl h }
  where
    go : (t : GrammarToken) (b : Bool) → these t ≡ b → (b || those t) ≡ true → BeginsWith t (L or M)
    go t true e h = let one = x.from t e in (one.0, one.1, inl one.2)
    go t false e h = let one = y.from t h in (one.0, one.1, inr one.2)

ranked_covers : {test : Test} {L : Language Node} → Covers test L → (ks : List Precedence)
    → Covers test (IsRanked L ks)
ranked_covers x [] = x
ranked_covers x (k ∷ ks) =
    then_covers (ranked_covers x ks)
    (λ first. then_word (further_word (takes_one k) [] _) (λ others. gives_word (chain_of first others)))

module _ (listed : List Occ) {inner : Names → Language Node} (w : (scope : Names) → Word (inner scope))
    (scope : Names) where
  next_word : Word (IsNext inner scope)
  next_word = then_word (sign_word (mark punctuation.Comma)) (λ u. w scope)

  closed_word : {R : Language Node} (f : Node → Node) → Word R
      → Word (R >>= (λ e. one_sign (mark punctuation.Close) >> gives (f e)))
  closed_word f v = then_word v (λ e. then_word (sign_word (mark punctuation.Close)) (λ u. gives_word (f e)))

  arguments_word : (c : Call) → Word (AreArguments inner scope c)
  arguments_word (call.Unary c) = closed_word (node.Unary c) (w scope)
  arguments_word (call.Binary c) = then_word (w scope) (λ a. closed_word (node.Binary c a) next_word)
  arguments_word call.Put = then_word (w scope) (λ t. then_word next_word (λ k. closed_word (node.Put t k) next_word))

  list_word : Word (AreNone or AreSome inner scope)
  list_word = let v = then_word (sign_word (mark punctuation.CloseList)) (λ u. gives_word (node.List [])) in
      record { ts = v.ts; a = v.a; is = inl v.is }

  atom_covers : Covers (begins_atom listed scope) (IsAtom inner scope listed)
  atom_covers = or_covers (then_covers (sign_covers (mark punctuation.Open)) (λ u. closed_word (λ e. e) (w scope)))
      (or_covers (then_covers (sign_covers (mark punctuation.OpenList)) (λ u. list_word))
      (or_covers
      (then_covers (sign_covers (mark punctuation.OpenTable))
      (λ u. then_word (sign_word (mark punctuation.CloseTable)) (λ u. gives_word node.EmptyTable)))
      (or_covers (then_covers (token_covers call_in) (λ c. then_word (sign_word (mark punctuation.Open)) (λ u. arguments_word c)))
      (token_covers (operand_of listed scope)))))

  let_covers : Covers (is_sign (word (codes "let"))) (IsLet inner scope)
  let_covers =
      then_covers (sign_covers (word (codes "let")))
      (λ u. then_word (record { ts = token.Name [] ∷ []; a = []; is = (token.Name [], refl, refl) })
      (λ name. then_word (sign_word (mark punctuation.Equal)) (λ u. then_word (w scope)
      (λ e. then_word (sign_word (word (codes "in")))
      (λ u. then_word (w (scope ++ name ∷ [])) (λ f. gives_word (node.Let e f)))))))

  if_covers : Covers (is_sign (word (codes "if"))) (IsIf inner scope)
  if_covers =
      then_covers (sign_covers (word (codes "if")))
      (λ u. then_word (w scope) (λ c. then_word (sign_word (word (codes "then"))) (λ u. then_word (w scope)
      (λ e. then_word (sign_word (word (codes "else"))) (λ u. then_word (w scope) (λ f. gives_word (node.If c e f)))))))

  whole_covers : Covers (begins listed scope) (IsWhole inner scope listed)
  whole_covers = or_covers let_covers (or_covers if_covers (ranked_covers atom_covers precedences))

ranked_word : (L : Language Node) (ts : List GrammarToken) (e : Node) → L ts e → (ks : List Precedence)
    → IsRanked L ks ts e
ranked_word L ts e is [] = is
ranked_word L ts e is (k ∷ ks) = (
  ts,
  [],
  e,
  sym (append-nil ts),
  ranked_word L ts e is ks,
  ([], [], [], refl, ([], none, few (takes_one k), refl), (refl, refl)),
)
  where
    few : (one : Bool) → IsFew one 0
    few true = omega arith
    few false = tt

a_number : (listed : List Occ) (levels : ℕ) (scope : Names) → Word (IsExprIn listed (suc levels) scope)
unfolding IsExprIn
a_number listed levels scope = record {
  ts = token.Number (pos 0) ∷ [];
  a = node.Literal (value.Num (pos 0));
  is = inr (inr (ranked_word _ _ _ (inr (inr (inr (inr (token.Number (pos 0), refl, refl))))) precedences));
}

begun : (listed : List Occ) (levels : ℕ) (scope : Names) → Covers (begins listed scope) (IsExprIn listed (suc (suc levels)) scope)
unfolding IsExprIn
begun listed levels scope = whole_covers listed (a_number listed levels) scope

-- ---- parsers that fail at their first token

pub record Refuses {A : Type 0} (test : Test) (r : Parser A) : Type 0 where
  pub at : (k : Input) → sees test k ≡ false → r k ≡ Err (refusal k)

token_refuses : {A : Type 0} (meaning : GrammarToken → Option A) → Refuses (λ t. is_some (meaning t)) (token_as meaning)
token_refuses meaning = record { at = λ k h. grind arith }

choose_refuses : {A : Type 0} {these those : Test} {l m : Parser A} → Refuses those m
    → Refuses (λ t. these t || those t) (choose these l m)
choose_refuses x = record { at = λ k h. let other = x.at k in grind arith }

ranked_refuses : {test : Test} {l : Parser Node} → Refuses test l → (ks : List Precedence)
    → Refuses test (ranked_from l ks)
unfolding ranked_from chain_from
ranked_refuses x [] = x
ranked_refuses x (k ∷ ks) = record { at = λ i h. let one = (ranked_refuses x ks).at i h in rw one refl }

-- the parser fails at a token that cannot begin an expression
refused_first : (listed : List Occ) (levels : ℕ) (scope : Names)
    → Refuses (begins listed scope) (expr_in listed (suc levels) scope)
unfolding expr_in whole_from atom_from
refused_first listed levels scope =
    choose_refuses
    (choose_refuses
    (ranked_refuses
    (choose_refuses (choose_refuses (choose_refuses (choose_refuses (token_refuses (operand_of listed scope))))))
    precedences))

-- a token that begins an expression with these occurrences and names can begin an expression in general
begins_one : (listed : List Occ) (scope : Names) (t : GrammarToken) → begins listed scope t ≡ true → begins_expression t ≡ true
begins_one listed scope t h = grind arith

-- ---- by levels

-- more levels than n: n + d + 2
abbrev above : ℕ → ℕ → ℕ
above d zero = suc (suc d)
above d (suc n) = suc (above d n)

above-sum : (d n : ℕ) → above d n ≡ suc (suc (d + n))
above-sum d zero = omega arith
above-sum d (suc n) = let e = above-sum d n in omega arith

-- how the parser with n levels fails, next to one with more levels
abbrev RefusedBy : List Occ → ℕ → ℕ → Names → Input → ExprFault → Type 0
RefusedBy listed d n scope =
    steady.Refused manner (IsExprIn listed (above d n) scope) (expr_in listed n scope) (expr_in listed (above d n) scope)

expr_steady : (listed : List Occ) (d n : ℕ) (scope : Names)
    → Steady (IsExprIn listed (above d n) scope) (expr_in listed n scope) (expr_in listed (above d n) scope)
unfolding expr_in IsExprIn
expr_steady listed d zero scope = record {
  at = λ i. record { ok = λ j a h. cc; err = λ f reported h. go i.left i.ending f (cc) };
  word = (number.ts, number.a, number.is);
}
  where
    number : Word (IsExprIn listed (above d 0) scope)
    number = a_number listed (suc d) scope

    stuck : (i : Input) (f : ExprFault) → f ≡ refusal i → sees (begins listed scope) i ≡ false
        → RefusedBy listed d 0 scope i f
    stuck i f same unlike = record {
      us = [];
      j = i;
      cut = refl;
      rest = number.ts;
      a = number.a;
      begins = number.is;
      how = inl (
        same,
        λ k fr. (refused_first listed (suc d) scope).at k
            (same_first_token (begins listed scope) k.left i.left fr ∙ unlike),
      );
    }

    go : (ps : List PlacedToken) (e : Ending) (f : ExprFault) → f ≡ level_fault_of listed scope e ps
        → RefusedBy listed d 0 scope (record { left = ps; ending = e }) f
    go [] e f same = stuck (record { left = []; ending = e }) f same refl
    go (p ∷ ps) e f same = first (begins listed scope p.token) refl same
      where
        first : (b : Bool) → begins listed scope p.token ≡ b → f ≡ (if b then fault.TooDeep p.at else fault.Unexpected p.at)
            → RefusedBy listed d 0 scope (record { left = p ∷ ps; ending = e }) f
        first true b same = let w = (begun listed d scope).from p.token b in record {
          us = [];
          j = record { left = p ∷ ps; ending = e };
          cut = refl;
          rest = p.token ∷ w.0;
          a = w.1;
          begins = w.2;
          how = inr (
            p,
            ps,
            refl,
            rw same (is_too_deep p (begins_one listed scope p.token b)),
            refl,
            λ k e. (level_fault_of listed scope k.ending k.left, refl),
          );
        }
        first false b same = stuck (record { left = p ∷ ps; ending = e }) f same b
expr_steady listed d (suc n) scope =
    whole_steady listed (expr_first listed n) (expr_first listed (above d n)) (expr_steady listed d n) scope

up : (listed : List Occ) (d n : ℕ) (i j : Input) (e : Node) → expr_from listed n i ≡ Ok (e, j)
    → expr_from listed (above d n) i ≡ Ok (e, j)
up listed d n i j e h = let one = ((expr_steady listed d n []).at i).ok j e h in cc (one.1, (one.3 j refl).1)

meet : (m n : ℕ) → above m n ≡ above n m
meet m n = let a = above-sum m n in let b = above-sum n m in omega arith

abbrev NotDeep : Outcome Node → Type 0
NotDeep (Ok x) = Unit {0}
NotDeep (Err f) = (at : ℕ) → f ≡ fault.TooDeep at → ⊥

-- If the parser succeeds with some number of levels, then with any other number it returns the same or
-- fails with `TooDeep`.
one_outcome : (listed : List Occ) (m n : ℕ) (i j : Input) (e : Node) → expr_from listed m i ≡ Ok (e, j) → (o : Outcome Node)
    → expr_from listed n i ≡ o → NotDeep o → o ≡ Ok (e, j)
one_outcome listed m n i j e h (Ok (a, k)) is sure = cc (up listed m n i k a is, meet m n, up listed n m i j e h)
one_outcome listed m n i j e h (Err f) is sure =
    let x = ((expr_steady listed m n []).at i).err f refl is in
    let ok = up listed n m i j e h in
    elim x.how [
      | inl (says, stuck) ↦ let err = stuck x.j refl in cc (x.cut, meet m n)
      | inr (p, ps, l, d, w, deep) ↦ absurd (sure p.at (deep_is f p d).0)
    ]

abbrev placed : List GrammarToken → List PlacedToken
placed [] = []
placed (t ∷ ts) = record { at = 0; token = t } ∷ placed ts

tokens-placed : (ts : List GrammarToken) → tokens (placed ts) ≡ ts
tokens-placed [] = refl
tokens-placed (t ∷ ts) = cc (tokens-placed ts)

not_deep : (e : Ending) (ps : List PlacedToken) (at : ℕ) → refusal_of e ps ≡ fault.TooDeep at → ⊥
not_deep e ps at h = grind arith

module _ (listed : List Occ) (n : ℕ) (us : List PlacedToken) where
  -- if all tokens are an expression, the parser returns it or fails with `TooDeep`
  settled : (m : ℕ) (k : Input) (e : Node) → IsExpr listed m (tokens us ++ tokens k.left) e → (o : Outcome Node)
      → expr_from listed n (before us k) ≡ o → NotDeep o → o ≡ Ok (e, record { left = []; ending = k.ending })
  settled m k e is o read sure =
      let end : Input = record { left = []; ending = k.ending } in
      let found = (expr_exact listed m []).complete (us ++ k.left) end e (rw map-append is) refl in
      one_outcome listed m n (before us k) end e (cc (append-nil (us ++ k.left))) o read sure

  -- an expression that continues with a token; the offsets of the tokens after it are irrelevant
  going_on : (p : PlacedToken) (m : ℕ) (more : List GrammarToken) (e : Node)
      → IsExpr listed m ((tokens us ++ p.token ∷ []) ++ more) e → IsExpr listed m (tokens us ++ p.token ∷ tokens (placed more)) e
  going_on p m more e is = rw tokens-placed (rw append_assoc at is)

  none_stuck : (ps : List PlacedToken) (e : Ending) (f : ExprFault)
      → steady.Stuck manner (expr_from listed n) us (record { left = ps; ending = e }) f → NoneGoesOn listed (tokens us) e ps
  none_stuck [] e f stuck = λ at same m tree is.
      let k : Input = record { left = []; ending = e } in
      let contradiction = settled m k tree (rw append-nil is) (Err (refusal k)) (stuck.1 k refl) (not_deep e []) in
      cc
  none_stuck (p ∷ ps) e f stuck = λ (m, more, tree, is).
      let k : Input = record { left = p ∷ placed more; ending = e } in
      let contradiction =
      settled m k tree (going_on p m more tree is) (Err (refusal k)) (stuck.1 k refl) (not_deep e (p ∷ placed more)) in
      cc

  none_read : (ps : List PlacedToken) (e : Ending) (tree : Node)
      → ((k : Input) → first k ≡ first_of ps → expr_from listed n (before us k) ≡ Ok (tree, k)) → is_end e ps ≡ false
      → NoneGoesOn listed (tokens us) e ps
  none_read [] e tree read open_end = λ at same m other is. let ends = rw same at open_end in cc
  none_read (p ∷ ps) e tree read open_end = λ (m, more, other, is).
      let k : Input = record { left = p ∷ placed more; ending = e } in
      let contradiction = settled m k other (going_on p m more other is) (Ok (tree, k)) (read k refl) tt in
      let same : p ∷ placed more ≡ [] = ap (λ (i : Input). i.left) (answered tree other k _ contradiction).1 in
      cc

headed : (t : GrammarToken) (ts : List GrammarToken) → Heads t ts → (more : List GrammarToken) × (ts ≡ t ∷ more)
headed t [] h = absurd h
headed t (u ∷ us) h = (us, cc)

pub refuses_at_the_first : RefusesAtTheFirst
unfolding expr_of
refuses_at_the_first listed levels i f h = go (expr_from listed levels i) refl h
  where
    refused : RefusedBy listed 0 levels [] i f → IsReportedFirst listed levels i f
    refused x = elim x.how [
      | inl (says, stuck) ↦
          let ends : i.ending ≡ x.j.ending = cc in
          inl (record {
            before = x.us;
            rest = x.j.left;
            cut = cc;
            start = (above 0 levels, x.rest, x.a, x.begins);
            says = rw ends says;
            none = rw ends (none_stuck listed (above 0 levels) x.us x.j.left x.j.ending f (says, stuck));
          })
      | inr (p, ps, l, d, w, deep) ↦
          let next = headed p.token x.rest w in
          let reported = deep_is f p d in
          inr (record {
            before = x.us;
            first = p;
            rest = ps;
            cut = cc;
            says = reported.0;
            begins_one = reported.1;
            start = (above 0 levels, next.0, x.a, rw append_assoc (rw next.1 at x.begins));
            none = λ more tree is.
                let k : Input = record { left = p ∷ placed more; ending = i.ending } in
                let end : Input = record { left = []; ending = i.ending } in
                let whole = going_on listed levels x.us p levels more tree is in
                let found = (expr_exact listed levels []).complete (x.us ++ k.left) end tree (rw map-append whole) refl in
                let other = deep k (cc) in
                cc (other.1, append-nil (x.us ++ k.left));
          })
    ]

    ended : (j : Input) (e : Node) → expr_from listed levels i ≡ Ok (e, j) → (b : Bool) → is_end j.ending j.left ≡ b
        → reading.and_then {A = Unit {0}} (if b then Ok (tt {0}, j) else Err (refusal j)) (λ u. reading.pure e) ≡ Err f
        → IsReportedFirst listed levels i f
    ended j e found true b h = cc
    ended j e found false b h =
        let x = ((expr_steady listed 0 levels []).at i).ok j e found in
        let ends : i.ending ≡ j.ending = cc in
        let says : f ≡ refusal j = cc in
        inl (record {
          before = x.0;
          rest = j.left;
          cut = cc;
          start = (above 0 levels, [], e, rw append-nil x.2);
          says = rw ends says;
          none = subst (λ y. NoneGoesOn listed (tokens x.0) y j.left) (sym ends)
              (none_read listed (above 0 levels) x.0 j.left j.ending e (λ k h. (x.3 k h).1) b);
        })

    go : (o : Outcome Node) → expr_from listed levels i ≡ o
        → reading.and_then o (λ e. reading.◌>>◌ at_end (reading.pure e)) ≡ Err f → IsReportedFirst listed levels i f
    go (Ok (e, j)) found h = ended j e found (is_end j.ending j.left) refl h
    go (Err g) found h = let same : g ≡ f = cc in
        let x = ((expr_steady listed 0 levels []).at i).err f refl (cc) in refused x
