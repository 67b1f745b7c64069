-- The numbers in the tree of an expression are in range: those of occurrences for the list, and those of
-- bound names for the scope.
use Rattle.ag_expr.proofs.Common
use Common.{lt-ltb, ◌≡◌, ◌<◌, ◌+◌, ℕ, zero, suc, length, Option, Some, None, IfSome, subst, List, [], ◌∷◌, ◌++◌, Bool, true}
use Common.{false, cond, inl, inr, refl, arith, length-append, bytes_eq, Call, Operator, Node, Occ, Precedence, Names, last_from}
use Common.{binding_in, is_reserved, is_of, position_of, ◌>>=◌, ◌>>◌, Many, none, more, further, gives, one, ◌or◌, GrammarToken}
use Common.{is_below}
use Common.call
use Common.node
use Common.token
use Rattle.std.specs.Prelude.{option_map}
use Rattle.ag_grammar.specs.declared.syntax.node.Node.TheOpen.{Node-F}
use Rattle.ag_expr.specs.language.Syntax.{precedences, chain_of, operand_of, takes_one, IsOther, IsRanked, IsNext, IsList}
use Rattle.ag_expr.specs.language.Syntax.{AreArguments, IsLet, IsIf, IsAtom, IsWhole, IsExpr, IsExprIn}
use Rattle.ag_expr.proofs.language.Manner.{Language}
use Rattle.ag_expr.proofs.language.Numbered.{within}
use Rattle.ag_grammar.proofs.expressions.Within.{Each, Within, both, rolled, in_chain, in_list, literal_within, occurrence_within}

-- ---- properties of everything that a language relates to tokens

pub record Holds {A : Type 0} (P : A → Type 0) (L : Language A) : Type 0 where
  pub of : (ts : List GrammarToken) (a : A) → L ts a → P a

abbrev Any : {A : Type 0} → A → Type 0
Any a = Unit {0}

any : {A : Type 0} {L : Language A} → Holds Any L
any = record { of = λ ts a is. tt }

then_holds : {A B : Type 0} {P : A → Type 0} {Q : B → Type 0} {R : Language A}
    {S : A → Language B} → Holds P R → ((a : A) → P a → Holds Q (S a)) → Holds Q (R >>= S)
then_holds x y = record { of = λ ts b (us, vs, a, e, is, later). (y a (x.of us a is)).of vs b later }

gives_holds : {A : Type 0} (P : A → Type 0) (a : A) → P a → Holds P (gives a)
gives_holds P a h = record { of = λ ts b (e, same). rw same h }

or_holds : {A : Type 0} {P : A → Type 0} {L M : Language A} → Holds P L → Holds P M → Holds P (L or M)
or_holds x y = record { of = λ ts a. elim [ inl is ↦ x.of ts a is | inr is ↦ y.of ts a is ] }

each-append : {A : Type 0} (P : A → Type 0) (xs ys : List A) → Each P xs → Each P ys → Each P (xs ++ ys)
each-append P [] ys h g = g
each-append P (x ∷ xs) ys h g = (h.0, each-append P xs ys h.1 g)

each_of : {A : Type 0} (P : A → Type 0) (L : Language A) → Holds P L → (ts : List GrammarToken) (xs : List A)
    → Many L ts xs → Each P xs
each_of P L x ts xs none = tt
each_of P L x ts xs (more us vs y ys is others) = (x.of us y is, each_of P L x vs ys others)

further_holds : {A : Type 0} (P : A → Type 0) (one : Bool) (found : List A) {L : Language A} → Holds P L
    → Each P found → Holds (Each P) (further one found L)
further_holds P one found {L} x h =
    record { of = λ ts all (xs, are, le, same). rw same (each-append P found xs h (each_of P L x ts xs are)) }

-- ---- trees

chained_within : (n bound : ℕ) (first : Node) (others : List (Operator × Node)) → Within n bound first
    → Each (λ p. Within n bound p.1) others → Within n bound (chain_of first others)
chained_within n bound first [] here all = here
chained_within n bound first (x ∷ xs) here all = in_chain n bound first (x ∷ xs) here all

-- ---- bound names

last_below : {A : Type 0} (test : A → Bool) (at : ℕ) (found : Option ℕ) (ys : List A) → IfSome found (λ k. k < at)
    → IfSome (last_from test at found ys) (λ k. k < at + length ys)
last_below test at None [] h = tt
last_below test at (Some k) [] h = omega arith
last_below test at found (y ∷ ys) h =
    let more = last_below test (at + 1) (cond (test y) (Some at) found) ys in
    grind (arith, more)

-- ---- expressions

module _ (listed : List Occ) where
  abbrev n : ℕ
  n = length listed

  operand_within : (scope : Names) → Holds (Within n (length scope)) (one (operand_of listed scope))
  operand_within scope = record { of = λ ts e (t, is, means). subst (λ o. IfSome o (Within n (length scope))) means (operand t) }
    where
      occurrence : (o : Option ℕ) → IfSome o (λ k. k < n) → IfSome (option_map node.Occurrence o) (Within n (length scope))
      occurrence None h = tt
      occurrence (Some k) h = occurrence_within n (length scope) k (lt-ltb k n h)

      name : (reserved : Bool) (o : Option ℕ) → IfSome o (λ k. k < length scope)
          → IfSome (cond reserved None (option_map node.Bound o)) (Within n (length scope))
      name true o h = tt
      name false None h = tt
      name false (Some k) h = rolled n (length scope) (Node-F.Bound k) _ (node.rolls-Bound k) (lt-ltb k (length scope) h)

      operand : (t : GrammarToken) → IfSome (operand_of listed scope t) (Within n (length scope))
      operand (token.Number z) = literal_within n (length scope) _
      operand (token.Text bytes) = literal_within n (length scope) _
      operand (token.Name x) =
          name (is_reserved x) (binding_in scope x)
          (subst (λ m. IfSome (binding_in scope x) (λ k. k < m)) (omega arith)
          (last_below (λ y. bytes_eq y x) 0 None scope tt))
      operand (token.Occurrence place attr) = occurrence (position_of listed place attr) (within (is_of place attr) listed)
      operand (token.Punctuation m) = tt

  other_within : (bound : ℕ) (k : Precedence) {L : Language Node} → Holds (Within n bound) L
      → Holds (λ (p : Operator × Node). Within n bound p.1) (IsOther k L)
  other_within bound k x =
      then_holds any (λ o h. then_holds x (λ e h. gives_holds (λ (p : Operator × Node). Within n bound p.1) (o, e) h))

  ranked_within : (bound : ℕ) {L : Language Node} → Holds (Within n bound) L → (ks : List Precedence)
      → Holds (Within n bound) (IsRanked L ks)
  ranked_within bound x [] = x
  ranked_within bound x (k ∷ ks) =
      let inner = ranked_within bound x ks in
      then_holds inner
      (λ first h. then_holds (further_holds (λ p. Within n bound p.1) (takes_one k) [] (other_within bound k inner) tt)
      (λ others all. gives_holds (Within n bound) (chain_of first others) (chained_within n bound first others h all)))

  module _ {inner : Names → Language Node}
      (x : (scope : Names) → Holds (Within n (length scope)) (inner scope)) (scope : Names) where
    abbrev W : Node → Type 0
    W = Within n (length scope)

    last : (f : Node → Node) {L : Language Node} {M : Language (Unit {0})} → Holds W L
        → ((e : Node) → W e → W (f e)) → Holds W (L >>= (λ e. M >> gives (f e)))
    last f y keeps = then_holds y (λ e h. then_holds any (λ u h'. gives_holds W (f e) (keeps e h)))

    next_within : Holds W (IsNext inner scope)
    next_within = then_holds any (λ u h. x scope)

    list_within : Holds W (IsList inner scope)
    list_within =
        then_holds any (λ u h. or_holds (then_holds any (λ u h. gives_holds W (node.List []) (in_list n (length scope) [] tt)))
        (then_holds (x scope) (λ first here.
        then_holds (further_holds W false (first ∷ []) next_within (here, tt))
        (λ items all. then_holds any (λ u h. gives_holds W (node.List items) (in_list n (length scope) items all))))))

    arguments_within : (c : Call) → Holds W (AreArguments inner scope c)
    arguments_within (call.Unary c) =
        last (node.Unary c) (x scope) (λ a h. rolled n (length scope) (Node-F.Unary c a) _ (node.rolls-Unary c a) h)
    arguments_within (call.Binary c) =
        then_holds (x scope)
        (λ a h. last (node.Binary c a) next_within
        (λ b g. rolled n (length scope) (Node-F.Binary c a b) _ (node.rolls-Binary c a b) (both _ _ h g)))
    arguments_within call.Put =
        then_holds (x scope)
        (λ t f. then_holds next_within
        (λ k g. last (node.Put t k) next_within
        (λ v h. rolled n (length scope) (Node-F.Put t k v) _ (node.rolls-Put t k v) (both _ _ f (both _ _ g h)))))

    let_within : Holds W (IsLet inner scope)
    let_within =
        then_holds any
        (λ u h.
        then_holds any
        (λ name h.
        then_holds any
        (λ u h. then_holds (x scope) (λ e here. then_holds any (λ u h. then_holds (x (scope ++ name ∷ []))
        (λ f there. let more : length (scope ++ name ∷ []) ≡ suc (length scope) =
        omega (arith, length-append scope (name ∷ [])) in
        gives_holds W (node.Let e f)
        (rolled n (length scope) (Node-F.Let e f) _ (node.rolls-Let e f)
        (both _ _ here (rw more at there)))))))))

    if_within : Holds W (IsIf inner scope)
    if_within =
        then_holds any
        (λ u h.
        then_holds (x scope)
        (λ c f. then_holds any (λ u h. then_holds (x scope) (λ e g. then_holds any (λ u h. then_holds (x scope)
        (λ o h. gives_holds W (node.If c e o)
        (rolled n (length scope) (Node-F.If c e o) _ (node.rolls-If c e o) (both _ _ f (both _ _ g h)))))))))

    atom_within : Holds W (IsAtom inner scope listed)
    atom_within = or_holds (then_holds any (λ u h. last (λ e. e) (x scope) (λ e h. h))) (or_holds list_within
        (or_holds
        (then_holds any
        (λ u h.
        then_holds any
        (λ u h. gives_holds W node.EmptyTable
        (rolled n (length scope) Node-F.EmptyTable _ node.rolls-EmptyTable refl))))
        (or_holds (then_holds any (λ c h. then_holds any (λ u h. arguments_within c))) (operand_within scope))))

    whole_within : Holds W (IsWhole inner scope listed)
    whole_within = or_holds let_within (or_holds if_within (ranked_within (length scope) atom_within precedences))

  expr_within : (levels : ℕ) (scope : Names) → Holds (Within n (length scope)) (IsExprIn listed levels scope)
  unfolding IsExprIn
  expr_within zero scope = record { of = λ ts e is. absurd is }
  expr_within (suc levels) scope = whole_within (expr_within levels) scope

pub expr_below : (listed : List Occ) (levels : ℕ) (ts : List GrammarToken) (e : Node) → IsExpr listed levels ts e
    → is_below (length listed) e ≡ true
expr_below listed levels = (expr_within listed levels []).of
