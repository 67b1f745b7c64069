-- The numbers that follow from the clauses of a raw grammar are productive, and those that follow from the
-- edges are reached.
use Rattle.normalform.proofs.Common
use Common.{arith, Bool, true, false, cond, is_some, nat_lt, bytes_eq, Option, ℕ, zero, suc, ◌≡◌, ◌<◌, ◌⊎◌, inl, inr, List, []}
use Common.{◌∷◌, ◌++◌, length, map, flat_map, All, Some, None, slice_get, refl, ap, sym, subst, ◌∙◌, ltb-true, lt-ltb}
use Common.{slice_get_within, list_any, All-nil, All-cons, Has, Item, Production, Symbol, Grammar, RawGrammar, RawItem}
use Common.{RawProduction, IsClauseBelow, clause_of_edge, IsEdgeBelow, Follows, seed, at_mapped, mapped_at, body_of, clause_of}
use Common.{clauses_of, edge, edges_of, reach_edges, number_in, symbol_of, declared_names, item_of, literals_of, placed}
use Common.{production_of, numbered, Named, Check, first_wrong, unknown_in, unknown_checks, place_checks, reference_check}
use Common.{ResolvedProduction, place_of, places_of, resolved_production, is_start, start_checks}
use Common.item
use Common.raw_item
use Common.fault
use Common.rule_check
use Rattle.std.proofs.lemmas.List.Elements.{All-append, All-head, All-tail, All-map, All-contains}
use Rattle.std.proofs.lemmas.List.Elements.{Contains-get_or}
use Rattle.ag_grammar.specs.grammars.Accepted.{IsProductive, AreProductive, by_production, nothing as no_item, a_symbol}
use Rattle.ag_grammar.specs.grammars.Accepted.{a_terminal, IsReached, at_start, within}
use Rattle.closure.specs.declared.clause.Clause.{Clause}
use Rattle.closure.specs.declared.edges.Edge.{Edge}
use Rattle.closure.proofs.Positions.{element_at, position_of_element}
use Rattle.closure.proofs.Reached.{reached_in, step}
use Rattle.closure.proofs.Following.{follows_in, head_follows}
use Rattle.normalform.proofs.numbered.Texts.{found}
use Rattle.normalform.proofs.found.Right.{is_right, both_right, together, has_flat, flat_flat}

abbrev symbols_of : List Item → List ℕ
symbols_of [] = []
symbols_of (item.Symbol s ∷ xs) = s ∷ symbols_of xs
symbols_of (item.Terminal a ∷ xs) = symbols_of xs

-- Induction: P holds of all productive symbols if each left side has P whenever all symbols of its right side have P.
module _ (g : Grammar) (P : ℕ → Type 0)
    (closed : (p : ℕ) (q : Production) → slice_get g.productions p ≡ Some q → All P (symbols_of q.items) → P q.left) where
  mutual
    productive_in : (s : ℕ) → IsProductive g s → P s
    productive_in s (by_production p q e l h) = subst P l (closed p q e (items_in q.items h))

    items_in : (xs : List Item) → AreProductive g xs → All P (symbols_of xs)
    items_in [] no_item = All-nil P
    items_in (item.Symbol s ∷ xs) (a_symbol h k) = All-cons P s (symbols_of xs) (productive_in s h) (items_in xs k)
    items_in (item.Terminal a ∷ xs) (a_terminal k) = items_in xs k

-- Induction: P holds of all reached symbols if the start symbol has P, and if each symbol of a right side has P whenever the left
-- side has P.
symbols_in : (g : Grammar) (P : ℕ → Type 0) → P g.start
    → ((p : ℕ) (q : Production) (s : ℕ) → slice_get g.productions p ≡ Some q → P q.left → Has q.items (item.Symbol s) → P s)
    → (s : ℕ) → IsReached g s → P s
symbols_in g P start step s at_start = start
symbols_in g P start step s (within p q e h has) = step p q s e (symbols_in g P start step q.left h) has

-- the declared symbols of a raw grammar, their names, the clauses of its productions, and the numbered production of each
abbrev pub symbols : RawGrammar → List Symbol
symbols raw = map symbol_of raw.symbols

abbrev pub names : RawGrammar → List (List ℕ)
names raw = declared_names (symbols raw)

abbrev pub clauses : RawGrammar → List Clause
clauses raw = clauses_of (symbols raw) raw.productions

abbrev pub produces : RawGrammar → RawProduction → Production
produces raw q = production_of (symbols raw) (literals_of raw.productions) q

-- the items at the places of a production
abbrev pub places : RawGrammar → RawProduction → List Item
places raw q = placed (symbols raw) q

-- the resolved form of a production
abbrev pub resolves : RawGrammar → RawProduction → ResolvedProduction
resolves raw q = resolved_production (symbols raw) q

-- items are productive if their symbols are
items_productive : (raw : RawGrammar) (lits : List (List ℕ)) (xs : List RawItem)
    → All (IsProductive (numbered raw)) (body_of (names raw) xs)
    → AreProductive (numbered raw) (map (item_of (names raw) lits) xs)
items_productive raw lits [] all = no_item
items_productive raw lits (raw_item.Name name ∷ xs) all =
    a_symbol (All-head (IsProductive (numbered raw)) _ (body_of (names raw) xs) all)
    (items_productive raw lits xs (All-tail (IsProductive (numbered raw)) (number_in (names raw) name.name) _ all))
items_productive raw lits (raw_item.Literal text ∷ xs) all = a_terminal (items_productive raw lits xs all)
items_productive raw lits (raw_item.Class c ∷ xs) all = a_terminal (items_productive raw lits xs all)

pub follows_productive : (raw : RawGrammar) (s : ℕ) → Follows (clauses raw) [] s → IsProductive (numbered raw) s
follows_productive raw =
    follows_in (clauses raw) [] (IsProductive (numbered raw)) (λ t none. absurd (omega (arith, none.1))) (λ p c e all.
    let (q, at, is) = mapped_at (clause_of (symbols raw)) raw.productions p c e in
    by_production p (produces raw q) (at_mapped _ _ p q at) (cc (ap (λ (d : Clause). d.head) is))
    (items_productive raw (literals_of raw.productions) q.items (rw (← is) at all)))

body_symbols : (ns lits : List (List ℕ)) (xs : List RawItem) → symbols_of (map (item_of ns lits) xs) ≡ body_of ns xs
body_symbols ns lits [] = refl
body_symbols ns lits (raw_item.Name name ∷ xs) = cc (body_symbols ns lits xs)
body_symbols ns lits (raw_item.Literal text ∷ xs) = body_symbols ns lits xs
body_symbols ns lits (raw_item.Class c ∷ xs) = body_symbols ns lits xs

pub productive_follows : (raw : RawGrammar) (s : ℕ) → IsProductive (numbered raw) s → Follows (clauses raw) [] s
productive_follows raw = productive_in (numbered raw) (Follows (clauses raw) []) (λ p q e all.
    let (r, at, is) = mapped_at (produces raw) raw.productions p q e in
    let body : All (Follows (clauses raw) []) (body_of (names raw) r.items) =
    rw (← is, body_symbols (names raw) (literals_of raw.productions) r.items) at all in
    rw (← is)
    (head_follows (clauses raw) [] p (clause_of (symbols raw) r)
    (at_mapped (clause_of (symbols raw)) raw.productions p r at) body))

abbrev pub start : RawGrammar → ℕ
start raw = number_in (names raw) raw.start.name

abbrev pub edges : RawGrammar → List Edge
edges raw = reach_edges (clauses raw)

-- a number follows from the start symbol by the edges
abbrev pub FollowsStart : RawGrammar → ℕ → Type 0
FollowsStart raw = Follows (map clause_of_edge (edges raw)) (start raw ∷ [])

-- a symbol on a right side is in the body, and the converse
symbol_body : (ns lits : List (List ℕ)) (xs : List RawItem) (i s : ℕ)
    → slice_get (map (item_of ns lits) xs) i ≡ Some (item.Symbol s) → Has (body_of ns xs) s
symbol_body ns lits [] i s e = absurd (cc)
symbol_body ns lits (raw_item.Name name ∷ xs) zero s e = (zero, cc)
symbol_body ns lits (raw_item.Name name ∷ xs) (suc i) s e = let w = symbol_body ns lits xs i s e in (suc w.0, w.1)
symbol_body ns lits (raw_item.Literal text ∷ xs) zero s e = absurd (cc)
symbol_body ns lits (raw_item.Literal text ∷ xs) (suc i) s e = symbol_body ns lits xs i s e
symbol_body ns lits (raw_item.Class c ∷ xs) zero s e = absurd (cc)
symbol_body ns lits (raw_item.Class c ∷ xs) (suc i) s e = symbol_body ns lits xs i s e

body_symbol : (ns lits : List (List ℕ)) (xs : List RawItem) (i s : ℕ) → slice_get (body_of ns xs) i ≡ Some s
    → Has (map (item_of ns lits) xs) (item.Symbol s)
body_symbol ns lits [] i s e = absurd (cc)
body_symbol ns lits (raw_item.Name name ∷ xs) zero s e = (zero, cc)
body_symbol ns lits (raw_item.Name name ∷ xs) (suc i) s e = let w = body_symbol ns lits xs i s e in (suc w.0, w.1)
body_symbol ns lits (raw_item.Literal text ∷ xs) i s e = let w = body_symbol ns lits xs i s e in (suc w.0, w.1)
body_symbol ns lits (raw_item.Class c ∷ xs) i s e = let w = body_symbol ns lits xs i s e in (suc w.0, w.1)

pub reached_follows : (raw : RawGrammar) (s : ℕ) → IsReached (numbered raw) s → FollowsStart raw s
reached_follows raw =
    symbols_in (numbered raw) (FollowsStart raw) (seed (Contains-get_or (start raw ∷ []) 0 0 (omega arith))) (λ p q s e left has.
    let (r, at, is) = mapped_at (produces raw) raw.productions p q e in
    let here = symbol_body (names raw) (literals_of raw.productions) r.items has.0 s (rw (← is) at has.1) in
    let c = clause_of (symbols raw) r in
    let at_clause = at_mapped (clause_of (symbols raw)) raw.productions p r at in
    let there : Has (flat_map edges_of (clauses raw)) (edge c.head s) =
    has_flat edges_of (clauses raw) p c (edge c.head s) at_clause (here.0, at_mapped (edge c.head) c.body here.0 s here.1) in
    step (edges raw) (start raw ∷ []) (edge c.head s) (element_at (edges raw) there.0 (edge c.head s) there.1)
    (rw (← is) at left))

pub split_has : {X : Type 0} (xs ys : List X) (p : ℕ) (y : X) → slice_get (xs ++ ys) p ≡ Some y → Has xs y ⊎ Has ys y
split_has [] ys p y e = inr (p, e)
split_has (x ∷ xs) ys zero y e = inl (zero, e)
split_has (x ∷ xs) ys (suc p) y e = elim (split_has xs ys p y e) [
  | inl w ↦ inl (suc w.0, w.1)
  | inr w ↦ inr w
]

-- an element of concatenated lists is in one of them
pub flat_has : {X Y : Type 0} (f : X → List Y) (xs : List X) (p : ℕ) (y : Y) → slice_get (flat_map f xs) p ≡ Some y
    → (i : ℕ) × (x : X) × (slice_get xs i ≡ Some x) × Has (f x) y
flat_has f [] p y e = absurd (cc)
flat_has f (x ∷ xs) p y e = elim (split_has (f x) (flat_map f xs) p y e) [
  | inl here ↦ (zero, x, refl, here)
  | inr there ↦ let w = flat_has f xs there.0 y there.1 in (suc w.0, w.1, w.2, w.3)
]

edge_reached : (raw : RawGrammar) (p : ℕ) (e : Edge) → slice_get (edges raw) p ≡ Some e → IsReached (numbered raw) e.from
    → IsReached (numbered raw) e.to
edge_reached raw p e at before =
    let (i, c, at_clause, (k, at_edge)) = flat_has edges_of (clauses raw) p e at in
    let (q, at_production, is_clause) = mapped_at (clause_of (symbols raw)) raw.productions i c at_clause in
    let (s, at_body, is_edge) = mapped_at (edge c.head) c.body k e at_edge in
    let body : slice_get (body_of (names raw) q.items) k ≡ Some s =
    subst (λ (d : Clause). slice_get d.body k ≡ Some s) (sym is_clause) at_body in
    let has = body_symbol (names raw) (literals_of raw.productions) q.items k s body in
    let left : IsReached (numbered raw) c.head = subst (λ (d : Edge). IsReached (numbered raw) d.from) (sym is_edge) before in
    let from : IsReached (numbered raw) (number_in (names raw) q.left.name) =
    subst (λ (d : Clause). IsReached (numbered raw) d.head) (sym is_clause) left in
    subst (λ (d : Edge). IsReached (numbered raw) d.to) is_edge
    (within i (produces raw q) (at_mapped (produces raw) raw.productions i q at_production) from has)

pub follows_reached : (raw : RawGrammar) (s : ℕ) → FollowsStart raw s → IsReached (numbered raw) s
follows_reached raw =
    reached_in (edges raw) (start raw ∷ []) (IsReached (numbered raw))
    (λ t h. All-contains (IsReached (numbered raw)) (start raw ∷ []) t
    (All-cons (IsReached (numbered raw)) (start raw) [] at_start (All-nil _)) h)
    (λ e h. let w = position_of_element (edges raw) e h in edge_reached raw w.0 e w.1)

-- The numbers of known names are those of symbols.
pub known : (texts : List (List ℕ)) (text : List ℕ) → list_any (bytes_eq text) texts ≡ true → number_in texts text < length texts
known texts text h = go (nat_lt (number_in texts text) (length texts)) refl (cc (found (bytes_eq text) texts))
  where
    go : (b : Bool) → nat_lt (number_in texts text) (length texts) ≡ b
        → is_some (cond b (Some (number_in texts text)) None) ≡ true → number_in texts text < length texts
    go true e h = ltb-true _ _ e
    go false e h = absurd (cc)

-- a name with the number of a symbol is known
pub below_known : (texts : List (List ℕ)) (text : List ℕ) → number_in texts text < length texts
    → list_any (bytes_eq text) texts ≡ true
below_known texts text lt = rw (← found (bytes_eq text) texts, lt-ltb _ _ lt)

-- the checks of N1 by the names and items of a raw production
abbrev pub name_check : List Symbol → Named → Check
name_check ss name = (fault.UnknownName name.at, nat_lt (number_in (declared_names ss) name.name) (length ss))

abbrev pub item_checks : List Symbol → RawItem → List Check
item_checks ss x = flat_map (place_checks ss) (place_of (declared_names ss) x)

places_checked : (ss : List Symbol) (q : RawProduction)
    → flat_map (place_checks ss) (places_of ss q) ≡ (name_check ss q.left ∷ []) ++ flat_map (item_checks ss) q.items
places_checked ss q =
    ap (λ (cs : List Check). name_check ss q.left ∷ cs) (flat_flat (place_checks ss) (place_of (declared_names ss)) q.items)

pub name_known : (ss : List Symbol) (name : Named) → first_wrong (name_check ss name ∷ []) ≡ None
    → number_in (declared_names ss) name.name < length ss
name_known ss name h = ltb-true _ _ (is_right (name_check ss name) h)

body_below : (ss : List Symbol) (xs : List RawItem) → first_wrong (flat_map (item_checks ss) xs) ≡ None
    → All (λ t. t < length ss) (body_of (declared_names ss) xs)
body_below ss [] h = All-nil (λ t. t < length ss)
body_below ss (raw_item.Name name ∷ xs) h =
    let w = both_right (name_check ss name ∷ []) (flat_map (item_checks ss) xs) h in
    All-cons (λ t. t < length ss) _ (body_of (declared_names ss) xs) (name_known ss name w.0) (body_below ss xs w.1)
body_below ss (raw_item.Literal text ∷ xs) h = body_below ss xs h
body_below ss (raw_item.Class c ∷ xs) h = body_below ss xs h

-- the parts of a production without an unknown name, and the converse
abbrev AreKnown : List Symbol → RawProduction → Type 0
AreKnown ss q =
    (first_wrong (name_check ss q.left ∷ []) ≡ None) × (first_wrong (flat_map (item_checks ss) q.items) ≡ None)
    × (first_wrong (map (reference_check rule_check.Known) (resolved_production ss q).references) ≡ None)

pub unknown_parts : (ss : List Symbol) (q : RawProduction) → first_wrong (unknown_in ss (resolved_production ss q)) ≡ None
    → AreKnown ss q
unknown_parts ss q h =
    let w = both_right (flat_map (place_checks ss) (places_of ss q)) _ h in
    let v = both_right (name_check ss q.left ∷ []) (flat_map (item_checks ss) q.items) (sym (ap first_wrong (places_checked ss q)) ∙ w.0) in (v.0, v.1, w.1)

pub parts_unknown : (ss : List Symbol) (q : RawProduction) → AreKnown ss q
    → first_wrong (unknown_in ss (resolved_production ss q)) ≡ None
parts_unknown ss q (left, items, rules) =
    together (flat_map (place_checks ss) (places_of ss q)) _
    (ap first_wrong (places_checked ss q) ∙ together (name_check ss q.left ∷ []) (flat_map (item_checks ss) q.items) left items) rules

pub clauses_below : (ss : List Symbol) (qs : List RawProduction)
    → first_wrong (unknown_checks ss (map (resolved_production ss) qs)) ≡ None → All (IsClauseBelow (length ss)) (clauses_of ss qs)
clauses_below ss [] h = All-nil (IsClauseBelow (length ss))
clauses_below ss (q ∷ qs) h =
    let w = both_right (unknown_in ss (resolved_production ss q)) _ h in
    let v = unknown_parts ss q w.0 in
    All-cons (IsClauseBelow (length ss)) (clause_of ss q) (clauses_of ss qs)
    (record { head = name_known ss q.left v.0; body = body_below ss q.items v.1 }) (clauses_below ss qs w.1)

pub edges_below : (n : ℕ) (cs : List Clause) → All (IsClauseBelow n) cs → All (IsEdgeBelow n) (flat_map edges_of cs)
edges_below n [] all = All-nil (IsEdgeBelow n)
edges_below n (c ∷ cs) all =
    let here = All-head (IsClauseBelow n) c cs all in
    All-append (IsEdgeBelow n) (edges_of c) (flat_map edges_of cs)
    (All-map (IsEdgeBelow n) (edge c.head) c.body (λ k d lt. record { from = here.head; to = here.body k d lt }))
    (edges_below n cs (All-tail (IsClauseBelow n) c cs all))

start_there : (ss : List Symbol) (n : ℕ) → is_start (slice_get ss n) ≡ true → n < length ss
start_there ss n h = go (slice_get ss n) refl h
  where
    go : (o : Option Symbol) → slice_get ss n ≡ o → is_start o ≡ true → n < length ss
    go None e h = absurd (cc)
    go (Some s) e h = slice_get_within ss n s e

pub start_below : (ss : List Symbol) (name : Named) → first_wrong (start_checks ss name) ≡ None
    → number_in (declared_names ss) name.name < length ss
start_below ss name h =
    start_there ss (number_in (declared_names ss) name.name)
    (is_right (fault.BadStart, is_start (slice_get ss (number_in (declared_names ss) name.name))) h)
