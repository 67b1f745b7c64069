-- The open nodes can be completed to a whole tree, since each symbol of an accepted grammar has a tree.
use Rattle.llparse.proofs.Common
use Common.{◌≡◌, ℕ, ◌<◌, List, [], ◌∷◌, ◌++◌, Contains, length, refl, append_assoc, arith, Contains-append_right}
use Common.{slice_get_within, Item, Production, Literal, Class, IsAccepted, Grammar, stored_items, IsProduction, IsTokenText}
use Common.{Tree, leaf, node, Forest, none, more, Fits, FitsAll, Lexeme, yield_along, yield_of, element_at, joined, Open, open_at}
use Common.{Continues, IsCutAt, IsNext, IsStack, Task, Output, IsTreeAfter, Reading, AtSymbol, OpenProduction}
use Common.item
use Rattle.std.proofs.lemmas.Str.{is_utf8-from_IsUtf8}
use Rattle.ag_grammar.proofs.grammars.Productive.{by_trees}
use Rattle.llparse.proofs.look_ahead.Edges.{contains_here}
use Rattle.llparse.proofs.look_ahead.Firsts.{named_in}

-- a token's text may be empty
no_text : IsTokenText []
no_text = record { utf8 = is_utf8-from_IsUtf8 [] ([], (refl, refl)); short = omega arith }

is_next : (g : Grammar) (os : List Open) (s : ℕ) → IsStack g os s → IsNext g os (item.Symbol s)
is_next g [] s is = cc
is_next g (o ∷ os) s is = is

module _ (g : Grammar) (accepted : IsAccepted g) where
  tree_of : (s : ℕ) → s < length g.symbols → (t : Tree) × Fits g (item.Symbol s) t
  tree_of s lt = (by_trees g s).0 (accepted.productive s lt)

  -- the symbols of a production have trees
  symbol_tree : (p : ℕ) (q : Production) → IsProduction g p q → (before ys : List Item) (s : ℕ)
      → q.items ≡ before ++ item.Symbol s ∷ ys → (t : Tree) × Fits g (item.Symbol s) t
  symbol_tree p q get before ys s e =
      let there : Contains q.items (item.Symbol s) = rw e (Contains-append_right before _ _ (contains_here (item.Symbol s) ys)) in
      tree_of s (named_in g accepted q (item.Symbol s) (element_at g.productions p q get) there)

  -- trees of the remaining items of a right side
  columns_of : (p : ℕ) (q : Production) → IsProduction g p q → (before ys : List Item) → q.items ≡ before ++ ys
      → (fs : Forest) × FitsAll g (stored_items ys) fs
  columns_of p q get before [] e = (none, tt)
  columns_of p q get before (item.Symbol s ∷ ys) e =
      let one = symbol_tree p q get before ys s e in
      let others = columns_of p q get (before ++ item.Symbol s ∷ []) ys (rw append_assoc e) in
      (more one.0 others.0, (one.1, others.1))
  columns_of p q get before (item.Terminal (Class c) ∷ ys) e =
      let others = columns_of p q get (before ++ item.Terminal (Class c) ∷ []) ys (rw append_assoc e) in
      (more (leaf c []) others.0, ((refl, no_text), others.1))
  columns_of p q get before (item.Terminal (Literal l) ∷ ys) e =
      columns_of p q get (before ++ item.Terminal (Literal l) ∷ []) ys (rw append_assoc e)

  -- a whole tree around a child of the open nodes
  pub finish : (os : List Open) (s : ℕ) → IsStack g os s → (c : Tree) → (ws : List Lexeme) × (t : Tree) × Continues g os c ws t
  finish [] s is c = ([], c, (refl, refl))
  finish (o ∷ os) s (q, before, get, items, is) c =
      let fs = columns_of o.production q get (before ++ item.Symbol s ∷ []) o.rest (rw append_assoc items) in
      let outer = finish os q.left is (node o.production (joined o.done (more c fs.0))) in
      (yield_along g o.rest fs.0 ++ outer.0, outer.1, (fs.0, outer.0, fs.1, refl, outer.2))

  -- a tree of the expected symbol
  some_tree : (os : List Open) (s : ℕ) → IsStack g os s → (t : Tree) × Fits g (item.Symbol s) t
  some_tree [] s is =
      rw is (tree_of g.start (slice_get_within g.symbols g.start accepted.start.symbol accepted.start.declared))
  some_tree (o ∷ os) s (q, before, get, items, is) = symbol_tree o.production q get before o.rest s items

module _ (k : Task) (accepted : IsAccepted k.grammar) where
  pub begins_reading : {p base : ℕ} {ys : List Item} {fs : List OpenProduction} {i n : ℕ} {rs : Output}
      → Reading k p base ys fs i n rs → (rest : List Lexeme) × (t : Tree) × IsTreeAfter k i rest t
  begins_reading {p = p} {ys = ys} r =
      let s = r.occurs in
      let own = columns_of k.grammar accepted p s.0 s.2 s.1 ys s.3 in
      let outer = finish k.grammar accepted r.under s.0.left s.4 (node p (joined r.done own.0)) in (
        yield_along k.grammar ys own.0 ++ outer.0,
        outer.1,
        r.sound (yield_along k.grammar ys own.0 ++ outer.0) outer.1 (own.0, outer.0, own.1, refl, outer.2),
      )

  pub begins_symbol : {s : ℕ} {fs : List OpenProduction} {i n : ℕ} {rs : Output} (a : AtSymbol k s fs i n rs)
      → (rest : List Lexeme) × (t : Tree) × IsTreeAfter k i rest t × IsCutAt k.grammar a.under rest t
  begins_symbol {s = s} a =
      let c = some_tree k.grammar accepted a.under s a.occurs in
      let outer = finish k.grammar accepted a.under s a.occurs c.0 in
      let rest = yield_of k.grammar c.0 ++ outer.0 in (
        rest,
        outer.1,
        a.sound rest outer.1 (c.0, outer.0, c.1, refl, outer.2),
        record {
          next = item.Symbol s;
          child = c.0;
          following = outer.0;
          occurs = is_next k.grammar a.under s a.occurs;
          fits = c.1;
          splits = refl;
          continues = outer.2;
        },
      )

  -- the next item is a leaf
  pub begins_leaf : {p base c : ℕ} {ys : List Item} {fs : List OpenProduction} {i n : ℕ} {rs : Output}
      (r : Reading k p base (item.Terminal (Class c) ∷ ys) fs i n rs)
      → (rest : List Lexeme) × (t : Tree) × IsTreeAfter k i rest t × IsCutAt k.grammar (open_at p r.done ys ∷ r.under) rest t
  begins_leaf {p = p} {c = c} {ys = ys} r =
      let s = r.occurs in
      let own = columns_of k.grammar accepted p s.0 s.2 (s.1 ++ item.Terminal (Class c) ∷ []) ys (rw append_assoc s.3) in
      let outer = finish k.grammar accepted r.under s.0.left s.4 (node p (joined r.done (more (leaf c []) own.0))) in
      let following = yield_along k.grammar ys own.0 ++ outer.0 in
      let rest = yield_of k.grammar (leaf c []) ++ following in (
        rest,
        outer.1,
        r.sound rest outer.1 (more (leaf c []) own.0, outer.0, ((refl, no_text), own.1), refl, outer.2),
        record {
          next = item.Terminal (Class c);
          child = leaf c [];
          following = following;
          occurs = s;
          fits = (refl, no_text);
          splits = refl;
          continues = (own.0, outer.0, own.1, refl, outer.2);
        },
      )
