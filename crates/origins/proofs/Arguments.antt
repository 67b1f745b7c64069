-- The indices of the values of arguments in the record of a node in the file of the last pass.
use Rattle.origins.proofs.Common
use Common.{◌≡◌, ℕ, zero, suc, ◌+◌, ◌<◌, ◌≤◌, true, List, [], ◌∷◌, ◌++◌, length, get_or, take, map, Option, Some, None, slice_get}
use Common.{refl, ap, ◌∙◌, arith, add_assoc, zero-add, pos, nat_le, le-leb, slice_get_within, Value, Num, Each, Item, Production}
use Common.{Target, Literal, Class, Grammar, HasKind, Inherited, Synthesized, used_kind, item_at, item_kinds, stored_items}
use Common.{symbol_kinds, IsLegal, Passes, IsLastPass, NoRule, SolvesAll, Valuation, at, children, rest, Fits, FitsAll, Forest}
use Common.{Tree, leaf, node, none, more, table_of}
use Common.item
use Rattle.std.proofs.lemmas.List.{get_or-append-add, length-take-le}
use Rattle.ag_grammar.specs.declared.grammar.Symbol.{Symbol}
use Rattle.treefile.specs.records.Records.{copies_of, copy_of, left_synthesized, synthesized_count, synthesized_passes}
use Rattle.treefile.specs.records.Records.{values_up_to}
use Rattle.origins.specs.Rows.{attribute_count, copied, copies_before, count_of_symbol}

-- if each pass is at most k, a record of pass k has the values of all attributes, each at its number
own_value : (k : ℕ) (ps : List ℕ) (e : ℕ → Value) (following : List Value) (a : ℕ) (d : Value) → Each (λ p. p ≤ k) ps
    → a < length ps → get_or (values_up_to k ps e ++ following) a d ≡ e a
own_value k [] e following a d all less = absurd (omega arith)
own_value k (p ∷ ps) e following zero d all less =
    let test : nat_le p k ≡ true = le-leb p k (all 0 p refl) in cc
own_value k (p ∷ ps) e following (suc a) d all less =
    let test : nat_le p k ≡ true = le-leb p k (all 0 p refl) in
    cc (own_value k ps (λ a. e (suc a)) following a d (λ i n h. all (suc i) n h) (omega arith))

own_length : (k : ℕ) (ps : List ℕ) (e : ℕ → Value) → Each (λ p. p ≤ k) ps → length (values_up_to k ps e) ≡ length ps
own_length k [] e all = refl
own_length k (p ∷ ps) e all =
    let test : nat_le p k ≡ true = le-leb p k (all 0 p refl) in cc (own_length k ps (λ a. e (suc a)) (λ i n h. all (suc i) n h))

-- the value at index n + j of a list is the one at index j after its first n values
after : (xs ys : List Value) (n j : ℕ) (d : Value) → length xs ≡ n → get_or (xs ++ ys) (n + j) d ≡ get_or ys j d
after xs ys n j d e = cc (get_or-append-add xs ys j d)

-- what holds of each member of a list holds of each of its first n members
each_of_first : (P : ℕ → Type 0) (n : ℕ) (xs : List ℕ) → Each P xs → Each P (take n xs)
each_of_first P zero xs all i x e = cc
each_of_first P (suc n) [] all i x e = cc
each_of_first P (suc n) (y ∷ xs) all zero x e = all 0 x e
each_of_first P (suc n) (y ∷ xs) all (suc i) x e = each_of_first P n xs (λ j z h. all (suc j) z h) i x e

-- the kinds of a symbol's attributes: the synthesized ones come first
kinds_within : (syn inh : List (List ℕ)) (a : ℕ)
    → slice_get (map (λ n. Synthesized) syn ++ map (λ n. Inherited) inh) a ≡ Some Synthesized → a < length syn
kinds_within [] [] a e = cc
kinds_within [] (n ∷ inh) zero e = cc
kinds_within [] (n ∷ inh) (suc a) e = absurd (let less = kinds_within [] inh a e in omega arith)
kinds_within (n ∷ syn) inh zero e = omega arith
kinds_within (n ∷ syn) inh (suc a) e = let less = kinds_within syn inh a e in omega arith

synthesized_within : (s : Option Symbol) (a : ℕ) → slice_get (symbol_kinds s) a ≡ Some Synthesized → a < synthesized_count s
synthesized_within None a e = cc
synthesized_within (Some s) a e = kinds_within s.syn s.inh a e

kinds_length : (syn inh : List (List ℕ)) → length (map (λ n. Synthesized) syn ++ map (λ n. Inherited) inh) ≡ length (syn ++ inh)
kinds_length [] [] = refl
kinds_length [] (n ∷ inh) = ap suc (kinds_length [] inh)
kinds_length (n ∷ syn) inh = ap suc (kinds_length syn inh)

symbol_length : (s : Option Symbol) → length (symbol_kinds s) ≡ count_of_symbol s
symbol_length None = refl
symbol_length (Some s) = kinds_length s.syn s.inh

synthesized_some : (syn inh : List (List ℕ)) → length syn ≤ length (map (λ n. Synthesized) syn ++ map (λ n. Inherited) inh)
synthesized_some [] inh = omega arith
synthesized_some (n ∷ syn) inh = let less = synthesized_some syn inh in omega arith

synthesized_few : (s : Option Symbol) → synthesized_count s ≤ length (symbol_kinds s)
synthesized_few None = omega arith
synthesized_few (Some s) = synthesized_some s.syn s.inh

-- the values of a node's record
abbrev pub row : Grammar → Passes → ℕ → Production → Forest → Valuation → List Value
row g m k q ts v = values_up_to k (m q.left) (v []) ++ copies_of g m k ts (children v)

module _ (g : Grammar) (m : Passes) (k : ℕ) (legal : IsLegal g m) (last : IsLastPass k m) where
  synthesized_length : (s : ℕ) → length (synthesized_passes g m s) ≡ synthesized_count (slice_get g.symbols s)
  synthesized_length s =
      let few = synthesized_few (slice_get g.symbols s) in
      let whole = legal.whole s in
      length-take-le (synthesized_count (slice_get g.symbols s)) (m s) (omega arith)

  synthesized_last : (s : ℕ) → Each (λ p. p ≤ k) (synthesized_passes g m s)
  synthesized_last s = each_of_first (λ p. p ≤ k) (synthesized_count (slice_get g.symbols s)) (m s) (last s)

  -- the number of values that a record copies from a child is that of `copied`
  copy_length : (x : Item) (t : Tree) (v : Valuation) → Fits g x t → length (copy_of g m k t v) ≡ copied g x
  copy_length (item.Symbol s) (leaf c text) v f = absurd f
  copy_length (item.Terminal (Literal l)) (leaf c text) v f = absurd f
  copy_length (item.Terminal (Class c)) (leaf d text) v f = refl
  copy_length (item.Terminal a) (node p ts) v f = absurd f
  copy_length (item.Symbol s) (node p ts) v f =
      let passes : left_synthesized g m (slice_get g.productions p) ≡ synthesized_passes g m s = cc in
      cc (own_length k (synthesized_passes g m s) (v []) (synthesized_last s), synthesized_length s)

  copy_value : (x : Item) (t : Tree) (v : Valuation) (following : List Value) (a : ℕ) (d : Value) → Fits g x t
      → SolvesAll NoRule g (more t none) (λ i. v) → a < copied g x → get_or (copy_of g m k t v ++ following) a d ≡ v [] a
  copy_value (item.Symbol s) (leaf c text) v following a d f solves less = absurd f
  copy_value (item.Terminal (Literal l)) (leaf c text) v following a d f solves less = absurd f
  copy_value (item.Terminal (Class c)) (leaf e text) v following zero d f solves less = cc
  copy_value (item.Terminal (Class c)) (leaf e text) v following (suc a) d f solves less = absurd (omega arith)
  copy_value (item.Terminal c) (node p ts) v following a d f solves less = absurd f
  copy_value (item.Symbol s) (node p ts) v following a d f solves less =
      let passes : left_synthesized g m (slice_get g.productions p) ≡ synthesized_passes g m s = cc in
      let long = synthesized_length s in
      cc (own_value k (synthesized_passes g m s) (v []) following a d (synthesized_last s) (omega arith))

  copied_value : (xs : List Item) (ts : Forest) (vs : ℕ → Valuation) (j a : ℕ) (x : Item) (d : Value) → FitsAll g xs ts
      → SolvesAll NoRule g ts vs → slice_get xs j ≡ Some x → a < copied g x
      → get_or (copies_of g m k ts vs) (copies_before g xs j + a) d ≡ vs j [] a
  copied_value [] ts vs j a x d f solves e less = cc
  copied_value (y ∷ xs) none vs j a x d f solves e less = absurd f
  copied_value (y ∷ xs) (more t ts) vs zero a x d f solves e less =
      let same : y ≡ x = cc in
      cc (zero-add a, copy_value x t (vs 0) (copies_of g m k ts (rest vs)) a d (rw same at f.0) (solves.0, tt) less)
  copied_value (y ∷ xs) (more t ts) vs (suc j) a x d f solves e less =
      cc (
        add_assoc (copied g y) (copies_before g xs j) a,
        after (copy_of g m k t (vs 0)) (copies_of g m k ts (rest vs)) (copied g y) (copies_before g xs j + a) d
            (copy_length y t (vs 0) f.0),
        copied_value xs ts (rest vs) j a x d f.1 solves.1 e less,
      )

  attribute_length : (s : ℕ) → length (m s) ≡ attribute_count g s
  attribute_length s = legal.whole s ∙ symbol_length (slice_get g.symbols s)

  -- the value of an argument is at its index in the record
  pub argument_value : (q : Production) (ts : Forest) (v : Valuation) (o : Target) → FitsAll g (stored_items q.items) ts
      → SolvesAll NoRule g ts (children v) → HasKind g q o (used_kind o.place)
      → table_of g q (row g m k q ts v) o.place o.attr ≡ at v o.place o.attr
  argument_value q ts v o fits solves kind = go o.place o.attr kind
    where
      go : (j a : ℕ) → slice_get (item_kinds g (item_at q j)) a ≡ Some (used_kind j)
          → table_of g q (row g m k q ts v) j a ≡ at v j a
      go zero a kind =
          let less = slice_get_within (symbol_kinds (slice_get g.symbols q.left)) a Inherited kind in
          let whole = legal.whole q.left in
          cc (
            zero-add a,
            own_value k (m q.left) (v []) (copies_of g m k ts (children v)) a (Num (pos 0)) (last q.left) (omega arith),
          )
      go (suc j) a kind = by_item (slice_get (stored_items q.items) j) refl kind
        where
          found : (x : Item) → slice_get (stored_items q.items) j ≡ Some x → a < copied g x
              → table_of g q (row g m k q ts v) (suc j) a ≡ at v (suc j) a
          found x e less =
              cc (
                add_assoc (attribute_count g q.left) (copies_before g (stored_items q.items) j) a,
                after (values_up_to k (m q.left) (v [])) (copies_of g m k ts (children v)) (attribute_count g q.left)
                    (copies_before g (stored_items q.items) j + a) (Num (pos 0))
                    (own_length k (m q.left) (v []) (last q.left) ∙ attribute_length q.left),
                copied_value (stored_items q.items) ts (children v) j a x (Num (pos 0)) fits solves e less,
              )

          by_item : (x : Option Item) → slice_get (stored_items q.items) j ≡ x → slice_get (item_kinds g x) a ≡ Some Synthesized
              → table_of g q (row g m k q ts v) (suc j) a ≡ at v (suc j) a
          by_item None e of_kind = cc
          by_item (Some (item.Symbol s)) e of_kind =
              found (item.Symbol s) e (synthesized_within (slice_get g.symbols s) a of_kind)
          by_item (Some (item.Terminal (Class c))) e of_kind =
              found (item.Terminal (Class c)) e (slice_get_within (Synthesized ∷ []) a Synthesized of_kind)
          by_item (Some (item.Terminal (Literal l))) e of_kind = cc
