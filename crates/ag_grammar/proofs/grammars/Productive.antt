-- A symbol is productive if and only if it has a tree.
use Rattle.ag_grammar.proofs.Common
use Common.{ℕ, suc, ◌≡◌, ◌↔◌, List, [], ◌∷◌, Some, refl, arith, Item, Literal, Class, Grammar, stored_items, Tree, Forest, leaf}
use Common.{node, none, more, Fits, FitsAll}
use Common.item
use Rattle.std.proofs.lemmas.Str.{is_utf8-from_IsUtf8}
use Rattle.ag_grammar.specs.declared.grammar.Terminal.{Terminal}
use Rattle.ag_grammar.specs.grammars.Accepted.{IsProductive, AreProductive, by_production, nothing, a_symbol, a_terminal}
use Rattle.ag_grammar.proofs.grammars.Children.{child, tree_ind}

-- trees of a terminal and of the items after it; the tree of a token class is a leaf with the empty text
with_terminal : (g : Grammar) (a : Terminal) (xs : List Item) → (ts : Forest) × FitsAll g (stored_items xs) ts
    → (ts : Forest) × FitsAll g (stored_items (item.Terminal a ∷ xs)) ts
with_terminal g (Literal l) xs f = f
with_terminal g (Class c) xs f =
    (more (leaf c []) f.0, ((refl, record { utf8 = is_utf8-from_IsUtf8 [] ([], (refl, refl)); short = omega arith }), f.1))

mutual
  tree_of : (g : Grammar) (s : ℕ) → IsProductive g s → (t : Tree) × Fits g (item.Symbol s) t
  tree_of g s (by_production p q e l h) = let f = trees_of g q.items h in (node p f.0, (q, e, l, f.1))

  trees_of : (g : Grammar) (xs : List Item) → AreProductive g xs → (ts : Forest) × FitsAll g (stored_items xs) ts
  trees_of g [] nothing = (none, tt)
  trees_of g (item.Symbol s ∷ xs) (a_symbol h k) = let t = tree_of g s h in let f = trees_of g xs k in (more t.0 f.0, (t.1, f.1))
  trees_of g (item.Terminal a ∷ xs) (a_terminal k) = with_terminal g a xs (trees_of g xs k)

abbrev Derives : Grammar → Tree → Type 0
Derives g t = (s : ℕ) → Fits g (item.Symbol s) t → IsProductive g s

along : (g : Grammar) (xs : List Item) (ts : Forest) → ((i : ℕ) (t : Tree) → child ts i ≡ Some t → Derives g t)
    → FitsAll g (stored_items xs) ts → AreProductive g xs
along g [] ts h f = nothing
along g (item.Symbol s ∷ xs) none h f = elim f [ ]
along g (item.Symbol s ∷ xs) (more t ts) h f = a_symbol (h 0 t refl s f.0) (along g xs ts (λ i u e. h (suc i) u e) f.1)
along g (item.Terminal (Literal l) ∷ xs) ts h f = a_terminal (along g xs ts h f)
along g (item.Terminal (Class c) ∷ xs) none h f = elim f [ ]
along g (item.Terminal (Class c) ∷ xs) (more t ts) h f = a_terminal (along g xs ts (λ i u e. h (suc i) u e) f.1)

derives : (g : Grammar) (t : Tree) → Derives g t
derives g t =
    tree_ind (Derives g) (λ c x s f. elim f [ ]) (λ p ts ih s f. by_production p f.0 f.1 f.2 (along g f.0.items ts ih f.3)) t

pub by_trees : (g : Grammar) (s : ℕ) → IsProductive g s ↔ ((t : Tree) × Fits g (item.Symbol s) t)
by_trees g s = (tree_of g s, λ t. derives g t.0 s t.1)
