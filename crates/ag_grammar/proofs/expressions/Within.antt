-- The numbers in a tree are in range, a level at a time.
use Rattle.ag_grammar.proofs.Common
use Common.{◌≡◌, ℕ, nat_lt, List, [], ◌∷◌, Bool, true, ◌&&◌, map, refl, ap, sym, ◌∙◌, Value, Operator, Node, roll-Node, Node-F}
use Common.{fold-roll-Node, map-Node, is_within, below_step, all_hold, each_holds}
use Rattle.ag_grammar.specs.declared.syntax.node.Node.TheVariants as node

-- P holds for each member of the list
abbrev pub Each : {A : Type 0} → (A → Type 0) → List A → Type 0
Each P [] = Unit {0}
Each P (x ∷ xs) = P x × Each P xs

-- one level of a tree at a time
pub layer : (n : ℕ) (x : Node-F Node) (bound : ℕ)
    → is_within n (roll-Node x) bound ≡ below_step n (map-Node Node (ℕ → Bool) (is_within n) x) bound
layer n x bound = ap (λ (f : ℕ → Bool). f bound) (fold-roll-Node (ℕ → Bool) (below_step n) x)

abbrev pub Within : ℕ → ℕ → Node → Type 0
Within n bound e = is_within n e bound ≡ true

pub both : (a b : Bool) → a ≡ true → b ≡ true → (a && b) ≡ true
both a b p q = rw (p, q) refl

module _ (n bound : ℕ) where
  pub rolled : (x : Node-F Node) (e : Node) → roll-Node x ≡ e
      → below_step n (map-Node Node (ℕ → Bool) (is_within n) x) bound ≡ true → Within n bound e
  rolled x e is h = ap (λ e. is_within n e bound) (sym is) ∙ layer n x bound ∙ h

  pub in_chain : (first : Node) (others : List (Operator × Node)) → Within n bound first → Each (λ p. Within n bound p.1) others
      → Within n bound (node.Chain first others)
  in_chain first others here all =
      rolled (Node-F.Chain first others) _ (node.rolls-Chain first others) (both _ _ here (operands others all))
    where
      operands : (xs : List (Operator × Node)) → Each (λ p. Within n bound p.1) xs
          → all_hold bound (map (λ p. (p.0, is_within n p.1)) xs) ≡ true
      operands [] all = refl
      operands (x ∷ xs) all = both _ _ all.0 (operands xs all.1)

  pub in_list : (items : List Node) → Each (Within n bound) items → Within n bound (node.List items)
  in_list items all = rolled (Node-F.List items) _ (node.rolls-List items) (each items all)
    where
      each : (xs : List Node) → Each (Within n bound) xs → each_holds bound (map (is_within n) xs) ≡ true
      each [] all = refl
      each (x ∷ xs) all = both _ _ all.0 (each xs all.1)

  pub literal_within : (v : Value) → Within n bound (node.Literal v)
  literal_within v = rolled (Node-F.Literal v) _ (node.rolls-Literal v) refl

  pub occurrence_within : (k : ℕ) → nat_lt k n ≡ true → Within n bound (node.Occurrence k)
  occurrence_within k h = rolled (Node-F.Occurrence k) _ (node.rolls-Occurrence k) h
