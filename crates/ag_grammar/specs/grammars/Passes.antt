-- Passes over a tree, and the attributes that belong to each of them (after Jazayeri and Walter 1975).
use Rattle.std.specs.Prelude.{ℕ, zero, suc, ◌≡◌, ◌-◌, codes, ◌<◌, ◌≤◌, ◌⊎◌, List, [], ◌∷◌, Option, Some, None, slice_get, length}
use Rattle.ag_grammar.specs.Lists.{Each}
pub use Rattle.ag_grammar.specs.declared.direction.Direction.{Direction}
pub use Rattle.ag_grammar.specs.declared.direction.Direction.TheVariants.{LeftToRight, RightToLeft}
use Rattle.ag_grammar.specs.declared.grammar.Item.TheVariants as item
use Rattle.ag_grammar.specs.declared.grammar.Item.{Item}
use Rattle.ag_grammar.specs.declared.grammar.Production.{Production}
use Rattle.ag_grammar.specs.declared.grammar.Rule.{Rule}
use Rattle.ag_grammar.specs.declared.grammar.Target.{Target}
use Rattle.ag_grammar.specs.declared.grammar.Terminal.TheVariants.{Literal, Class}
use Rattle.ag_grammar.specs.grammars.AttributeGrammar.{Grammar, item_at, symbol_kinds, IsRule, IsArgument}

-- An assignment: for each symbol, the passes of its attributes, indexed by their numbers (Jazayeri and Walter
-- 1975).
abbrev pub Passes : Type 0
Passes = ℕ → List ℕ

-- The passes of an item's attributes. The text of a token is known before pass 1, so it has pass 0 (this
-- project's).
abbrev pub item_passes : Passes → Option Item → List ℕ
item_passes m None = []
item_passes m (Some (item.Symbol s)) = m s
item_passes m (Some (item.Terminal (Class c))) = 0 ∷ []
item_passes m (Some (item.Terminal (Literal l))) = []

-- the attribute at a place exists and belongs to pass k
abbrev pub HasPass : Passes → Production → Target → ℕ → Type 0
HasPass m q o k = slice_get (item_passes m (item_at q o.place)) o.attr ≡ Some k

-- the other direction
abbrev pub other : Direction → Direction
other LeftToRight = RightToLeft
other RightToLeft = LeftToRight

-- The direction of a pass: right to left for odd numbers, left to right for even ones, 0 included (this
-- project's choice).
abbrev pub direction_of : ℕ → Direction
direction_of zero = LeftToRight
direction_of (suc k) = other (direction_of k)

-- A pass in this direction visits place i of the right side before place j (Jazayeri and Walter 1975).
abbrev pub IsBefore : Direction → ℕ → ℕ → Type 0
IsBefore LeftToRight i j = i < j
IsBefore RightToLeft i j = j < i

-- the index from 0 of the child, of n children, that is visited after i others in this direction, for i below n
abbrev pub nth : Direction → ℕ → ℕ → ℕ
nth LeftToRight n i = i
nth RightToLeft n i = n - suc i

-- the name of a direction in listings (this project's)
abbrev pub direction_name : Direction → List ℕ
direction_name LeftToRight = codes "left-to-right"
direction_name RightToLeft = codes "right-to-left"

-- Whether a rule whose target has pass k and is at place j may use an attribute of pass p at place i. A target on the left side
-- (j = 0) is needed only at the end of the node, so p is at most k. A target at a child is needed before the pass enters this
-- child: p is at most k at the left side and at children visited before, and below k at this child and at those visited later.
-- (After Jazayeri and Walter 1975. That attributes of children visited later may be used is this project's: the record of a node
-- has copies of those that earlier passes computed.)
abbrev pub MayUse : (k j i p : ℕ) → Type 0
MayUse k zero i p = p ≤ k
MayUse k (suc j) i p = ((i ≡ 0) × (p ≤ k)) ⊎ (IsBefore (direction_of k) i (suc j) × (p ≤ k)) ⊎ (p < k)

-- If the target of a rule of the production has a pass, each argument of the rule has one too, and `MayUse` allows its use. The
-- relation P assigns passes to attributes at places. If P assigns no pass to some attributes, those with a pass depend only on
-- attributes with a pass.
abbrev pub IsLegalFor : (Production → Target → ℕ → Type 0) → Production → Type 0
IsLegalFor P q = (r : Rule) (o : Target) (k : ℕ) → IsRule q r → IsArgument r o → P q r.target k
    → (p : ℕ) × P q o p × MayUse k r.target.place o.place p

-- A legal assignment: each attribute of each symbol has one pass, at least 1, and the rules use only what
-- they may use (after Jazayeri and Walter 1975).
pub record IsLegal (g : Grammar) (m : Passes) : Type 0 where
  pub whole : (s : ℕ) → length (m s) ≡ length (symbol_kinds (slice_get g.symbols s))
  pub positive : (s : ℕ) → Each (λ k. 1 ≤ k) (m s)
  pub allowed : Each (IsLegalFor (HasPass m)) g.productions
