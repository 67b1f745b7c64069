-- The look-aheads with which items, and what follows them, can start.
use Rattle.std.specs.Prelude.{ℕ, ◌≡◌, ◌<◌, ◌⊎◌, ◌↔◌, Bool, true, false, ◌&&◌, ◌||◌, List, [], ◌∷◌, length, Contains}
use Rattle.ag_grammar.specs.declared.grammar.Item.{Item}
use Rattle.ag_grammar.specs.declared.grammar.Production.{Production}
use Rattle.ag_grammar.specs.grammars.AttributeGrammar.{Grammar}
use Rattle.llparse.specs.Ahead.{InFollow}
use Rattle.llparse.specs.table.Edges.{node_in, IsEdge, OfSome}
use Rattle.llparse.specs.table.Nodes.{node_by}
use Rattle.llparse.specs.table.Nullable.{is_nullable_item}
use Rattle.closure.specs.Following.{is_marked}
use Rattle.closure.specs.declared.edges.Edge.{Edge}
use Rattle.llparse.specs.declared.ahead.Ahead.{Ahead}
use Rattle.llparse.specs.declared.table.nodes.Sizes.{Sizes}

-- Whether items can start with a look-ahead: an item has it in FIRST (`in_first`) and all before that item are nullable
-- (`nullable`), or all items are nullable and the look-ahead can come after them (`following`).
abbrev pub can_start_in : (Item → Bool) → (Item → Bool) → Bool → List Item → Bool
can_start_in in_first nullable following [] = following
can_start_in in_first nullable following (x ∷ xs) = in_first x || (nullable x && can_start_in in_first nullable following xs)

-- all items are nullable, for the set of the nullable ones
abbrev pub all_nullable : (Item → Bool) → List Item → Bool
all_nullable nullable xs = can_start_in (λ x. false) nullable true xs

-- y is in the relation R with an item of the list, and the items after that item pass the test c
abbrev pub OfRest : {Y : Type 0} → (List Item → Bool) → (Item → Y → Type 0) → List Item → Y → Type 0
OfRest c R [] y = ⊥
OfRest c R (x ∷ xs) y = ((c xs ≡ true) × R x y) ⊎ OfRest c R xs y

-- an edge goes from a left side to an item of the right side after which all items are nullable; n is the set of nullable symbols
abbrev pub IsFollowEdge : Grammar → (ℕ → Bool) → Production → Edge → Type 0
IsFollowEdge g n q e = OfRest (all_nullable (is_nullable_item n)) (λ x e. IsEdge q.left (node_in g x) e) q.items e

-- t is the node of an item of a right side after which the rest of that side can start with a look-ahead; n is the set of
-- nullable symbols, and b the set of nodes with the look-ahead in FIRST
abbrev pub IsFollowSeed : Grammar → (ℕ → Bool) → (ℕ → Bool) → Production → ℕ → Type 0
IsFollowSeed g n b q t =
    OfRest (can_start_in (λ x. b (node_in g x)) (is_nullable_item n) false) (λ x t. t ≡ node_in g x) q.items t

-- a symbol has a mark exactly if the look-ahead is in FOLLOW of the symbol; nothing is claimed of the marks of other nodes
abbrev pub AreFollowMarks : Grammar → Ahead → List Bool → Type 0
AreFollowMarks g x marks = (s : ℕ) → s < length g.symbols → is_marked marks s ≡ true ↔ InFollow g s x

-- a list has exactly the edges for FOLLOW
abbrev pub AreFollowEdges : Grammar → List Bool → List Edge → Type 0
AreFollowEdges g nullable edges = (e : Edge) → Contains edges e ↔ OfSome (IsFollowEdge g (is_marked nullable)) g.productions e

-- a list has exactly the seeds of all productions
abbrev pub AreFollowSeeds : Grammar → List Bool → List Bool → List ℕ → Type 0
AreFollowSeeds g nullable in_first seeds = (t : ℕ)
    → Contains seeds t ↔ OfSome (IsFollowSeed g (is_marked nullable) (is_marked in_first)) g.productions t

-- `can_start_in` by lists of marks: `in_first` has the marks of the nodes with the look-ahead in FIRST, and `nullable` those of
-- the nullable symbols
abbrev pub can_start_by : Sizes → List Bool → List Bool → Bool → List Item → Bool
can_start_by sizes in_first nullable following xs =
    can_start_in (λ x. is_marked in_first (node_by sizes x)) (is_nullable_item (is_marked nullable)) following xs

-- the same as IsFollowEdge, by the marks of the nullable symbols
abbrev pub IsLastEdge : Sizes → List Bool → ℕ → List Item → Edge → Type 0
IsLastEdge sizes nullable left items e =
    OfRest (all_nullable (is_nullable_item (is_marked nullable))) (λ x e. IsEdge left (node_by sizes x) e) items e

-- the same as IsFollowSeed, by marks
abbrev pub IsSeedNode : Sizes → List Bool → List Bool → List Item → ℕ → Type 0
IsSeedNode sizes in_first nullable items t =
    OfRest (can_start_by sizes in_first nullable false) (λ x t. t ≡ node_by sizes x) items t
