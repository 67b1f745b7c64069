-- The remaining instructions of a node, the visited items of a right side, and the values of a node and of
-- its children. Letters: c is a setting, q a production, x an item (in `rest_of` an open node), xs are items, j is a place (in
-- `in_children` and `AgreesSoFar` a child, counted from 0), a an attribute, s a symbol, d a class or a direction, e a table, f
-- the values of a node, k and p are passes, and i and n numbers of elements or of children. In `stored` and `AgreesSoFar` s is a
-- table too. All definitions are this project's.
use Rattle.std.specs.Prelude.{ℕ, suc, ◌≡◌, ◌+◌, ◌-◌, ◌<◌, ◌≤◌, ◌⊎◌, List, [], ◌∷◌, ◌++◌, Some, slice_get, length, take, drop}
use Rattle.std.specs.List.{flat_map}
use Rattle.ag_value.specs.declared.value.Value.{Value}
use Rattle.ag_grammar.specs.declared.direction.Direction.{Direction}
use Rattle.ag_grammar.specs.declared.direction.Direction.TheVariants.{LeftToRight, RightToLeft}
use Rattle.ag_grammar.specs.declared.grammar.Item.{Item}
use Rattle.ag_grammar.specs.declared.grammar.Item.TheVariants as item
use Rattle.ag_grammar.specs.declared.grammar.Production.{Production}
use Rattle.ag_grammar.specs.declared.grammar.Terminal.TheVariants.{Literal, Class}
use Rattle.ag_grammar.specs.grammars.AttributeGrammar.{item_at, stored_items}
use Rattle.ag_grammar.specs.grammars.Passes.{item_passes}
use Rattle.ag_grammar.specs.grammars.Solution.{Valuation}
use Rattle.treefile.specs.records.Records.{synthesized_passes, values_up_to}
use Rattle.passcode.specs.declared.instr.Instr.{Instr}
use Rattle.passcode.specs.Course.{IsVisited}
use Rattle.passcode.specs.Settings.{Setting, list_at}
use Rattle.pass_rows.specs.declared.open_node.OpenNode.{OpenNode}

-- The remaining instructions of a node.
abbrev pub rest_of : Setting → OpenNode → List Instr
rest_of c x = drop x.at (list_at c x.production)

-- The i elements of a list that are visited first in a direction, in the order of the list.
abbrev pub visited {ℓ} : {X : Type ℓ} → Direction → List X → ℕ → List X
visited LeftToRight xs i = take i xs
visited RightToLeft xs i = drop (length xs - i) xs

-- The index of the leftmost of the i elements that are visited first, in a list of n elements.
abbrev pub leftmost : Direction → ℕ → ℕ → ℕ
leftmost LeftToRight n i = 0
leftmost RightToLeft n i = n - i

-- The values at a node, by place and attribute. Place 0 is the node itself, place j + 1 its child j, counted from 0. Some tables
-- have only the values of the children, by child and attribute (`in_children`).
abbrev pub Table : Type 0
Table = ℕ → ℕ → Value

-- The values at the children only, by child (from 0, from left to right) and attribute.
abbrev pub in_children : Table → Table
in_children e j = e (suc j)

-- The passes of the attributes at a place.
abbrev pub place_passes : Setting → Production → ℕ → List ℕ
place_passes c q j = item_passes c.passes (item_at q j)

-- The passes of the values that the parent's row has copies of: of a symbol's synthesized attributes, and of
-- a token's text.
abbrev pub copied_passes : Setting → Item → List ℕ
copied_passes c (item.Symbol s) = synthesized_passes c.grammar c.passes s
copied_passes c (item.Terminal (Class d)) = 0 ∷ []
copied_passes c (item.Terminal (Literal l)) = []

-- The passes of the values in the row of a node: of its own attributes, and of the copies at its items.
abbrev pub row_passes : Setting → Production → List ℕ
row_passes c q = c.passes q.left ++ flat_map (copied_passes c) q.items

-- The copies of the values at some items, of attributes of passes up to k, from left to right. e has the values by item, counted
-- from 0, and attribute.
abbrev pub copies : Setting → ℕ → List Item → Table → List Value
copies c k [] e = []
copies c k (x ∷ xs) e = values_up_to k (copied_passes c x) (e 0) ++ copies c k xs (λ j. e (suc j))

-- The row of a node: its own values f of passes up to the one that is written, and the copies of its children's
-- from the table s.
abbrev pub stored : Setting → Production → (ℕ → Value) → Table → List Value
stored c q f s = values_up_to c.write (c.passes q.left) f ++ copies c c.write (stored_items q.items) (in_children s)

-- The pass has reached a place: it is the left side, or one of the first n visited children.
abbrev pub IsReached : Setting → Production → ℕ → ℕ → Type 0
IsReached c q n j = (j ≡ 0) ⊎ IsVisited q c.write n j

-- The table s, of the copies in a node's row, agrees with the table e, of the values at the children, as far as
-- these were computed: by earlier passes at each child, and by this pass at the first n visited children.
abbrev pub AgreesSoFar : Setting → Production → ℕ → Table → Table → Type 0
AgreesSoFar c q n e s = (j a p : ℕ) (x : Item) → slice_get (stored_items q.items) j ≡ Some x
    → slice_get (copied_passes c x) a ≡ Some p → p ≤ c.write → (p < c.write) ⊎ IsReached c q n (suc j) → s (suc j) a ≡ e (suc j) a

-- The valuations of the trees of the first i visited children (of n) give their roots the values in the table. `ws b` is that of
-- the b-th of these children from the left, counted from 0.
abbrev pub Roots : Direction → ℕ → ℕ → (ℕ → Valuation) → Table → Type 0
Roots d n i ws e = (b a : ℕ) → b < i → ws b [] a ≡ e (suc (leftmost d n i + b)) a

-- The values that are kept after the record of an item was read: the row of a node, and nothing of a token, whose text is among
-- the copies. `old` are the stored values before the record was read, and `new` those after it.
abbrev pub kept_values : Item → (old new : List Value) → List Value
kept_values (item.Symbol s) old new = new
kept_values (item.Terminal t) old new = old
