-- The slots of a node's values, counted from the first value of the node's row. Letters: c is a setting, q a production, x an
-- item, j a place (in `copied_before` a number of items), a an attribute, p the pass of one, ps are passes of attributes, and k
-- is the pass that runs. All definitions are this project's.
use Rattle.std.specs.Prelude.{ℕ, zero, suc, ◌+◌, nat_le, List, [], ◌∷◌, if◌then◌else◌}
use Rattle.ag_grammar.specs.declared.grammar.Item.{Item}
use Rattle.ag_grammar.specs.declared.grammar.Production.{Production}
use Rattle.ag_grammar.specs.grammars.AttributeGrammar.{stored_items}
use Rattle.treefile.specs.records.Listed.{count_up_to}
use Rattle.passcode.specs.Settings.{Setting}
use Rattle.pass_rows.specs.Places.{copied_passes, place_passes}

-- The index of the value of attribute a in a row that has the values of passes up to k: the number of attributes
-- before it that have a value there.
abbrev pub rank : ℕ → List ℕ → ℕ → ℕ
rank k [] a = 0
rank k (p ∷ ps) zero = 0
rank k (p ∷ ps) (suc a) = (if nat_le p k then 1 else 0) + rank k ps a

-- The number of a node's own values in its row: those of attributes of passes up to the one that is written.
abbrev pub own_width : Setting → Production → ℕ
own_width c q = count_up_to c.write (c.passes q.left)

-- The number of copies that the parent's row has of the values at an item.
abbrev pub copied_width : Setting → Item → ℕ
copied_width c x = count_up_to c.write (copied_passes c x)

-- The number of these copies that are known: that the file of the previous pass has.
abbrev pub known_width : Setting → Item → ℕ
known_width c x = count_up_to c.read (copied_passes c x)

-- The number of copies for the first j of some items.
abbrev pub copied_before : Setting → List Item → ℕ → ℕ
copied_before c [] j = 0
copied_before c (x ∷ xs) zero = 0
copied_before c (x ∷ xs) (suc j) = copied_width c x + copied_before c xs j

-- The number of copies for all of some items.
abbrev pub copied_all : Setting → List Item → ℕ
copied_all c [] = 0
copied_all c (x ∷ xs) = copied_width c x + copied_all c xs

-- The number of values in the row of a node.
abbrev pub stored_width : Setting → Production → ℕ
stored_width c q = own_width c q + copied_all c (stored_items q.items)

-- The index at which the values at a place begin in the node's row: the node's own values for the left side, and copies for
-- a child.
abbrev pub copy_start : Setting → Production → ℕ → ℕ
copy_start c q zero = 0
copy_start c q (suc j) = own_width c q + copied_before c (stored_items q.items) j

-- The slot of an argument: among the node's own values for the left side, and among the copies for a child.
abbrev pub argument_slot : Setting → Production → ℕ → ℕ → ℕ
argument_slot c q j a = copy_start c q j + rank c.write (place_passes c q j) a

-- The slot at which the row of the node or child at a place begins: the child's row comes after that of the node, which has
-- `width` values.
abbrev pub row_start : (width place : ℕ) → ℕ
row_start width zero = 0
row_start width (suc j) = width

-- The slot of a target: among the node's own values for the left side, and in the row of the child for a child.
abbrev pub target_slot : Setting → Production → ℕ → ℕ → ℕ
target_slot c q j a = row_start (stored_width c q) j + rank c.write (place_passes c q j) a
