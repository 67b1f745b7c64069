-- Reading a tree file from its end to its header: the records that are still expected, of the items whose trees were not read
-- yet. The letters are those of `Records.antt`. Also, d is a direction, e gives the values of a node's attributes, x is an item
-- or a child, and xs and ys are lists of these. In `IsRecordOf` x is also the text of a token, and in `Expects`, `AreThere` and
-- `Breaks` x is a child with its level. All of this is this project's.
use Rattle.std.specs.Prelude.{ℕ, suc, ◌≡◌, ◌+◌, ◌-◌, ◌<◌, ◌≤◌, ◌⊎◌, Bool, true, false, List, [], ◌∷◌, ◌++◌, All, length, take}
use Rattle.std.specs.Prelude.{drop, Option, Some, None, Result, Ok, Err, refl}
use Rattle.std.proofs.Common.{inl, inr, lit<}
use Rattle.ag_value.specs.declared.value.Value.{Value, Text}
use Rattle.ag_value.specs.Well.{IsWell}
use Rattle.ag_grammar.specs.declared.direction.Direction.{Direction}
use Rattle.ag_grammar.specs.declared.direction.Direction.TheVariants.{LeftToRight, RightToLeft}
use Rattle.ag_grammar.specs.declared.grammar.Item.TheVariants as item
use Rattle.ag_grammar.specs.declared.grammar.Item.{Item}
use Rattle.ag_grammar.specs.declared.grammar.Production.{Production}
use Rattle.ag_grammar.specs.declared.grammar.Terminal.TheVariants.{Literal, Class}
use Rattle.ag_grammar.specs.grammars.AttributeGrammar.{Grammar, stored_items, IsProduction}
use Rattle.ag_grammar.specs.grammars.Passes.{Passes, direction_of, nth, other}
use Rattle.ag_grammar.specs.grammars.Solution.{Valuation, WellAt}
use Rattle.ag_grammar.specs.grammars.Tree.{Tree, IsTreeOf, IsTokenText, IsWithinLimits, depth_of}
use Rattle.treefile.specs.framing.Backward.{ReadsBack}
use Rattle.treefile.specs.records.Listed.{copied_count, copies_count}
use Rattle.treefile.specs.records.OneTree.{IsRecorded}
use Rattle.treefile.specs.records.Orders.{prefix}
use Rattle.treefile.specs.records.Records.{IsFileOfTree, bodies_of, copy_of, node_body, synthesized_passes, token_body}
use Rattle.treefile.specs.records.Records.{values_up_to}
use Rattle.treefile.specs.records.TreeFile.{Version}
use Rattle.treefile.specs.declared.reading.FrameFault.{FrameFault}

-- Some values are the copies in the record of a node with children of these items: `copies_count` well values; none if
-- the version has no copies.
abbrev pub AreCopies : Bool → Grammar → Passes → ℕ → List Item → List Value → Type 0
AreCopies false g m k xs copies = copies ≡ []
AreCopies true g m k xs copies = (length copies ≡ copies_count g m k xs) × All IsWell copies

-- A body is the record of a node of symbol s in the file of pass k. The node is of a production of the symbol, and its values up
-- to the pass are well. In a version with copies, copies of its children's synthesized values follow.
pub record IsNodeRecord (version : Version) (g : Grammar) (m : Passes) (k s : ℕ) (body : List ℕ) (p : ℕ) (q : Production)
    (e : ℕ → Value) : Type 0 where
  pub production : IsProduction g p q
  pub left : q.left ≡ s
  pub well : WellAt (λ n. n ≤ k) (m s) e e
  pub copies : List Value
  pub are_copies : AreCopies version.has_copies g m k (stored_items q.items) copies
  pub occurs : body ≡ node_body version g m k p e copies

-- A child whose record wasn't read yet: the item of its tree, and the copy of its values in its parent's
-- record, if there is one.
abbrev pub Child : Type 0
Child = Item × Option (List Value)

-- The children of a node, each with its part of the copies in the node's record.
abbrev pub children_with_copies : Bool → Grammar → Passes → ℕ → List Item → List Value → List Child
children_with_copies has_copies g m k [] copies = []
children_with_copies false g m k (x ∷ xs) copies = (x, None) ∷ children_with_copies false g m k xs copies
children_with_copies true g m k (x ∷ xs) copies =
    (x, Some (take (copied_count g m k x) copies)) ∷ children_with_copies true g m k xs (drop (copied_count g m k x) copies)

-- some values are those of the copy, if there is one
abbrev pub MatchesCopy : Option (List Value) → List Value → Type 0
MatchesCopy None values = Unit {0}
MatchesCopy (Some copy) values = values ≡ copy

-- A body is a record of a child in the file of pass k, and ys are the children of its node. If the parent's record has a copy
-- of the child's values (the synthesized ones, or the text of a token), the body has the same values. A token has no children,
-- and a literal no record.
abbrev pub IsRecordOf : Version → Grammar → Passes → ℕ → Child → List ℕ → List Child → Type 0
IsRecordOf version g m k (item.Symbol s, copy) body ys =
    (p : ℕ) × (q : Production) × (e : ℕ → Value) × (is : IsNodeRecord version g m k s body p q e)
    × (ys ≡ children_with_copies version.has_copies g m k (stored_items q.items) is.copies)
    × MatchesCopy copy (values_up_to k (synthesized_passes g m s) e)
IsRecordOf version g m k (item.Terminal (Class c), copy) body ys =
    (x : List ℕ) × IsTokenText x × (body ≡ token_body c x) × (ys ≡ []) × MatchesCopy copy (Text x ∷ [])
IsRecordOf version g m k (item.Terminal (Literal l), copy) body ys = ⊥

-- A body is not a record of a child, whatever its own children are.
abbrev pub IsNoRecord : Version → Grammar → Passes → ℕ → Child → List ℕ → Type 0
IsNoRecord version g m k x body = (ys : List Child) → IsRecordOf version g m k x body ys → ⊥

-- Children whose trees are expected, each with the level of its tree. The root's level is 1.
abbrev pub Pending : Type 0
Pending = List (ℕ × Child)

-- Some members of a right side in a direction, each with the level `level`, before others that are expected.
abbrev pub before_others : {X : Type 0} → Direction → ℕ → List X → List (ℕ × X) → List (ℕ × X)
before_others d level [] others = others
before_others LeftToRight level (x ∷ xs) others = (level, x) ∷ before_others LeftToRight level xs others
before_others RightToLeft level (x ∷ xs) others = before_others RightToLeft level xs ((level, x) ∷ others)

-- The members of a right side that a direction visits after it has visited i of them. They are listed from left to right.
abbrev pub remaining_of : {X : Type 0} → Direction → List X → ℕ → List X
remaining_of LeftToRight xs i = drop i xs
remaining_of RightToLeft xs i = take (length xs - i) xs

-- Bodies are the expected ones, record by record. The first body is a record of the first expected child, whose level is at most
-- `deepest`. The other bodies are the expected ones if the children of its node, in the direction d and one level deeper, are
-- expected before the others. So the bodies are the records of trees of the expected children (`AreThere`).
abbrev pub Expects : Version → Grammar → Passes → ℕ → Direction → ℕ → Pending → List (List ℕ) → Type 0
Expects version g m k d deepest [] [] = Unit {0}
Expects version g m k d deepest [] (body ∷ bodies) = ⊥
Expects version g m k d deepest (x ∷ xs) [] = ⊥
Expects version g m k d deepest (x ∷ xs) (body ∷ bodies) =
    (x.0 ≤ deepest)
    × ((ys : List Child) × IsRecordOf version g m k x.1 body ys
    × Expects version g m k d deepest (before_others d (suc x.0) ys xs) bodies)

-- The expected children at the end of a file: the root.
abbrev pub pending_root : Grammar → Pending
pending_root g = (1, (item.Symbol g.start, None)) ∷ []

-- A content was read from its end to the offset `at`, and `count` bodies were read. Whenever the content is the file of pass k
-- of a tree that is within some limits `depth` and `nodes`, the bodies before the offset are those that `todo` expects, no level
-- is greater than `depth`, and `count` and the number of these bodies are together at most `nodes`.
abbrev pub ReadSoFar : Version → Grammar → Passes → ℕ → List ℕ → (at count : ℕ) → Pending → Type 0
ReadSoFar version g m k content at count todo =
    (depth nodes : ℕ) (t : Tree) (v : Valuation) → IsTreeOf g t → IsWithinLimits depth nodes t
    → IsFileOfTree version g m k t v content →
    (bodies : List (List ℕ)) × ReadsBack version content at bodies
    × Expects version g m k (other (direction_of k)) depth todo bodies × (count + length bodies ≤ nodes)

-- A content is the file of pass k of no tree of the grammar.
abbrev pub HasNoTree : Version → Grammar → Passes → ℕ → List ℕ → Type 0
HasNoTree version g m k content = (t : Tree) (v : Valuation) → IsTreeOf g t → IsFileOfTree version g m k t v content → ⊥

-- A content is the file of pass k of no tree of the grammar within a depth and a number of nodes.
abbrev pub HasNoTreeWithin : ℕ → ℕ → Version → Grammar → Passes → ℕ → List ℕ → Type 0
HasNoTreeWithin depth nodes version g m k content = (t : Tree) (v : Valuation) → IsTreeOf g t → IsWithinLimits depth nodes t
    → IsFileOfTree version g m k t v content → ⊥

-- The result of reading before an offset contradicts the expected items: a damaged frame; no body, if an item
-- is expected; a body, if no item is; or a body that is not a record of the first item.
abbrev pub Breaks : Version → Grammar → Passes → ℕ → Pending → Result (Option (List ℕ)) FrameFault → Type 0
Breaks version g m k todo (Err fault) = Unit {0}
Breaks version g m k [] (Ok None) = ⊥
Breaks version g m k (x ∷ xs) (Ok None) = Unit {0}
Breaks version g m k [] (Ok (Some body)) = Unit {0}
Breaks version g m k (x ∷ xs) (Ok (Some body)) = IsNoRecord version g m k x.1 body

-- A tree is expected at a level deeper than the limit, or the number of bodies that were read has reached the
-- limit of nodes.
abbrev pub IsTooLarge : (depth nodes : ℕ) → (level count : ℕ) → Type 0
IsTooLarge depth nodes level count = (depth < level) ⊎ (nodes ≤ count)

-- A list has the records of a tree for each expected child, one tree after the other: each node before its children, and these
-- in a direction. The values of a tree's root are those of the child's copy, if there is one, and no tree has a node below the
-- deepest level. (`Expects` says the same record by record.)
abbrev pub AreThere : Version → Grammar → Passes → ℕ → Direction → ℕ → Pending → List (List ℕ) → Type 0
AreThere version g m k d deepest [] bodies = bodies ≡ []
AreThere version g m k d deepest (x ∷ xs) bodies =
    (t : Tree) × (v : Valuation) × (others : List (List ℕ)) × IsRecorded g m k x.1.0 t v
    × (x.0 + depth_of t ≤ suc deepest) × (bodies ≡ prefix d (bodies_of version g m k t v) ++ others)
    × AreThere version g m k d deepest xs others
    × MatchesCopy x.1.1 (copy_of g m k t v)

-- ---- worked examples

-- from right to left the last of three items comes first, and then the one before it
pub first_from_right : nth RightToLeft 3 0 ≡ 2
first_from_right = refl

pub next_from_right : nth RightToLeft 3 1 ≡ 1
next_from_right = refl

-- two items of level 2 before one of level 1, in each direction
pub before_from_left : before_others LeftToRight 2 (item.Symbol 7 ∷ item.Symbol 8 ∷ []) ((1, item.Symbol 9) ∷ [])
    ≡ (2, item.Symbol 7) ∷ (2, item.Symbol 8) ∷ (1, item.Symbol 9) ∷ []
before_from_left = refl

pub before_from_right : before_others RightToLeft 2 (item.Symbol 7 ∷ item.Symbol 8 ∷ []) ((1, item.Symbol 9) ∷ [])
    ≡ (2, item.Symbol 8) ∷ (2, item.Symbol 7) ∷ (1, item.Symbol 9) ∷ []
before_from_right = refl

-- after one visited item of two, the other one remains
pub unvisited_from_left : remaining_of LeftToRight (item.Symbol 7 ∷ item.Symbol 8 ∷ []) 1 ≡ item.Symbol 8 ∷ []
unvisited_from_left = refl

pub unvisited_from_right : remaining_of RightToLeft (item.Symbol 7 ∷ item.Symbol 8 ∷ []) 1 ≡ item.Symbol 7 ∷ []
unvisited_from_right = refl

-- a frame is left over if nothing is expected, and there is no contradiction if the header ends there
pub left_over : (version : Version) (g : Grammar) (m : Passes) (k : ℕ) (body : List ℕ) → Breaks version g m k [] (Ok (Some body))
left_over version g m k body = tt

pub nothing_over : (version : Version) (g : Grammar) (m : Passes) (k : ℕ) → Breaks version g m k [] (Ok None) → ⊥
nothing_over version g m k over = over

-- a tree of level 4 is too deep for three levels, and a third record is too many for two nodes
pub fourth_level : IsTooLarge 3 9 4 0
fourth_level = inl (lit< tt)

pub third_record : IsTooLarge 3 2 1 2
third_record = inr (lit< tt)
