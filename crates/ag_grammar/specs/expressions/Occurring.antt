-- The occurrences that the tree of an expression contains. All definitions are this project's.
use Rattle.std.specs.Prelude.{ℕ, ◌≡◌, Bool, true, false, ◌||◌, nat_eq, List, [], ◌∷◌}
use Rattle.ag_value.specs.declared.value.Value.{Value}
use Rattle.ag_grammar.specs.declared.syntax.node.Operator.{Operator}
use Rattle.ag_grammar.specs.declared.syntax.node.Node.{Node}
use Rattle.ag_grammar.specs.declared.syntax.node.Node.TheFolds.{fold-Node}
use Rattle.ag_grammar.specs.declared.syntax.node.Node.TheOpen.{Node-F}

-- whether some operand of a chain after the first contains the occurrence; the Bool of each pair says whether its operand does
abbrev pub some_operand : List (Operator × Bool) → Bool
some_operand [] = false
some_operand (x ∷ xs) = x.1 || some_operand xs

-- whether some item of a list contains the occurrence, from whether each does
abbrev pub some_item : List Bool → Bool
some_item [] = false
some_item (x ∷ xs) = x || some_item xs

-- whether a tree contains occurrence k, from whether each of its parts does
abbrev pub has_step : ℕ → Node-F Bool → Bool
has_step k (Node-F.Literal v) = false
has_step k (Node-F.Occurrence j) = nat_eq j k
has_step k (Node-F.Bound j) = false
has_step k (Node-F.Chain first others) = first || some_operand others
has_step k (Node-F.Let e f) = e || f
has_step k (Node-F.If c e f) = c || (e || f)
has_step k (Node-F.Unary call a) = a
has_step k (Node-F.Binary call a b) = a || b
has_step k (Node-F.Put t i v) = t || (i || v)
has_step k (Node-F.List items) = some_item items
has_step k Node-F.EmptyTable = false

-- whether a tree contains the occurrence with number k
abbrev pub has_occurrence : ℕ → Node → Bool
has_occurrence k = fold-Node Bool (has_step k)

-- Two environments agree on a tree: they give the same value to each occurrence that the tree contains.
abbrev pub AgreeOn : Node → (ℕ → Value) → (ℕ → Value) → Type 0
AgreeOn e env other = (k : ℕ) → has_occurrence k e ≡ true → env k ≡ other k
