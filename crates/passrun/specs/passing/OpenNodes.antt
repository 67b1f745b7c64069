-- The open nodes that wait, as a path from the root. All definitions are this project's.
use Rattle.std.specs.Prelude.{ℕ, ◌≡◌, List, [], ◌∷◌}
use Rattle.pass_rows.specs.declared.open_node.OpenNode.{OpenNode}

-- The nodes that wait, the outermost first, and the number of the root's production.
pub record RootPath : Type 0 where
  pub root : ℕ
  pub nodes : List OpenNode

-- The nodes are a path from a node of the production with number p: the first node has this production, and each next one has the
-- production of the child that the node before it entered.
abbrev pub IsPath : ℕ → List OpenNode → Type 0
IsPath p [] = Unit {0}
IsPath p (x ∷ xs) = (x.production ≡ p) × IsPath x.child xs

-- The number of the production at the end of such a path: that of the child that the last node entered.
abbrev pub end_of : ℕ → List OpenNode → ℕ
end_of p [] = p
end_of p (x ∷ xs) = end_of x.child xs
