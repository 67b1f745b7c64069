-- An open node at its first instruction, and after an instruction. Letters: p is a number, x an open node, and j a place. All
-- definitions are this project's.
use Rattle.std.specs.Prelude.{ℕ, ◌+◌}
use Rattle.pass_rows.specs.declared.open_node.OpenNode.{OpenNode}

-- A node of the production with number p at its first instruction. Its row begins at index `base`.
abbrev pub first_at : (production base : ℕ) → OpenNode
first_at p base = record { production = p; child = 0; place = 0; at = 0; base = base }

-- A node after its next instruction, which enters no child. The number p is that in the record of the child that was read last.
abbrev pub after_step : OpenNode → ℕ → OpenNode
after_step x p = record { production = x.production; child = p; place = x.place; at = x.at + 1; base = x.base }

-- A node after its next instruction, which enters the child at a place.
abbrev pub left_at : OpenNode → ℕ → OpenNode
left_at x j = record { production = x.production; child = x.child; place = j; at = x.at + 1; base = x.base }
