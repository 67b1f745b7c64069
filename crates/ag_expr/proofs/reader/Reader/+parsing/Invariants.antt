use Rattle.ag_expr.proofs.Common
use Common.{List, false, [], ◌≡◌, ℕ, ◌+◌, ◌*◌, length, further_from, is_sign, mark, Operator, Node, Occ, Names, input, Precedence}
use Common.punctuation
use Common.precedence
use Rattle.ag_expr.proofs.language.Parts.{Looping}
use Rattle.ag_expr.specs.language.Reading.{Parser, items_from, is_operator_of, next_from, other_from, ranked_from, atom_from}
use Rattle.ag_expr.specs.language.Reading.{expr_in}
use Rattle.ag_expr.specs.language.Syntax.{closer, takes_one}
use Rattle.ag_expr.proofs.reader.Reader.+parsing.Given as goal

-- The numbers below show that the recursion ends: each function has a smaller number than those that call it. This one is the
-- part that depends on the precedence. An expression one level deeper has 40 less, so differences within a level are below 40.
abbrev above : Precedence → ℕ
above precedence.Comparison = 21
above precedence.Join = 16
above precedence.Sum = 11
above precedence.Product = 6

-- the parser of an operator with the operand after it
abbrev pub operand_from : Precedence → ℕ → List Occ → Names → Parser (Operator × Node)
operand_from k levels all names = other_from k (ranked_from (atom_from (expr_in all levels) names all) (closer k))

abbrev pub decreases-expression : goal.decreases-expression
decreases-expression l = 40 * l.levels

abbrev pub decreases-boxed : goal.decreases-boxed
decreases-boxed l = 40 * l.levels + 1

abbrev pub decreases-argument : goal.decreases-argument
decreases-argument l = 40 * l.levels + 2

abbrev pub decreases-binding : goal.decreases-binding
decreases-binding l = 40 * l.levels + 2

abbrev pub decreases-conditional : goal.decreases-conditional
decreases-conditional l = 40 * l.levels + 2

abbrev pub decreases-chain : goal.decreases-chain
decreases-chain l = 40 * l.levels + 26

abbrev pub decreases-chain_after : goal.decreases-chain_after
decreases-chain_after l = 40 * l.levels + (above l.precedence + 4)

abbrev pub decreases-operand_after : goal.decreases-operand_after
decreases-operand_after l = 40 * l.levels + above l.precedence

abbrev pub decreases-others : goal.decreases-others
decreases-others l = 40 * l.levels + (above l.precedence + 3)

abbrev pub decreases-other : goal.decreases-other
decreases-other l = 40 * l.levels + (above l.precedence + 2)

abbrev pub decreases-operand : goal.decreases-operand
decreases-operand l = 40 * l.levels + (above l.precedence + 1)

abbrev pub decreases-atom : goal.decreases-atom
decreases-atom l = 40 * l.levels + 5

abbrev pub decreases-parenthesized : goal.decreases-parenthesized
decreases-parenthesized l = 40 * l.levels + 1

abbrev pub decreases-list : goal.decreases-list
decreases-list l = 40 * l.levels + 4

abbrev pub decreases-items : goal.decreases-items
decreases-items l = 40 * l.levels + 2

abbrev pub decreases-next : goal.decreases-next
decreases-next l = 40 * l.levels + 1

abbrev pub decreases-call : goal.decreases-call
decreases-call l = 40 * l.levels + 4

abbrev pub invariant-others-loop-precedence : goal.invariant-others-loop-precedence
invariant-others-loop-precedence l = record {
  so_far : Looping (takes_one l.fn.precedence) (is_operator_of l.fn.precedence)
      (operand_from l.fn.precedence l.fn.levels)
      (λ all names. further_from (takes_one l.fn.precedence) (is_operator_of l.fn.precedence)
      (operand_from l.fn.precedence l.fn.levels all names) []) l.fn.self l.self l.others.items;
  same : l.levels ≡ l.fn.levels;
  ranked : l.precedence ≡ l.fn.precedence;
}

abbrev pub decreases-others-loop-precedence : goal.decreases-others-loop-precedence
decreases-others-loop-precedence l = length (input l.self).left

abbrev pub invariant-items-loop-self : goal.invariant-items-loop-self
invariant-items-loop-self l = record {
  so_far : Looping false (is_sign (mark punctuation.Comma)) (λ all. next_from (expr_in all l.fn.levels))
      (λ all names. items_from (expr_in all l.fn.levels) names l.fn.first) l.fn.self l.self l.items.items;
  same : l.levels ≡ l.fn.levels;
}

abbrev pub decreases-items-loop-self : goal.decreases-items-loop-self
decreases-items-loop-self l = length (input l.self).left
