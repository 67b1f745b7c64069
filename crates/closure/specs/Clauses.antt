-- Clauses over numbers.
use Rattle.std.specs.Prelude.{ℕ, ◌<◌, List, All}
use Rattle.closure.specs.declared.clause.Clause.{Clause}

-- clauses over the numbers below a count
pub record Clauses : Type 0 where
  pub clauses : List Clause
  pub count : ℕ

-- the head of a clause and the numbers of its body are below a count
pub record IsClauseBelow (count : ℕ) (q : Clause) : Type 0 where
  pub head : q.head < count
  pub body : All (λ t. t < count) q.body
