-- The clauses by which symbols are productive, and the edges by which they are reached. `ss` are the declared symbols, `names`
-- their names, and `q` is a production (in `edges_of`, the clause of one).
use Rattle.std.specs.Prelude.{ℕ, map, flat_map, List, [], ◌∷◌}
use Rattle.ag_grammar.specs.declared.grammar.Symbol.{Symbol}
use Rattle.ag_grammar.specs.declared.raw.RawItem.{RawItem}
use Rattle.ag_grammar.specs.declared.raw.RawItem.TheVariants as raw_item
use Rattle.ag_grammar.specs.declared.raw.RawProduction.{RawProduction}
use Rattle.normalform.specs.numbers.Numbers.{number_in, declared_names}
use Rattle.closure.specs.declared.clause.Clause.{Clause}
use Rattle.closure.specs.declared.edges.Edge.{Edge}

-- the numbers of the symbols on a right side
abbrev pub body_of : List (List ℕ) → List RawItem → List ℕ
body_of names [] = []
body_of names (raw_item.Name name ∷ xs) = number_in names name.name ∷ body_of names xs
body_of names (raw_item.Literal text ∷ xs) = body_of names xs
body_of names (raw_item.Class c ∷ xs) = body_of names xs

-- the clause of a production: its left side is productive if each symbol of the right side is
abbrev pub clause_of : List Symbol → RawProduction → Clause
clause_of ss q = record { head = number_in (declared_names ss) q.left.name; body = body_of (declared_names ss) q.items }

-- the clauses of productions
abbrev pub clauses_of : List Symbol → List RawProduction → List Clause
clauses_of ss qs = map (clause_of ss) qs

-- the edge from a left side to the symbol t of its right side: t is reached if the left side is
abbrev pub edge : ℕ → ℕ → Edge
edge left t = record { from = left; to = t }

-- the edges from the head of a clause to each number of its body
abbrev pub edges_of : Clause → List Edge
edges_of q = map (edge q.head) q.body

-- the edges of all clauses
abbrev pub reach_edges : List Clause → List Edge
reach_edges clauses = flat_map edges_of clauses
