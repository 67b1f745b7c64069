-- The invariants between two passes.
use Rattle.std.specs.Prelude.{ℕ, ◌≡◌, ◌<◌, List, count_by}
use Rattle.ag_grammar.specs.declared.grammar.Production.{Production}
use Rattle.ag_grammar.specs.declared.grammar.Symbol.{Symbol}
use Rattle.ag_grammar.specs.grammars.Accepted.{IsAccepted}
use Rattle.ag_grammar.specs.grammars.AttributeGrammar.{Grammar}
use Rattle.ag_grammar.specs.grammars.Passes.{direction_of}
use Rattle.passassign.specs.declared.assigning.PassesSoFar.{PassesSoFar}
use Rattle.passassign.specs.declared.dependency.Dependency.{Dependency}
use Rattle.passassign.specs.declared.stuck.Strike.{Strike}
use Rattle.passassign.specs.declared.table.State.{State}
use Rattle.passassign.specs.declared.table.State.TheVariants.{Open}
use Rattle.passassign.specs.Making.{IsMade, IsPass}
use Rattle.passassign.specs.Searching.{BelongTo}
use Rattle.passassign.specs.Tables.{state_at, is_open, table_passes}

-- an accepted grammar with these symbols and productions
pub record IsAcceptedWith (symbols : List Symbol) (productions : List Production) (g : Grammar) : Type 0 where
  pub accepted : IsAccepted g
  pub symbols_are : g.symbols ≡ symbols
  pub productions_are : g.productions ≡ productions

-- The state between two passes belongs to a grammar: its table is the partial assignment that the passes before the next one
-- make, and the direction is that of the next pass. `all` has the dependencies of the grammar.
pub record IsProgress (g : Grammar) (all : List Dependency) (p : PassesSoFar) : Type 0 where
  pub of : BelongTo g all p.states.items
  pub made : IsMade g p.next (table_passes p.states.items)
  pub turned : p.direction ≡ direction_of p.next

-- the number of attributes without a pass
abbrev pub open_count : List State → ℕ
open_count states = count_by is_open states

-- The pass after the state `old` was made, with these strikes, and `new` is the state after it.
pub record IsNext (g : Grammar) (all : List Dependency) (old new : PassesSoFar) (strikes : List Strike) : Type 0 where
  pub progress : IsProgress g all new
  pub pass : IsPass g old.next (table_passes old.states.items) (table_passes new.states.items) strikes

-- no slot becomes open from the table `old` to the table `new`
abbrev pub KeepPasses : List State → List State → Type 0
KeepPasses new old = (k : ℕ) → state_at new k ≡ Open → state_at old k ≡ Open

-- `after` is the number of attributes without a pass in this state, and is less than `before`.
pub record IsFewerOpen (before after : ℕ) (p : PassesSoFar) : Type 0 where
  pub count : after ≡ open_count p.states.items
  pub less : after < before
