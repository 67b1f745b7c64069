-- The result of a search for a pass's strikes.
use Rattle.std.specs.Prelude.{ℕ, ◌≡◌, ◌<◌, ◌↔◌, List, [], Option, Some, Bool, true, map, slice_get, length}
use Rattle.ag_grammar.specs.Lists.{Has}
use Rattle.ag_grammar.specs.grammars.Accepted.{IsAccepted}
use Rattle.ag_grammar.specs.grammars.AttributeGrammar.{Grammar}
use Rattle.ag_grammar.specs.declared.direction.Direction.{Direction}
use Rattle.closure.specs.Clauses.{Clauses}
use Rattle.closure.specs.Edges.{clauses_of_edges}
use Rattle.closure.specs.declared.addition.Addition.{Addition}
use Rattle.closure.specs.declared.addition.Reason.{Reason}
use Rattle.closure.specs.declared.addition.Reason.TheVariants as reason
use Rattle.closure.specs.declared.edges.Edge.{Edge}
use Rattle.passassign.specs.declared.dependency.Dependency.{Dependency}
use Rattle.passassign.specs.declared.search.Dependencies.{Dependencies}
use Rattle.passassign.specs.declared.search.Struck.{Struck}
use Rattle.passassign.specs.declared.stuck.Strike.{Strike}
use Rattle.passassign.specs.declared.table.State.{State}
use Rattle.passassign.specs.declared.table.State.TheVariants.{Open}
use Rattle.passassign.specs.Certificate.{AreGood, IsSameOrLater}
use Rattle.passassign.specs.Dependencies.{dependencies_of}
use Rattle.passassign.specs.Making.{IsOpen, AreFinished}
use Rattle.passassign.specs.Tables.{slot_of, state_at, is_marked, table_passes, IsTable}

-- the slot of a strike's attribute
abbrev pub struck_slot : Strike → ℕ
struck_slot x = slot_of x.symbol x.attr

-- the slot of a dependency's target
abbrev pub target_of : Dependency → ℕ
target_of u = struck_slot u.strike

-- A dependency as an edge: if the argument is struck, the target is.
abbrev pub edge_of : Dependency → Edge
edge_of u = record { from = u.argument; to = target_of u }

-- dependencies as edges between `count` slots
abbrev pub edges_of : List Dependency → ℕ → Clauses
edges_of all count = clauses_of_edges (map edge_of all) count

-- The edges in `found` are those of its dependencies, between the `count` slots of a table. The slots of each dependency are
-- among these.
pub record AreReady (found : Dependencies) (count : ℕ) : Type 0 where
  pub edges : found.edges ≡ edges_of found.all.items count
  pub within : (u : Dependency) → Has found.all.items u → (u.argument < count) × (target_of u < count)

-- A dependency bars its target from a pass, whatever else is struck: the argument has no pass yet, and is at
-- the target's own child or at one that is visited later.
abbrev pub IsBarred : Direction → List State → Dependency → Type 0
IsBarred d states u = IsSameOrLater d u.place u.from × (state_at states u.argument ≡ Open)

-- a list has the dependencies that bar their targets from a pass, and no others
abbrev pub AreBarred : Direction → List State → (all barred : List Dependency) → Type 0
AreBarred d states all barred = (u : Dependency) → Has barred u ↔ (Has all u × IsBarred d states u)

-- the dependency by which a target is struck: one of `barred` for a seed, one of `all` for a clause
abbrev pub dependency_by : (all barred : List Dependency) → Reason → Option Dependency
dependency_by all barred (reason.Seed i) = slice_get barred i
dependency_by all barred (reason.Clause p) = slice_get all p

-- the strike at index i of the list xs is that of the dependency that is the reason of an addition
abbrev pub IsStrikeOf : (all barred : List Dependency) → List Strike → ℕ → Addition → Type 0
IsStrikeOf all barred xs i x = (u : Dependency) × (dependency_by all barred x.reason ≡ Some u) × (slice_get xs i ≡ Some u.strike)

-- The strikes of the dependencies that are the reasons of additions, in the order of the additions.
pub record AreStrikesBy (all barred : List Dependency) (added : List Addition) (xs : List Strike) : Type 0 where
  pub len : length xs ≡ length added
  pub exact : (i : ℕ) (x : Addition) → slice_get added i ≡ Some x → IsStrikeOf all barred xs i x

-- the attribute of a slot is struck
abbrev pub IsStruckAt : List Strike → ℕ → Type 0
IsStruckAt xs k = (x : Strike) × Has xs x × (struck_slot x ≡ k)

-- A list of dependencies and a table are those of a grammar, and an attribute with a pass does not depend on
-- one without.
pub record BelongTo (g : Grammar) (all : List Dependency) (states : List State) : Type 0 where
  pub accepted : IsAccepted g
  pub dependencies : all ≡ dependencies_of g.productions
  pub table : IsTable g.symbols states
  pub led : (u : Dependency) → Has all u → state_at states u.argument ≡ Open → state_at states (target_of u) ≡ Open

-- The strikes of a pass and the marks of the struck attributes: the strikes are good, and no other attribute
-- can be struck.
pub record IsSearch (all : List Dependency) (d : Direction) (states : List State) (xs : List Strike)
    (marks : List Bool) : Type 0 where
  pub marked : (k : ℕ) → (is_marked marks k ≡ true) ↔ IsStruckAt xs k
  pub closed : (u : Dependency) → Has all u → is_marked marks u.argument ≡ true → is_marked marks (target_of u) ≡ true
  pub good : (g : Grammar) → BelongTo g all states → AreGood g d (IsOpen g (table_passes states)) [] xs
  pub finished : (g : Grammar) → BelongTo g all states → AreFinished g d (IsOpen g (table_passes states)) xs

-- the result of `search`: such strikes and marks
abbrev pub IsSearched : List Dependency → Direction → List State → Struck → Type 0
IsSearched all d states found = IsSearch all d states found.strikes.items found.marks.items
