-- The states of a node while a pass runs its list of instructions, and the instructions that may come next in each state.
-- What a rule may use of its own pass, and when, is after Jazayeri and Walter 1975; the rest is this project's.
-- The letters: m has the passes of attributes, q is a production, k a pass, s a state, j a place of q, a an attribute's number,
-- r a rule's number, and o an attribute at a place.
use Rattle.std.specs.Prelude.{ℕ, zero, suc, ◌≡◌, ◌<◌, ◌≤◌, ◌⊎◌, List, [], ◌∷◌, Option, Some, None, length}
use Rattle.ag_grammar.specs.Lists.{Has}
use Rattle.ag_grammar.specs.declared.grammar.Item.{Item}
use Rattle.ag_grammar.specs.declared.grammar.Item.TheVariants as item
use Rattle.ag_grammar.specs.declared.grammar.Production.{Production}
use Rattle.ag_grammar.specs.declared.grammar.Rule.{Rule}
use Rattle.ag_grammar.specs.declared.grammar.Target.{Target}
use Rattle.ag_grammar.specs.grammars.AttributeGrammar.{item_at, stored_items, IsArgument}
use Rattle.ag_grammar.specs.grammars.Passes.{Passes, HasPass, direction_of, nth}
use Rattle.passcode.specs.declared.instr.Instr.{Instr}
use Rattle.passcode.specs.declared.instr.Instr.TheVariants as instr
pub use Rattle.passcode.specs.declared.phase.Phase.{Phase}
pub use Rattle.passcode.specs.declared.phase.Phase.TheVariants.{Between, Got, Gone, Ended}
use Rattle.passcode.specs.Agreement.{IsRuleAt}

-- A state of a node: its phase, the number of its complete children, and the numbers of the rules that were run. A child is
-- complete after its `Put`.
pub record State : Type 0 where
  pub phase : Phase
  pub turn : ℕ
  pub done : List ℕ

-- the number of children that the pass has read (by `Get`) at a node in this phase with t complete children
abbrev pub read_count : Phase → ℕ → ℕ
read_count Between t = t
read_count Got t = suc t
read_count Gone t = suc t
read_count Ended t = t

-- the number of children in which the pass has run (by `Go`) at a node in this phase with t complete children; a token counts
-- after its `Get`, since the pass has nothing to do in it
abbrev pub run_count : Phase → ℕ → ℕ
run_count Between t = t
run_count Got t = t
run_count Gone t = suc t
run_count Ended t = t

-- the number of children of a production's node
abbrev pub arity : Production → ℕ
arity q = length (stored_items q.items)

-- the place, from 1, of the child that pass k visits after t others
abbrev pub place_of : Production → ℕ → ℕ → ℕ
place_of q k t = suc (nth (direction_of k) (arity q) t)

-- the child at place j is one of the first n that pass k visits
abbrev pub IsVisited : Production → ℕ → ℕ → ℕ → Type 0
IsVisited q k n j = (t : ℕ) × (t < n) × (j ≡ place_of q k t)

-- In state s of pass k, an argument at place j that has pass p has got its value. One of three facts holds: p is an earlier pass;
-- the argument is on the left side; or it is at a child in which pass k has run. (`IsAvailable` adds that p is at most k.) An
-- argument on the left side is inherited, since the grammar is normal, so its value was set before the node's list begins.
abbrev pub IsFinal : Production → ℕ → State → ℕ → ℕ → Type 0
IsFinal q k s j p = (p < k) ⊎ ((j ≡ 0) ⊎ IsVisited q k (run_count s.phase s.turn) j)

-- The argument o is available in state s of pass k: it has pass k or an earlier one, and has got its value (`IsFinal`).
abbrev pub IsAvailable : Passes → Production → ℕ → State → Target → Type 0
IsAvailable m q k s o = (p : ℕ) × HasPass m q o p × (p ≤ k) × IsFinal q k s o.place p

-- Rule r may compute attribute a at place j in pass k: it is a rule for this attribute, which has the pass, its arguments are
-- available, and it was not run before.
pub record MayCompute (m : Passes) (q : Production) (k : ℕ) (s : State) (j a r : ℕ) : Type 0 where
  pub rule : Rule
  pub numbered : IsRuleAt q r rule
  pub target : rule.target ≡ record { place = j; attr = a }
  pub passed : HasPass m q rule.target k
  pub available : (o : Target) → IsArgument rule o → IsAvailable m q k s o
  pub fresh : Has s.done r → ⊥

-- each rule of pass k with a target at place j was run
abbrev pub AreDone : Passes → Production → ℕ → State → ℕ → Type 0
AreDone m q k s j = (r : ℕ) (u : Rule) → IsRuleAt q r u → u.target.place ≡ j → HasPass m q u.target k → Has s.done r

-- the node is in this phase, and j is the place of the first child, in the pass's direction, that is not complete
pub record IsTurnOf (q : Production) (k : ℕ) (s : State) (phase : Phase) (j : ℕ) : Type 0 where
  pub phase_is : s.phase ≡ phase
  pub within : s.turn < arity q
  pub place : j ≡ place_of q k s.turn

-- An instruction may come next in a state. At a child: its `Get`, then its `Set`s, its `Go` if all rules of the pass for the
-- child were run, and its `Put`. A `Def` may come anywhere before `End`. `End` may come if all children are complete and all
-- rules of the pass were run. At a `Set` or `Def`, its rule may be run (`MayCompute`).
abbrev pub MayRun : Passes → Production → ℕ → State → Instr → Type 0
MayRun m q k s (instr.Get j) = IsTurnOf q k s Between j
MayRun m q k s (instr.Set j a r) = IsTurnOf q k s Got j × MayCompute m q k s j a r
MayRun m q k s (instr.Go j) = IsTurnOf q k s Got j × AreDone m q k s j
MayRun m q k s (instr.Put j) = IsTurnOf q k s Gone j
MayRun m q k s (instr.Def a r) = (s.phase ≡ Ended → ⊥) × MayCompute m q k s 0 a r
MayRun m q k s instr.End = (s.phase ≡ Between) × (s.turn ≡ arity q) × ((j : ℕ) → AreDone m q k s j)

-- the phase of a node after the `Get` of an item: the pass has nothing to do in a token
abbrev pub after_get : Option Item → Phase
after_get (Some (item.Symbol s)) = Got
after_get (Some (item.Terminal t)) = Gone
after_get None = Gone

-- the state after an instruction
abbrev pub after : Production → State → Instr → State
after q s (instr.Get j) = record s { phase = after_get (item_at q j) }
after q s (instr.Set j a r) = record s { done = r ∷ s.done }
after q s (instr.Go j) = record s { phase = Gone }
after q s (instr.Put j) = record s { phase = Between; turn = suc s.turn }
after q s (instr.Def a r) = record s { done = r ∷ s.done }
after q s instr.End = record s { phase = Ended }

-- the state in which a node begins
abbrev pub start : State
start = record { phase = Between; turn = 0; done = [] }

-- A list of instructions runs from a state of a node to the node's end: each instruction may come next when it is reached, and
-- the last phase is `Ended`.
abbrev pub Runs : Passes → Production → ℕ → State → List Instr → Type 0
Runs m q k s [] = s.phase ≡ Ended
Runs m q k s (x ∷ xs) = MayRun m q k s x × Runs m q k (after q s x) xs

-- the state before an index of a list that runs from a state
abbrev pub state_at : Production → State → List Instr → ℕ → State
state_at q s xs zero = s
state_at q s [] (suc n) = s
state_at q s (x ∷ xs) (suc n) = state_at q (after q s x) xs n
