-- The effects of each step of a parser (this project's).
use Rattle.std.specs.Prelude.{◌≡◌, ℕ, ◌+◌, ◌≤◌, Bool, List, ◌∷◌, length, reverse, slice_get, Option, Some, None}
use Rattle.ag_grammar.specs.declared.grammar.Item.{Item}
use Rattle.ag_grammar.specs.grammars.Accepted.{IsAccepted}
use Rattle.ag_grammar.specs.grammars.AttributeGrammar.{Grammar}
use Rattle.ag_grammar.specs.grammars.Tree.{max_depth, max_nodes}
use Rattle.ag_scan.specs.TokenReader.{offset_at}
use Rattle.ag_scan.specs.Tokens.{Token, FitAll}
use Rattle.ag_scan.specs.Words.{vocabulary_of}
use Rattle.llparse.specs.sentence.Parsing.{Task, task_of, Output, AtSymbol, Between, AtItem, IsRefused, steps_left}
use Rattle.llparse.specs.table.Tables.{Choices, FitsGrammar}
use Rattle.llparse.specs.declared.sentence.parse_fault.ParseFault.{ParseFault}
use Rattle.llparse.specs.declared.sentence.parse_fault.ParseFault.TheVariants as fault
use Rattle.llparse.specs.declared.sentence.parser.OpenProduction.{OpenProduction}
use Rattle.llparse.specs.declared.sentence.parser.Parser.{Parser}

-- the output of a parser, if the device has these bytes
abbrev pub output_of : Parser → List ℕ → Output
output_of p bytes = record { bytes = bytes; texts = p.texts.items }

-- a parser is between two steps, with this innermost open node
abbrev pub IsBetween : Task → OpenProduction → Parser → List ℕ → Type 0
IsBetween k node p bytes = Between k (node ∷ reverse p.waiting.items) p.tokens.taken p.count (output_of p bytes)

-- a tree of a symbol comes next in the innermost open node
abbrev pub IsAtSymbol : Task → ℕ → OpenProduction → Parser → List ℕ → Type 0
IsAtSymbol k s node p bytes = AtSymbol k s (node ∷ reverse p.waiting.items) p.tokens.taken p.count (output_of p bytes)

-- the innermost open node has just passed an item, which is parsed next
abbrev pub IsAtItem : Task → Item → OpenProduction → Parser → List ℕ → Type 0
IsAtItem k x node p bytes = AtItem k x (node ∷ reverse p.waiting.items) p.tokens.taken p.count (output_of p bytes)

-- an accepted grammar whose tables are these
abbrev pub FitsTables : Choices → Grammar → Type 0
FitsTables tables g = IsAccepted g × FitsGrammar g tables

-- an accepted grammar to whose vocabulary the tokens belong
abbrev pub FitsTokens : List Token → Grammar → Type 0
FitsTokens tokens g = IsAccepted g × FitAll (vocabulary_of g) tokens

-- For each grammar with property P, and each task of parsing these tokens by this grammar: if A holds before a step, B holds
-- after it, for the same content of the device.
abbrev pub Leads : (Grammar → Type 0) → List Token → (Task → List ℕ → Type 0) → (Task → List ℕ → Type 0) → Type 0
Leads P tokens A B = (g : Grammar) (honest : Bool) (prefix bytes : List ℕ) → P g → A (task_of g tokens honest prefix) bytes
    → B (task_of g tokens honest prefix) bytes

-- what `Leads` states, for a step that changes the device's content from `old` to `new`, and for tasks with this field `honest`
abbrev pub Writes : (Grammar → Type 0) → List Token → Bool → List ℕ → List ℕ → (Task → List ℕ → Type 0) → (Task → List ℕ → Type 0)
    → Type 0
Writes P tokens honest old new A B = (g : Grammar) (prefix : List ℕ) → P g → A (task_of g tokens honest prefix) old
    → B (task_of g tokens honest prefix) new

-- A before a step implies that the fault of the step is justified
abbrev pub Refuses : (Grammar → Type 0) → List Token → (Task → List ℕ → Type 0) → ParseFault → Type 0
Refuses P tokens A e = Leads P tokens A (λ k bytes. IsRefused k (offset_at tokens) e)

-- a parser has reached the limit of a fault
abbrev pub IsFull : Parser → ParseFault → Type 0
IsFull p fault.TooDeep = max_depth ≤ length p.waiting.items + 1
IsFull p fault.TooManyNodes = max_nodes ≤ p.count
IsFull p fault = ⊥

-- a bound of the number of steps that remain (`left` means remaining, not a left side)
abbrev pub left_of : Grammar → OpenProduction → Parser → ℕ
left_of g node p = steps_left g max_nodes (node ∷ reverse p.waiting.items) p.count

-- an open node, moved past its next item
abbrev pub advanced : OpenProduction → OpenProduction
advanced node = record node { passed = node.passed + 1 }

-- An open node with the right side `items` moves from `old` to `new`: past its next item x; or not at all, if it is at its end.
abbrev pub Advances : List Item → OpenProduction → Option Item → OpenProduction → Type 0
Advances items old None new = (slice_get items old.passed ≡ None) × (new ≡ old)
Advances items old (Some x) new = (slice_get items old.passed ≡ Some x) × (new ≡ advanced old)
