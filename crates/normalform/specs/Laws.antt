-- Laws about raw grammars and their faults, and a worked example.
use Rattle.std.specs.Prelude.{ℕ, ◌≡◌, ◌↔◌, List, [], ◌∷◌, All}
use Rattle.ag_grammar.specs.declared.grammar.Item.TheVariants as item
use Rattle.ag_grammar.specs.declared.grammar.Terminal.TheVariants.{Literal, Class}
use Rattle.ag_grammar.specs.grammars.Accepted.{IsAccepted}
use Rattle.ag_grammar.specs.declared.raw.Named.{Named}
use Rattle.ag_grammar.specs.declared.raw.RawGrammar.{RawGrammar}
use Rattle.ag_grammar.specs.declared.raw.RawItem.TheVariants as raw_item
use Rattle.ag_grammar.specs.declared.raw.RawProduction.{RawProduction}
use Rattle.ag_grammar.specs.declared.raw.RawSymbol.{RawSymbol}
use Rattle.normalform.specs.declared.fault.NormalFault.{NormalFault}
use Rattle.normalform.specs.faults.AllFaults.{AreFaults}
use Rattle.normalform.specs.faults.Faults.{IsFirstFault, HasNoFault, IsReadable, AreListedIn}
use Rattle.normalform.specs.numbers.Numbers.{numbered}

-- The numbered grammar of a raw grammar is accepted, if the raw one has no fault and is readable, and if each expression of the
-- numbered grammar's rules lists its occurrences and has no unbound name.
abbrev pub AcceptedWithoutFault : Type 0
AcceptedWithoutFault = (raw : RawGrammar) → IsReadable raw → All AreListedIn (numbered raw).productions → HasNoFault raw
    → IsAccepted (numbered raw)

-- A raw grammar has no fault if its numbered grammar is accepted.
abbrev pub NoFaultWhereAccepted : Type 0
NoFaultWhereAccepted = (raw : RawGrammar) → IsAccepted (numbered raw) → HasNoFault raw

-- A raw grammar has at most one first fault.
abbrev pub OneFirstFault : Type 0
OneFirstFault = (raw : RawGrammar) (f h : NormalFault) → IsFirstFault raw f → IsFirstFault raw h → f ≡ h

-- A raw grammar that has no fault has no first fault.
abbrev pub NoFirstFaultWithoutFault : Type 0
NoFirstFaultWithoutFault = (raw : RawGrammar) (f : NormalFault) → IsFirstFault raw f → HasNoFault raw → ⊥

-- A raw grammar has one list of faults.
abbrev pub OneList : Type 0
OneList = (raw : RawGrammar) (xs ys : List NormalFault) → AreFaults raw xs → AreFaults raw ys → xs ≡ ys

-- The head of the list of faults is the first fault.
abbrev pub HeadIsFirst : Type 0
HeadIsFirst = (raw : RawGrammar) (f : NormalFault) (fs : List NormalFault) → AreFaults raw (f ∷ fs) → IsFirstFault raw f

-- The list of faults is empty exactly if the numbered grammar is accepted. The premises are those of `AcceptedWithoutFault`.
abbrev pub NoneIfAccepted : Type 0
NoneIfAccepted = (raw : RawGrammar) → IsReadable raw → All AreListedIn (numbered raw).productions
    → AreFaults raw [] ↔ IsAccepted (numbered raw)

-- The worked example: the production S = "x" NAME "y" "x" S of one symbol S. In the numbered grammar the second "x" has the
-- number of the first, and S the number 0. Texts are lists of ASCII codes: 83 is S, 120 is x, and 121 is y. `named c` is the name
-- of one character c, at offset 0.
abbrev named : ℕ → Named
named c = record { name = c ∷ []; at = 0 }

abbrev worked : RawProduction
worked = record {
  left = named 83;
  items =
      raw_item.Literal (120 ∷ []) ∷ raw_item.Class 0 ∷ raw_item.Literal (121 ∷ []) ∷ raw_item.Literal (120 ∷ []) ∷ raw_item.Name
      (named 83) ∷ [];
  rules = [];
}

abbrev worked_symbol : RawSymbol
worked_symbol = record { name = named 83; syn = []; inh = [] }

abbrev worked_grammar : RawGrammar
worked_grammar = record { start = named 83; symbols = worked_symbol ∷ []; productions = worked ∷ [] }

-- the numbered grammar of the example
abbrev pub WorkedNumbers : Type 0
WorkedNumbers = numbered worked_grammar ≡ record {
  symbols = record { name = 83 ∷ []; syn = []; inh = [] } ∷ [];
  productions = record {
    left = 0;
    items =
        item.Terminal (Literal 0) ∷ item.Terminal (Class 0) ∷ item.Terminal (Literal 1) ∷ item.Terminal (Literal 0)
        ∷ item.Symbol 0 ∷ [];
    rules = [];
  } ∷ [];
  literals = (120 ∷ []) ∷ (121 ∷ []) ∷ [];
  classes = 0 ∷ [];
  start = 0;
}
