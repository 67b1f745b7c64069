-- All faults of a raw grammar (this project's). A fault is left out where it only follows from another one. So N4 and N5 are
-- looked for only in a grammar without N1 to N3, and N6 only in one without N2: of two attributes of one name only the first has
-- a number, so the second would seem to lack its rule. N4 and N5 are checked by marks, one for each symbol, which say whether it
-- is productive, or reached. In this file `ss` are symbols, `n` is the number of one, and `marks` has a mark for each number.
use Rattle.std.specs.Prelude.{ℕ, ◌≡◌, ◌<◌, ◌↔◌, Bool, true, cond, List, [], ◌∷◌, ◌++◌, length, map, Option, slice_get}
use Rattle.ag_grammar.specs.declared.raw.Named.{Named}
use Rattle.ag_grammar.specs.declared.raw.RawGrammar.{RawGrammar}
use Rattle.ag_grammar.specs.declared.raw.RawSymbol.{RawSymbol}
use Rattle.ag_grammar.specs.grammars.Accepted.{IsProductive, IsReached}
use Rattle.closure.specs.Following.{is_marked}
use Rattle.normalform.specs.declared.fault.NormalFault.{NormalFault}
use Rattle.normalform.specs.declared.fault.NormalFault.TheVariants as fault
use Rattle.normalform.specs.declared.faults.structure.SymbolCheck.{SymbolCheck}
use Rattle.normalform.specs.declared.faults.structure.SymbolCheck.TheVariants as symbol_check
use Rattle.normalform.specs.faults.FaultList.{Found, wrong, is_empty, after_checks}
use Rattle.normalform.specs.faults.Faults.{Check, checks_along, next_index, naming_checks, doubled_checks, missing_checks}
use Rattle.normalform.specs.faults.Faults.{later_kinds, limit_checks}
use Rattle.normalform.specs.faults.Resolved.{resolved_productions}
use Rattle.normalform.specs.numbers.Numbers.{numbered, symbol_of}

-- the fault N4 or N5 of the symbol with this name
abbrev pub fault_of : SymbolCheck → Named → NormalFault
fault_of symbol_check.Productive name = fault.Unproductive name
fault_of symbol_check.Reached name = fault.Unreachable name

-- N4, N5. The check of a symbol: it is marked.
abbrev pub marked_check : SymbolCheck → List Bool → ℕ → RawSymbol → List Check
marked_check x marks n s = (fault_of x s.name, is_marked marks n) ∷ []

-- all checks of N4, or of N5
abbrev pub marked_checks : SymbolCheck → List Bool → List RawSymbol → List Check
marked_checks x marks ss = checks_along (marked_check x marks) next_index 0 ss

-- the checks of N4 and N5
abbrev pub structure_checks : List Bool → List Bool → List RawSymbol → List Check
structure_checks productive reached ss =
    marked_checks symbol_check.Productive productive ss ++ marked_checks symbol_check.Reached reached ss

-- some checks, which are made only if no fault was found
abbrev pub if_none : List NormalFault → List Check → List Check
if_none faults checks = cond (is_empty faults) checks []

-- the checks of N6 to N10
abbrev pub checks_of_rules : RawGrammar → List Check
checks_of_rules raw = let ss = map symbol_of raw.symbols in let qs = resolved_productions raw in
    if_none (wrong (doubled_checks raw.symbols)) (missing_checks ss qs) ++ (later_kinds qs ++ limit_checks raw)

-- all checks of a raw grammar, in their order
abbrev pub all_checks : List Bool → List Bool → RawGrammar → List Check
all_checks productive reached raw =
    naming_checks raw ++ (if_none (wrong (naming_checks raw)) (structure_checks productive reached raw.symbols)
    ++ checks_of_rules raw)

-- the marks say which symbols have the property P
abbrev pub AreMarksOf : (ℕ → Type 0) → RawGrammar → List Bool → Type 0
AreMarksOf P raw marks = (s : ℕ) → s < length raw.symbols → is_marked marks s ≡ true ↔ P s

-- These are the checks of a raw grammar. If names are wrong, no symbol is checked by its mark.
pub record AreChecks (raw : RawGrammar) (checks : List Check) : Type 0 where
  pub productive : List Bool
  pub reached : List Bool
  pub marks_productive : wrong (naming_checks raw) ≡ [] → AreMarksOf (IsProductive (numbered raw)) raw productive
  pub marks_reached : wrong (naming_checks raw) ≡ [] → AreMarksOf (IsReached (numbered raw)) raw reached
  pub list : checks ≡ all_checks productive reached raw

-- These are the faults of a raw grammar: exactly the checks that fail, in their order.
abbrev pub AreFaults : RawGrammar → List NormalFault → Type 0
AreFaults raw faults = (checks : List Check) × AreChecks raw checks × (faults ≡ wrong checks)

-- The checks of N4 and N5 of a raw grammar are made, by marks that say which symbols are productive and reached. If names are
-- wrong, none is made.
pub record AreMarked (raw : RawGrammar) (old : Found) (new : Found) : Type 0 where
  pub productive : List Bool
  pub reached : List Bool
  pub marks_productive : wrong (naming_checks raw) ≡ [] → AreMarksOf (IsProductive (numbered raw)) raw productive
  pub marks_reached : wrong (naming_checks raw) ≡ [] → AreMarksOf (IsReached (numbered raw)) raw reached
  pub list : new
      ≡ after_checks old (if_none (wrong (naming_checks raw)) (structure_checks productive reached raw.symbols))

-- nothing is found yet
abbrev pub nothing : Bool → Found
nothing only_first = record { only_first = only_first; items = [] }

-- a search has made all checks of a raw grammar
abbrev pub IsSearched : RawGrammar → Bool → Found → Type 0
IsSearched raw only_first found =
    (checks : List Check) × AreChecks raw checks × (found ≡ after_checks (nothing only_first) checks)

-- the first one of the faults, if there is one
abbrev pub IsHead : RawGrammar → Option NormalFault → Type 0
IsHead raw o = (faults : List NormalFault) × AreFaults raw faults × (o ≡ slice_get faults 0)
