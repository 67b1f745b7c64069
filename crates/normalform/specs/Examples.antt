-- Small raw grammars, and the first failing check of each, only among N1 to N3 or only among N6 to N10. N4 and N5 are not
-- checked. A name of one character is written as its ASCII code: 83 is S, 65 is A, 84 is T, and 105 is i. Unless an example
-- says otherwise, the symbols are S, at offset 16, with the synthesized attribute `out`, and A, at offset 34, with the inherited
-- attribute i.
use Rattle.std.specs.Prelude.{ℕ, ◌≡◌, Option, Some, None, List, [], ◌∷◌}
use Rattle.ag_grammar.specs.declared.syntax.node.Node.{Node}
use Rattle.ag_grammar.specs.declared.syntax.occurrence.Occ.{Occ}
use Rattle.ag_grammar.specs.grammars.Accepted.{out_name}
use Rattle.ag_grammar.specs.declared.raw.Named.{Named}
use Rattle.ag_grammar.specs.declared.raw.RawGrammar.{RawGrammar}
use Rattle.ag_grammar.specs.declared.raw.RawItem.{RawItem}
use Rattle.ag_grammar.specs.declared.raw.RawItem.TheVariants as raw_item
use Rattle.ag_grammar.specs.declared.raw.RawRule.{RawRule}
use Rattle.ag_grammar.specs.declared.raw.RawSymbol.{RawSymbol}
use Rattle.normalform.specs.declared.fault.NormalFault.{NormalFault}
use Rattle.normalform.specs.declared.fault.NormalFault.TheVariants as fault
use Rattle.normalform.specs.faults.Faults.{first_wrong, naming_checks, further_checks}

-- the name of one character c, at the offset `at`
abbrev name_at : ℕ → ℕ → Named
name_at c at = record { name = c ∷ []; at = at }

abbrev first_symbol : RawSymbol
first_symbol = record { name = name_at 83 16; syn = record { name = out_name; at = 22 } ∷ []; inh = [] }

abbrev second_symbol : RawSymbol
second_symbol = record { name = name_at 65 34; syn = []; inh = name_at 105 40 ∷ [] }

abbrev the_symbols : List RawSymbol
the_symbols = first_symbol ∷ second_symbol ∷ []

-- no productions, and these symbols; `start` is the one character of the start symbol's name, which is at offset 6
abbrev with_symbols : ℕ → List RawSymbol → RawGrammar
with_symbols start symbols = record { start = name_at start 6; symbols = symbols; productions = [] }

-- One production, whose left side is the symbol with the one character `left`, at offset 46. The start symbol is S, at offset 6.
abbrev with_production : ℕ → List RawItem → List RawRule → RawGrammar
with_production left items rules = record {
  start = name_at 83 6;
  symbols = the_symbols;
  productions = record { left = name_at left 46; items = items; rules = rules } ∷ [];
}

-- the occurrence of the attribute named `attr` at the left side, at the offset `at`
abbrev here : List ℕ → ℕ → Occ
here attr at = record { place = 0; attr = attr; at = at }

-- a rule for the attribute named `attr` of the left side, at the offset `at`; its expression is the tree e with `occurrences`
abbrev rule_at : Node → List ℕ → ℕ → List Occ → RawRule
rule_at e attr at occurrences =
    record { target = here attr at; expr = record { tree = e; occurrences = occurrences } }

-- The first fault of N1 to N3 (names and the start symbol), and below it that of N6 to N10 (rules and limits).
abbrev names_fault : RawGrammar → Option NormalFault
names_fault raw = first_wrong (naming_checks raw)

abbrev rules_fault : RawGrammar → Option NormalFault
rules_fault raw = first_wrong (further_checks raw)

-- N1: S = T {}, where no T is declared. N2: S is declared again. N3: the start symbol is A, which has an
-- inherited attribute and no `out`.
abbrev pub WorkedNames : Type 0
WorkedNames = (names_fault (with_production 83 (raw_item.Name (name_at 84 50) ∷ []) []) ≡ Some (fault.UnknownName 50))
    × (names_fault (with_symbols 83 (first_symbol ∷ record { name = name_at 83 34; syn = []; inh = [] } ∷ [])) ≡ Some
    (fault.DoubledName 34))
    × (names_fault (with_symbols 65 the_symbols) ≡ Some fault.BadStart)

-- N6: S = {}. N7: S = { $0.out = e; $0.out = e; }. N8: A = { $0.i = e; }. N9: S = { $0.out = e; }, where
-- the occurrence `$0.out` is listed with e. None of N6 to N10: S = { $0.out = e; }.
abbrev pub WorkedRules : Type 0
WorkedRules = (e : Node) →
    (rules_fault (with_production 83 [] []) ≡ Some (fault.RuleMissing 0 0 0))
    × (rules_fault (with_production 83 [] (rule_at e out_name 52 [] ∷ rule_at e out_name 64 [] ∷ [])) ≡ Some
    (fault.RuleDoubled 64))
    × (rules_fault (with_production 65 [] (rule_at e (105 ∷ []) 52 [] ∷ [])) ≡ Some (fault.NotDefinedHere 52))
    × (rules_fault (with_production 83 [] (rule_at e out_name 52 (here out_name 60 ∷ []) ∷ [])) ≡ Some (fault.NotNormal 60))
    × (rules_fault (with_production 83 [] (rule_at e out_name 52 [] ∷ [])) ≡ None)
