-- Accepted grammars.
use Rattle.std.specs.Prelude.{ℕ, ◌≡◌, ◌≤◌, ◌<◌, ◌⊎◌, List, [], ◌∷◌, Some, slice_get, length, true}
use Rattle.ag_grammar.specs.Lists.{AreRelated, Has, Each, Differ, DifferIn}
use Rattle.ag_grammar.specs.expressions.Trees.{is_below}
use Rattle.ag_grammar.specs.declared.grammar.Item.TheVariants as item
use Rattle.ag_grammar.specs.declared.grammar.Item.{Item}
use Rattle.ag_grammar.specs.declared.grammar.Production.{Production}
use Rattle.ag_grammar.specs.declared.grammar.Rule.{Rule}
use Rattle.ag_grammar.specs.declared.grammar.Symbol.{Symbol}
use Rattle.ag_grammar.specs.declared.grammar.Target.{Target}
use Rattle.ag_grammar.specs.declared.grammar.Terminal.TheVariants.{Literal, Class}
use Rattle.ag_grammar.specs.declared.grammar.Terminal.{Terminal}
use Rattle.ag_grammar.specs.declared.limits.TheConstants.{CLASS_COUNT, MAX_ATTRIBUTES, MAX_ITEMS, MAX_LITERALS, MAX_LITERAL_BYTES}
use Rattle.ag_grammar.specs.declared.limits.TheConstants.{MAX_PASSES, MAX_PRODUCTIONS, MAX_RULES, MAX_CHILDREN, MAX_SYMBOLS}
use Rattle.ag_grammar.specs.declared.limits.TheConstants.{MAX_TEXT_BYTES, NAME, NUMBER, TEXT}
use Rattle.ag_grammar.specs.grammars.AttributeGrammar.{attribute_names, Grammar, stored_items, IsProduction, IsRule, Kind}
use Rattle.ag_grammar.specs.grammars.AttributeGrammar.{HasKind, RefersTo, defined_kind, used_kind}

-- the maximum number of symbols of a grammar; the limits from here to `max_text_bytes` are this project's
abbrev pub max_symbols : ℕ
max_symbols = MAX_SYMBOLS

-- the maximum number of attributes of a symbol
abbrev pub max_attributes : ℕ
max_attributes = MAX_ATTRIBUTES

-- the maximum number of productions
abbrev pub max_productions : ℕ
max_productions = MAX_PRODUCTIONS

-- the maximum number of items on a right side
abbrev pub max_items : ℕ
max_items = MAX_ITEMS

-- the maximum number of children of a production (items of its right side other than literals, also called stored items)
abbrev pub max_children : ℕ
max_children = MAX_CHILDREN

-- the number of rules of a production, or of arguments of a rule, that 16 bits can index; in an accepted grammar each production
-- has fewer rules, and each rule fewer arguments
abbrev pub max_rules : ℕ
max_rules = MAX_RULES

-- the maximum number of distinct literals
abbrev pub max_literals : ℕ
max_literals = MAX_LITERALS

-- the maximum number of bytes of a literal
abbrev pub max_literal_bytes : ℕ
max_literal_bytes = MAX_LITERAL_BYTES

-- the maximum number of bytes of a grammar's text; the limit of a sentence is the same
abbrev pub max_text_bytes : ℕ
max_text_bytes = MAX_TEXT_BYTES

-- An upper bound on the number of passes that a grammar with a legal assignment needs: two for each attribute that it may have
-- (Jazayeri and Walter 1975). Of two consecutive passes, one in each direction, at least one computes a new attribute.
abbrev pub max_passes : ℕ
max_passes = MAX_PASSES

-- the numbers of the classes NAME, NUMBER and TEXT (this project's)
abbrev pub name_class : ℕ
name_class = NAME

abbrev pub number_class : ℕ
number_class = NUMBER

abbrev pub text_class : ℕ
text_class = TEXT

-- the number of classes
abbrev pub class_count : ℕ
class_count = CLASS_COUNT

-- the name `out`, as bytes
abbrev pub out_name : List ℕ
out_name = 111 ∷ 117 ∷ 116 ∷ []

-- The numbers of symbols, productions and literals are within their limits. So are the number of attributes of each symbol, the
-- numbers of items and of children of each right side, and the length of each literal. No literal is empty (this project's).
pub record IsWithinGrammarLimits (g : Grammar) : Type 0 where
  pub symbol_count : length g.symbols ≤ max_symbols
  pub attribute_count : Each (λ s. length (attribute_names s) ≤ max_attributes) g.symbols
  pub production_count : length g.productions ≤ max_productions
  pub item_count : Each (λ q. length q.items ≤ max_items) g.productions
  pub stored_count : Each (λ q. length (stored_items q.items) ≤ max_children) g.productions
  pub literal_count : length g.literals ≤ max_literals
  pub literal_bytes : Each (λ x. (1 ≤ length x) × (length x ≤ max_literal_bytes)) g.literals

-- Space, tab, CR and LF separate the words of a sentence (this project's).
abbrev pub IsSeparator : ℕ → Type 0
IsSeparator b = (b ≡ 32) ⊎ (b ≡ 9) ⊎ (b ≡ 13) ⊎ (b ≡ 10)

-- The number of an item is that of a declared symbol, of a literal, or of a class in use.
abbrev pub IsNamedItem : Grammar → Item → Type 0
IsNamedItem g (item.Symbol s) = s < length g.symbols
IsNamedItem g (item.Terminal (Literal l)) = l < length g.literals
IsNamedItem g (item.Terminal (Class c)) = Has g.classes c

-- A terminal occurs in a production.
abbrev pub IsInUse : Grammar → Terminal → Type 0
IsInUse g a = (p : ℕ) × (q : Production) × IsProduction g p q × Has q.items (item.Terminal a)

-- A rule whose numbers are in range (Knuth 1968). Its target exists, and may be synthesized or inherited. Each occurrence in
-- the tree of its expression is one of those in the expression's list. There is one argument for each listed occurrence, in the
-- same order: the attribute that the occurrence refers to.
pub record IsNamedRule (g : Grammar) (q : Production) (r : Rule) : Type 0 where
  pub target : (k : Kind) × HasKind g q r.target k
  pub listed : is_below (length r.expr.occurrences) r.expr.tree ≡ true
  pub arguments : AreRelated (RefersTo g q) r.expr.occurrences r.args

-- Names and numbers are consistent (this project's): each number is in range; no symbol, attribute of a
-- symbol, literal or class appears twice; each literal and class occurs in a production; and no literal
-- contains a separator.
pub record IsNamed (g : Grammar) : Type 0 where
  pub symbols_differ : DifferIn (λ s. s.name) g.symbols
  pub attributes_differ : Each (λ s. Differ (attribute_names s)) g.symbols
  pub literals_differ : Differ g.literals
  pub literals_used : (l : ℕ) → l < length g.literals → IsInUse g (Literal l)
  pub without_separators : Each (Each (λ b. IsSeparator b → ⊥)) g.literals
  pub classes_differ : Differ g.classes
  pub classes_known : Each (λ c. c < class_count) g.classes
  pub classes_used : Each (λ c. IsInUse g (Class c)) g.classes
  pub left_sides : Each (λ q. q.left < length g.symbols) g.productions
  pub items_named : Each (λ q. Each (IsNamedItem g) q.items) g.productions
  pub rules_named : Each (λ q. Each (IsNamedRule g q) q.rules) g.productions

-- a is the number of the start symbol's `out`
abbrev pub IsOut : Grammar → ℕ → Type 0
IsOut g a = (s : Symbol) × (slice_get g.symbols g.start ≡ Some s) × (slice_get s.syn a ≡ Some out_name)

-- The start symbol has no inherited attribute (Knuth 1968), and a synthesized one named `out` (this
-- project's).
pub record IsStart (g : Grammar) : Type 0 where
  pub symbol : Symbol
  pub declared : slice_get g.symbols g.start ≡ Some symbol
  pub plain : symbol.inh ≡ []
  pub out : Has symbol.syn out_name

-- Complete: a production has exactly one rule for each synthesized attribute of its left side and for each
-- inherited attribute of its right side, and no other rule (Knuth 1968).
pub record IsComplete (g : Grammar) (q : Production) : Type 0 where
  pub all : (o : Target) → HasKind g q o (defined_kind o.place) → (r : Rule) × IsRule q r × (r.target ≡ o)
  pub single : DifferIn (λ r. r.target) q.rules
  pub no_other : Each (λ r. HasKind g q r.target (defined_kind r.target.place)) q.rules

-- Normal: the arguments of a rule are inherited attributes of the left side and synthesized attributes of the
-- right side, which are those that the production's own rules do not define (Bochmann 1976).
abbrev pub IsNormal : Grammar → Production → Type 0
IsNormal g q = Each (λ r. Each (λ o. HasKind g q o (used_kind o.place)) r.args) q.rules

-- A productive symbol, which derives a list of terminals: it has a production on whose right side all symbols are
-- productive (the textbook).
mutual
  pub data IsProductive (g : Grammar) : ℕ → Type 0 where
    by_production : (p : ℕ) (q : Production) {s : ℕ} → IsProduction g p q → q.left ≡ s → AreProductive g q.items
        → IsProductive g s

  pub data AreProductive (g : Grammar) : List Item → Type 0 where
    nothing : AreProductive g []
    a_symbol : {s : ℕ} {xs : List Item} → IsProductive g s → AreProductive g xs → AreProductive g (item.Symbol s ∷ xs)
    a_terminal : {a : Terminal} {xs : List Item} → AreProductive g xs → AreProductive g (item.Terminal a ∷ xs)

-- A reached symbol: it is the start symbol, or it occurs on the right side of a production of a reached symbol (the textbook).
pub data IsReached (g : Grammar) : ℕ → Type 0 where
  at_start : IsReached g g.start
  within : (p : ℕ) (q : Production) {s : ℕ} → IsProduction g p q → IsReached g q.left → Has q.items (item.Symbol s)
      → IsReached g s

-- An accepted grammar: named, with a start symbol as `IsStart` defines it, complete (Knuth 1968), normal (Bochmann 1976),
-- reduced, which means that each symbol is productive and reached (the textbook), and within the limits (this project's).
pub record IsAccepted (g : Grammar) : Type 0 where
  pub named : IsNamed g
  pub start : IsStart g
  pub complete : Each (IsComplete g) g.productions
  pub normal : Each (IsNormal g) g.productions
  pub productive : (s : ℕ) → s < length g.symbols → IsProductive g s
  pub reachable : (s : ℕ) → s < length g.symbols → IsReached g s
  pub limits : IsWithinGrammarLimits g
