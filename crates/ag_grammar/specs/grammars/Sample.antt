-- Two grammars to try the definitions on. In the first, `out` is a number and not a text: the definitions do
-- not require a text, and the grammar is shorter this way.
--   start R; symbol R syn out; symbol A syn s inh i;
--   R = A A { $0.out = $1.s; $1.i = $2.s; $2.i = 0; }
--   A = "x" { $0.s = $0.i + 1; }
-- The second has a NAME.
--   start S; symbol S syn out;
--   S = NAME "if" { $0.out = $1.lex; }
use Rattle.std.specs.Prelude.{ℕ, zero, suc, List, [], ◌∷◌, ◌++◌, pos}
use Rattle.ag_value.specs.declared.value.Value.{Value, Num, Text}
use Rattle.ag_grammar.specs.declared.syntax.node.Node.TheVariants as node_of
use Rattle.ag_grammar.specs.declared.syntax.node.Operator.TheVariants.{Add}
use Rattle.ag_grammar.specs.declared.syntax.occurrence.Occ.{Occ}
use Rattle.ag_grammar.specs.declared.grammar.Item.TheVariants as item
use Rattle.ag_grammar.specs.declared.grammar.Production.{Production}
use Rattle.ag_grammar.specs.declared.grammar.Rule.{Rule}
use Rattle.ag_grammar.specs.declared.grammar.Symbol.{Symbol}
use Rattle.ag_grammar.specs.declared.grammar.Target.{Target}
use Rattle.ag_grammar.specs.declared.grammar.Terminal.TheVariants.{Literal, Class}
use Rattle.ag_grammar.specs.grammars.AttributeGrammar.{Grammar, lex_name}
use Rattle.ag_grammar.specs.grammars.Accepted.{out_name}
use Rattle.ag_grammar.specs.grammars.Tree.{Tree, leaf, node, none, more}
use Rattle.ag_grammar.specs.grammars.Solution.{Valuation, graft}

-- the attribute with number a at place j
abbrev pub attribute : ℕ → ℕ → Target
attribute j a = record { place = j; attr = a }

-- an occurrence of the name at place j
abbrev pub named : ℕ → List ℕ → Occ
named j name = record { place = j; attr = name; at = 0 }

-- the names `s` and `i`, as bytes
abbrev pub s_name : List ℕ
s_name = 115 ∷ []

abbrev pub i_name : List ℕ
i_name = 105 ∷ []

-- symbol 0: R, with `out`
abbrev pub symbol_r : Symbol
symbol_r = record { name = 82 ∷ []; syn = out_name ∷ []; inh = [] }

-- symbol 1: A, with `s` and `i`
abbrev pub symbol_a : Symbol
symbol_a = record { name = 65 ∷ []; syn = s_name ∷ []; inh = i_name ∷ [] }

-- a rule whose target gets the value of the attribute at place j with this name and the number a
abbrev pub copy_rule : Target → ℕ → List ℕ → ℕ → Rule
copy_rule target j name a =
    record {
      target = target;
      expr = record { tree = node_of.Occurrence 0; occurrences = named j name ∷ [] };
      args = attribute j a ∷ [];
    }

-- a rule that sets its target to 0
abbrev pub zero_rule : Target → Rule
zero_rule target =
    record { target = target; expr = record { tree = node_of.Literal (Num (pos 0)); occurrences = [] }; args = [] }

-- $0.out = $1.s
abbrev pub rule_out : Rule
rule_out = copy_rule (attribute 0 0) 1 s_name 0

-- $1.i = $2.s
abbrev pub rule_first : Rule
rule_first = copy_rule (attribute 1 1) 2 s_name 0

-- $2.i = 0
abbrev pub rule_second : Rule
rule_second = zero_rule (attribute 2 1)

-- $0.s = $0.i + 1
abbrev pub rule_s : Rule
rule_s = record {
  target = attribute 0 0;
  expr = record {
    tree = node_of.Chain (node_of.Occurrence 0) ((Add, node_of.Literal (Num (pos 1))) ∷ []);
    occurrences = named 0 i_name ∷ [];
  };
  args = attribute 0 1 ∷ [];
}

-- production 0: R = A A with these rules
abbrev pub production_r : List Rule → Production
production_r rules = record { left = 0; items = item.Symbol 1 ∷ item.Symbol 1 ∷ []; rules = rules }

-- production 1: A = "x"
abbrev pub production_a : Production
production_a = record { left = 1; items = item.Terminal (Literal 0) ∷ []; rules = rule_s ∷ [] }

-- the first grammar, with these rules of its first production
abbrev pub grammar_of : List Rule → Grammar
grammar_of rules =
    record {
      symbols = symbol_r ∷ symbol_a ∷ [];
      productions = production_r rules ∷ production_a ∷ [];
      literals = (120 ∷ []) ∷ [];
      classes = [];
      start = 0;
    }

-- the first grammar
abbrev pub sample : Grammar
sample = grammar_of (rule_out ∷ rule_first ∷ rule_second ∷ [])

-- the same without the rule for $0.out
abbrev pub without_out : Grammar
without_out = grammar_of (rule_first ∷ rule_second ∷ [])

-- $2.i = $1.i, which is not normal
abbrev pub rule_inherited : Rule
rule_inherited = copy_rule (attribute 2 1) 1 i_name 1

-- the first grammar with $2.i = 0 twice
abbrev pub doubled : Grammar
doubled = grammar_of (rule_out ∷ rule_first ∷ rule_second ∷ rule_second ∷ [])

-- $0.out = $1.s, but without its argument
abbrev pub rule_bare : Rule
rule_bare = record rule_out { args = [] }

-- the first grammar with this rule
abbrev pub bare : Grammar
bare = grammar_of (rule_bare ∷ rule_first ∷ rule_second ∷ [])

-- R = "y" A A { $0.out = $2.s; $1.i = 0; $2.i = $1.s; }
abbrev pub production_back : Production
production_back = record {
  left = 0;
  items = item.Terminal (Literal 1) ∷ item.Symbol 1 ∷ item.Symbol 1 ∷ [];
  rules = copy_rule (attribute 0 0) 2 s_name 0 ∷ zero_rule (attribute 1 1) ∷ copy_rule (attribute 2 1) 1 s_name 0 ∷ [];
}

-- the first grammar with this production added: each direction is wrong for one of the two productions of R
abbrev pub both_ways : Grammar
both_ways = record sample { productions = sample.productions ++ production_back ∷ []; literals = (120 ∷ []) ∷ (121 ∷ []) ∷ [] }

-- the same with the added production first, so that literal 1 appears before literal 0
abbrev pub back_first : Grammar
back_first = record both_ways { productions = production_back ∷ sample.productions }

-- the tree of `x x`
abbrev pub sample_tree : Tree
sample_tree = node 0 (more (node 1 none) (more (node 1 none) none))

-- the values of `s` and `i` of an A
abbrev pub values_of_a : ℕ → ℕ → ℕ → Value
values_of_a s i zero = Num (pos s)
values_of_a s i (suc a) = Num (pos i)

-- the values in the two children
abbrev pub values_in_children : ℕ → Valuation
values_in_children zero path = values_of_a 2 1
values_in_children (suc i) path = values_of_a 1 0

-- `out` at the root, 2 and 1 for `s` and `i` of the first A, and 1 and 0 for those of the second
abbrev pub sample_values : ℕ → Valuation
sample_values out = graft (λ a. Num (pos out)) values_in_children

-- all attributes belong to pass 1, which goes from right to left
abbrev pub sample_passes : ℕ → List ℕ
sample_passes zero = 1 ∷ []
sample_passes (suc zero) = 1 ∷ 1 ∷ []
sample_passes (suc (suc s)) = []

-- all attributes belong to pass 2, which goes from left to right
abbrev pub later_passes : ℕ → List ℕ
later_passes zero = 2 ∷ []
later_passes (suc zero) = 2 ∷ 2 ∷ []
later_passes (suc (suc s)) = []

-- $0.out = $1.out
abbrev pub rule_pass : Rule
rule_pass = copy_rule (attribute 0 0) 1 out_name 0

-- start R; symbol R syn out; R = R { $0.out = $1.out; }
abbrev pub endless : Grammar
endless =
    record {
      symbols = symbol_r ∷ [];
      productions = record { left = 0; items = item.Symbol 0 ∷ []; rules = rule_pass ∷ [] } ∷ [];
      literals = [];
      classes = [];
      start = 0;
    }

-- T = R { $0.out = $1.out; }
abbrev pub production_t : Production
production_t = record { left = 2; items = item.Symbol 0 ∷ []; rules = rule_pass ∷ [] }

-- the first grammar with symbol 2, T, and this production added
abbrev pub with_unreached : Grammar
with_unreached = record {
  symbols = symbol_r ∷ symbol_a ∷ record { name = 84 ∷ []; syn = out_name ∷ []; inh = [] } ∷ [];
  productions = sample.productions ++ production_t ∷ [];
  literals = sample.literals;
  classes = [];
  start = 0;
}

-- $0.out = $1.lex
abbrev pub rule_lex : Rule
rule_lex = copy_rule (attribute 0 0) 1 lex_name 0

-- production 0: S = NAME "if"
abbrev pub production_s : Production
production_s = record { left = 0; items = item.Terminal (Class 0) ∷ item.Terminal (Literal 0) ∷ []; rules = rule_lex ∷ [] }

-- symbol 0: S, with `out`
abbrev pub symbol_s : Symbol
symbol_s = record { name = 83 ∷ []; syn = out_name ∷ []; inh = [] }

-- the second grammar
abbrev pub token_sample : Grammar
token_sample =
    record {
      symbols = symbol_s ∷ [];
      productions = production_s ∷ [];
      literals = (105 ∷ 102 ∷ []) ∷ [];
      classes = 0 ∷ [];
      start = 0;
    }

-- the second grammar with the classes 1 and 0, which do not ascend
abbrev pub descending : Grammar
descending = record token_sample { classes = 1 ∷ 0 ∷ [] }

-- the text `iffy`
abbrev pub iffy : List ℕ
iffy = 105 ∷ 102 ∷ 102 ∷ 121 ∷ []

-- the tree of `iffy if`
abbrev pub token_tree : Tree
token_tree = node 0 (more (leaf 0 iffy) none)

-- the values with `iffy` for `lex`, and this text for `out`
abbrev pub token_values : List ℕ → Valuation
token_values out = graft (λ a. Text out) (λ i path a. Text iffy)
