-- A grammar and sentences, with files that are worked out by hand, except those of `x x`. Where no version is named, a file is
-- of version 1. The grammar computes the value of a binary fraction in units of 1/65536:
--   start N; symbol N syn out; symbol Q syn v; symbol L syn p, v inh w; symbol T syn p, v inh w; symbol B syn bit;
--   N = L Q   Q =   Q = "." L   L = B T   T =   T = B T   B = "0"   B = "1"
-- Symbols and productions are numbered from 0 in this order. The rules are left out: a file is made of given values
-- (`file_of_tree`), whether or not these satisfy rules.
use Rattle.std.specs.Prelude.{ℕ, zero, suc, List, [], ◌∷◌, ◌++◌, codes, pos}
use Rattle.ag_value.specs.declared.value.Value.{Value, Num, Text}
use Rattle.ag_grammar.specs.declared.grammar.Item.{Item}
use Rattle.ag_grammar.specs.declared.grammar.Item.TheVariants as item
use Rattle.ag_grammar.specs.declared.grammar.Production.{Production}
use Rattle.ag_grammar.specs.declared.grammar.Symbol.{Symbol}
use Rattle.ag_grammar.specs.declared.grammar.Terminal.TheVariants.{Literal}
use Rattle.ag_grammar.specs.grammars.AttributeGrammar.{Grammar}
use Rattle.ag_grammar.specs.grammars.Passes.{Passes}
use Rattle.ag_grammar.specs.grammars.Sample.{sample, sample_passes, sample_tree, sample_values}
use Rattle.ag_grammar.specs.grammars.Solution.{Valuation, graft}
use Rattle.ag_grammar.specs.grammars.Tree.{Tree, node, none, more}
use Rattle.treefile.specs.records.Records.{file_of_tree}
use Rattle.treefile.specs.records.TreeFile.{version_one}

-- a symbol of these names
abbrev pub symbol_of : List ℕ → List (List ℕ) → List (List ℕ) → Symbol
symbol_of name syn inh = record { name = name; syn = syn; inh = inh }

-- a production without its rules
abbrev pub production_of : ℕ → List Item → Production
production_of left items = record { left = left; items = items; rules = [] }

-- the grammar of binary fractions
abbrev pub binary : Grammar
binary = record {
  symbols =
      symbol_of (codes "N") (codes "out" ∷ []) [] ∷ symbol_of (codes "Q") (codes "v" ∷ []) [] ∷ symbol_of (codes "L")
      (codes "p" ∷ codes "v" ∷ []) (codes "w" ∷ []) ∷ symbol_of (codes "T") (codes "p" ∷ codes "v" ∷ []) (codes "w" ∷ [])
      ∷ symbol_of (codes "B") (codes "bit" ∷ []) [] ∷ [];
  productions =
      production_of 0 (item.Symbol 2 ∷ item.Symbol 1 ∷ []) ∷ production_of 1 [] ∷ production_of 1
      (item.Terminal (Literal 0) ∷ item.Symbol 2 ∷ []) ∷ production_of 2 (item.Symbol 4 ∷ item.Symbol 3 ∷ [])
      ∷ production_of 3 [] ∷ production_of 3 (item.Symbol 4 ∷ item.Symbol 3 ∷ []) ∷ production_of 4
      (item.Terminal (Literal 1) ∷ []) ∷ production_of 4 (item.Terminal (Literal 2) ∷ []) ∷ [];
  literals = codes "." ∷ codes "0" ∷ codes "1" ∷ [];
  classes = [];
  start = 0;
}

-- `p` and `bit` are of pass 1, and all others of pass 2
abbrev pub binary_passes : Passes
binary_passes zero = 2 ∷ []
binary_passes (suc zero) = 2 ∷ []
binary_passes (suc (suc zero)) = 1 ∷ 2 ∷ 2 ∷ []
binary_passes (suc (suc (suc zero))) = 1 ∷ 2 ∷ 2 ∷ []
binary_passes (suc (suc (suc (suc s)))) = 1 ∷ []

-- the tree of `1`
abbrev pub tree_of_one : Tree
tree_of_one = node 0 (more (node 3 (more (node 7 none) (more (node 4 none) none))) (more (node 1 none) none))

-- `p`, `v` and `w` of T
abbrev pub values_of_t : ℕ → Value
values_of_t zero = Num (pos 65536)
values_of_t (suc zero) = Num (pos 0)
values_of_t (suc (suc a)) = Num (pos 32768)

-- the values in the two children of L: B and T
abbrev pub values_in_l : ℕ → Valuation
values_in_l zero path a = Num (pos 1)
values_in_l (suc i) path a = values_of_t a

-- the values in the two children of N: L and Q
abbrev pub values_in_n : ℕ → Valuation
values_in_n zero = graft (λ a. Num (pos 65536)) values_in_l
values_in_n (suc i) = λ path a. Num (pos 0)

-- the values in the tree of `1`
abbrev pub values_of_one : Valuation
values_of_one = graft (λ a. Text (codes "65536")) values_in_n

-- the file of pass 0 of `1`: its header, and a frame for each node
abbrev pub pass_0_of_one : List ℕ
pass_0_of_one =
    (65 ∷ 71 ∷ 84 ∷ 49 ∷ 0 ∷ 0 ∷ [])
    ++ (0 ∷ 0 ∷ 7 ∷ 0 ∷ 0 ∷ 0 ∷ 3 ∷ [])
    ++ (0 ∷ 0 ∷ 4 ∷ 0 ∷ 0 ∷ 0 ∷ 3 ∷ [])
    ++ (0 ∷ 0 ∷ 3 ∷ 0 ∷ 0 ∷ 0 ∷ 3 ∷ [])
    ++ (0 ∷ 0 ∷ 1 ∷ 0 ∷ 0 ∷ 0 ∷ 3 ∷ [])
    ++ (0 ∷ 0 ∷ 0 ∷ 0 ∷ 0 ∷ 0 ∷ 3 ∷ [])

-- the file of pass 1 of `1`: its header, and a frame for each node
abbrev pub pass_1_of_one : List ℕ
pass_1_of_one =
    (65 ∷ 71 ∷ 84 ∷ 49 ∷ 0 ∷ 1 ∷ [])
    ++ (0 ∷ 0 ∷ 1 ∷ 0 ∷ 0 ∷ 0 ∷ 3 ∷ [])
    ++ (0 ∷ 0 ∷ 4 ∷ 0 ∷ 0 ∷ 0 ∷ 0 ∷ 0 ∷ 0 ∷ 1 ∷ 0 ∷ 0 ∷ 0 ∷ 0 ∷ 0 ∷ 12 ∷ [])
    ++ (0 ∷ 0 ∷ 7 ∷ 0 ∷ 0 ∷ 0 ∷ 0 ∷ 0 ∷ 0 ∷ 0 ∷ 0 ∷ 1 ∷ 0 ∷ 0 ∷ 0 ∷ 12 ∷ [])
    ++ (0 ∷ 0 ∷ 3 ∷ 0 ∷ 0 ∷ 0 ∷ 0 ∷ 0 ∷ 0 ∷ 1 ∷ 0 ∷ 0 ∷ 0 ∷ 0 ∷ 0 ∷ 12 ∷ [])
    ++ (0 ∷ 0 ∷ 0 ∷ 0 ∷ 0 ∷ 0 ∷ 3 ∷ [])

-- the file of pass 2 of `1`: its header, and a frame for each node
abbrev pub pass_2_of_one : List ℕ
pass_2_of_one =
    (65 ∷ 71 ∷ 84 ∷ 49 ∷ 0 ∷ 2 ∷ [])
    ++ (0 ∷ 0 ∷ 7 ∷ 0 ∷ 0 ∷ 0 ∷ 0 ∷ 0 ∷ 0 ∷ 0 ∷ 0 ∷ 1 ∷ 0 ∷ 0 ∷ 0 ∷ 12 ∷ [])
    ++ (0 ∷ 0 ∷ 4 ∷ 0 ∷ 0 ∷ 0 ∷ 0 ∷ 0 ∷ 0 ∷ 1 ∷ 0 ∷ 0 ∷ 0 ∷ 0 ∷ 0 ∷ 0 ∷ 0 ∷ 0 ∷ 0 ∷ 0 ∷ 0 ∷ 0 ∷ 0 ∷ 0 ∷ 0 ∷ 0 ∷ 0 ∷ 0 ∷ 128 ∷ 0
    ∷ 0 ∷ 0 ∷ 0 ∷ 30 ∷ [])
    ++ (0 ∷ 0 ∷ 3 ∷ 0 ∷ 0 ∷ 0 ∷ 0 ∷ 0 ∷ 0 ∷ 1 ∷ 0 ∷ 0 ∷ 0 ∷ 0 ∷ 0 ∷ 0 ∷ 0 ∷ 0 ∷ 1 ∷ 0 ∷ 0 ∷ 0 ∷ 0 ∷ 0 ∷ 0 ∷ 0 ∷ 0 ∷ 1 ∷ 0 ∷ 0 ∷ 0
    ∷ 0 ∷ 0 ∷ 30 ∷ [])
    ++ (0 ∷ 0 ∷ 1 ∷ 0 ∷ 0 ∷ 0 ∷ 0 ∷ 0 ∷ 0 ∷ 0 ∷ 0 ∷ 0 ∷ 0 ∷ 0 ∷ 0 ∷ 12 ∷ [])
    ++ (0 ∷ 0 ∷ 0 ∷ 1 ∷ 0 ∷ 0 ∷ 0 ∷ 5 ∷ 54 ∷ 53 ∷ 53 ∷ 51 ∷ 54 ∷ 0 ∷ 0 ∷ 0 ∷ 13 ∷ [])

-- the file of pass 0 of `iffy if` in the sample grammar with a token (`examples/words.ag`): its header, a frame for the name
-- `iffy` and one for the root
abbrev pub file_of_iffy : List ℕ
file_of_iffy =
    (65 ∷ 71 ∷ 84 ∷ 49 ∷ 0 ∷ 0 ∷ [])
    ++ (1 ∷ 0 ∷ 0 ∷ 1 ∷ 0 ∷ 0 ∷ 0 ∷ 4 ∷ 105 ∷ 102 ∷ 102 ∷ 121 ∷ 0 ∷ 0 ∷ 0 ∷ 12 ∷ [])
    ++ (0 ∷ 0 ∷ 0 ∷ 0 ∷ 0 ∷ 0 ∷ 3 ∷ [])

-- the file of pass 0 of `1` in version 2: no child has a value to copy yet
abbrev pub pass_0_of_one_in_two : List ℕ
pass_0_of_one_in_two =
    (65 ∷ 71 ∷ 84 ∷ 50 ∷ 0 ∷ 0 ∷ [])
    ++ (0 ∷ 0 ∷ 7 ∷ 0 ∷ 0 ∷ 0 ∷ 3 ∷ [])
    ++ (0 ∷ 0 ∷ 4 ∷ 0 ∷ 0 ∷ 0 ∷ 3 ∷ [])
    ++ (0 ∷ 0 ∷ 3 ∷ 0 ∷ 0 ∷ 0 ∷ 3 ∷ [])
    ++ (0 ∷ 0 ∷ 1 ∷ 0 ∷ 0 ∷ 0 ∷ 3 ∷ [])
    ++ (0 ∷ 0 ∷ 0 ∷ 0 ∷ 0 ∷ 0 ∷ 3 ∷ [])

-- the file of pass 1 of `1` in version 2: L's record has copies of `bit` of B and of `p` of T, and N's one of `p` of L
abbrev pub pass_1_of_one_in_two : List ℕ
pass_1_of_one_in_two =
    (65 ∷ 71 ∷ 84 ∷ 50 ∷ 0 ∷ 1 ∷ [])
    ++ (0 ∷ 0 ∷ 1 ∷ 0 ∷ 0 ∷ 0 ∷ 3 ∷ [])
    ++ (0 ∷ 0 ∷ 4 ∷ 0 ∷ 0 ∷ 0 ∷ 0 ∷ 0 ∷ 0 ∷ 1 ∷ 0 ∷ 0 ∷ 0 ∷ 0 ∷ 0 ∷ 12 ∷ [])
    ++ (0 ∷ 0 ∷ 7 ∷ 0 ∷ 0 ∷ 0 ∷ 0 ∷ 0 ∷ 0 ∷ 0 ∷ 0 ∷ 1 ∷ 0 ∷ 0 ∷ 0 ∷ 12 ∷ [])
    ++ (0 ∷ 0 ∷ 3 ∷ 0 ∷ 0 ∷ 0 ∷ 0 ∷ 0 ∷ 0 ∷ 1 ∷ 0 ∷ 0 ∷ 0 ∷ 0 ∷ 0 ∷ 0 ∷ 0 ∷ 0 ∷ 0 ∷ 0 ∷ 1 ∷ 0 ∷ 0 ∷ 0 ∷ 0 ∷ 0 ∷ 0 ∷ 1 ∷ 0 ∷ 0 ∷ 0
    ∷ 0 ∷ 0 ∷ 30 ∷ [])
    ++ (0 ∷ 0 ∷ 0 ∷ 0 ∷ 0 ∷ 0 ∷ 0 ∷ 0 ∷ 0 ∷ 1 ∷ 0 ∷ 0 ∷ 0 ∷ 0 ∷ 0 ∷ 12 ∷ [])

-- the file of pass 2 of `1` in version 2: L's record has one more copy, of `v` of T, and N's two more, of `v` of L and of Q
abbrev pub pass_2_of_one_in_two : List ℕ
pass_2_of_one_in_two =
    (65 ∷ 71 ∷ 84 ∷ 50 ∷ 0 ∷ 2 ∷ [])
    ++ (0 ∷ 0 ∷ 7 ∷ 0 ∷ 0 ∷ 0 ∷ 0 ∷ 0 ∷ 0 ∷ 0 ∷ 0 ∷ 1 ∷ 0 ∷ 0 ∷ 0 ∷ 12 ∷ [])
    ++ (0 ∷ 0 ∷ 4 ∷ 0 ∷ 0 ∷ 0 ∷ 0 ∷ 0 ∷ 0 ∷ 1 ∷ 0 ∷ 0 ∷ 0 ∷ 0 ∷ 0 ∷ 0 ∷ 0 ∷ 0 ∷ 0 ∷ 0 ∷ 0 ∷ 0 ∷ 0 ∷ 0 ∷ 0 ∷ 0 ∷ 0 ∷ 0 ∷ 128 ∷ 0
    ∷ 0 ∷ 0 ∷ 0 ∷ 30 ∷ [])
    ++ (0 ∷ 0 ∷ 3 ∷ 0 ∷ 0 ∷ 0 ∷ 0 ∷ 0 ∷ 0 ∷ 1 ∷ 0 ∷ 0 ∷ 0 ∷ 0 ∷ 0 ∷ 0 ∷ 0 ∷ 0 ∷ 1 ∷ 0 ∷ 0 ∷ 0 ∷ 0 ∷ 0 ∷ 0 ∷ 0 ∷ 0 ∷ 1 ∷ 0 ∷ 0 ∷ 0
    ∷ 0 ∷ 0 ∷ 0 ∷ 0 ∷ 0 ∷ 0 ∷ 0 ∷ 1 ∷ 0 ∷ 0 ∷ 0 ∷ 0 ∷ 0 ∷ 0 ∷ 1 ∷ 0 ∷ 0 ∷ 0 ∷ 0 ∷ 0 ∷ 0 ∷ 0 ∷ 0 ∷ 0 ∷ 0 ∷ 0 ∷ 0 ∷ 0 ∷ 0 ∷ 57
    ∷ [])
    ++ (0 ∷ 0 ∷ 1 ∷ 0 ∷ 0 ∷ 0 ∷ 0 ∷ 0 ∷ 0 ∷ 0 ∷ 0 ∷ 0 ∷ 0 ∷ 0 ∷ 0 ∷ 12 ∷ [])
    ++ (0 ∷ 0 ∷ 0 ∷ 1 ∷ 0 ∷ 0 ∷ 0 ∷ 5 ∷ 54 ∷ 53 ∷ 53 ∷ 51 ∷ 54 ∷ 0 ∷ 0 ∷ 0 ∷ 0 ∷ 0 ∷ 0 ∷ 1 ∷ 0 ∷ 0 ∷ 0 ∷ 0 ∷ 0 ∷ 0 ∷ 0 ∷ 0 ∷ 1 ∷ 0
    ∷ 0 ∷ 0 ∷ 0 ∷ 0 ∷ 0 ∷ 0 ∷ 0 ∷ 0 ∷ 0 ∷ 0 ∷ 0 ∷ 0 ∷ 0 ∷ 40 ∷ [])

-- the file of pass 0 of `iffy if` in version 2: the root's record has a copy of the name
abbrev pub file_of_iffy_in_two : List ℕ
file_of_iffy_in_two =
    (65 ∷ 71 ∷ 84 ∷ 50 ∷ 0 ∷ 0 ∷ [])
    ++ (1 ∷ 0 ∷ 0 ∷ 1 ∷ 0 ∷ 0 ∷ 0 ∷ 4 ∷ 105 ∷ 102 ∷ 102 ∷ 121 ∷ 0 ∷ 0 ∷ 0 ∷ 12 ∷ [])
    ++ (0 ∷ 0 ∷ 0 ∷ 1 ∷ 0 ∷ 0 ∷ 0 ∷ 4 ∷ 105 ∷ 102 ∷ 102 ∷ 121 ∷ 0 ∷ 0 ∷ 0 ∷ 12 ∷ [])

-- all attributes of the sample grammar with a token (`examples/words.ag`) are of pass 1
abbrev pub iffy_passes : Passes
iffy_passes s = 1 ∷ []

-- the bodies of the file of pass 0 of `1`, from its end: N, Q, L, T, B
abbrev pub bodies_of_one : List (List ℕ)
bodies_of_one = (0 ∷ 0 ∷ 0 ∷ []) ∷ (0 ∷ 0 ∷ 1 ∷ []) ∷ (0 ∷ 0 ∷ 3 ∷ []) ∷ (0 ∷ 0 ∷ 4 ∷ []) ∷ (0 ∷ 0 ∷ 7 ∷ []) ∷ []

-- the spelling of the number 65536
abbrev pub spelled_number : List ℕ
spelled_number = 0 ∷ 0 ∷ 0 ∷ 0 ∷ 0 ∷ 0 ∷ 1 ∷ 0 ∷ 0 ∷ []

-- the record of T in the file of pass 1 of `1`: its production, and the value of `p`
abbrev pub record_of_t : List ℕ
record_of_t = 0 ∷ 0 ∷ 4 ∷ spelled_number

-- the record of N in the file of pass 2 of `1`: its production, and the value of `out`
abbrev pub record_of_n : List ℕ
record_of_n = 0 ∷ 0 ∷ 0 ∷ 1 ∷ 0 ∷ 0 ∷ 0 ∷ 5 ∷ 54 ∷ 53 ∷ 53 ∷ 51 ∷ 54 ∷ []

-- the record of the name `iffy`
abbrev pub record_of_iffy : List ℕ
record_of_iffy = 1 ∷ 0 ∷ 0 ∷ 1 ∷ 0 ∷ 0 ∷ 0 ∷ 4 ∷ 105 ∷ 102 ∷ 102 ∷ 121 ∷ []

-- the file of a pass of `x x` in the sample grammar without a token (`examples/swapped-attributes.ag` without its `text(..)`),
-- with 2 for `out`
abbrev pub file_of_x_x : ℕ → List ℕ
file_of_x_x k = file_of_tree version_one sample sample_passes k sample_tree (sample_values 2)
