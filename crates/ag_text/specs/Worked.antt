-- Tokens and grammars for worked examples.
use Rattle.std.specs.Prelude.{ℕ, List, [], ◌∷◌, pos, codes}
use Rattle.ag_value.specs.declared.value.Value.TheVariants as value
use Rattle.ag_grammar.specs.declared.syntax.node.Node.TheVariants as node
use Rattle.ag_tokens.specs.declared.token.Punctuation.{Punctuation}
use Rattle.ag_tokens.specs.declared.token.Punctuation.TheVariants as punctuation
use Rattle.ag_tokens.specs.PlacedToken.{PlacedToken}
use Rattle.ag_tokens.specs.GrammarToken as token
use Rattle.ag_grammar.specs.declared.raw.Named.{Named}
use Rattle.ag_grammar.specs.declared.raw.RawGrammar.{RawGrammar}
use Rattle.ag_grammar.specs.declared.raw.RawItem.TheVariants as item
use Rattle.ag_grammar.specs.declared.raw.RawRule.{RawRule}

-- the token of a name at an offset
abbrev pub name_at : ℕ → List ℕ → PlacedToken
name_at at name = record { at = at; token = token.Name name }

-- the token of punctuation at an offset
abbrev pub mark_at : ℕ → Punctuation → PlacedToken
mark_at at mark = record { at = at; token = token.Punctuation mark }

-- a name of a raw grammar, with its offset
abbrev pub named : ℕ → List ℕ → Named
named at name = record { name = name; at = at }

-- the tokens of `start S;`
abbrev pub start_tokens : List PlacedToken
start_tokens = name_at 0 (codes "start") ∷ name_at 6 (codes "S") ∷ mark_at 7 punctuation.Semicolon ∷ []

-- the grammar of `start S;`
abbrev pub start_alone : RawGrammar
start_alone = record { start = named 6 (codes "S"); symbols = []; productions = [] }

-- the tokens of `start S; symbol S syn out; S = "x" S NAME { $0.out = 7; }`
abbrev pub constant_tokens : List PlacedToken
constant_tokens =
    name_at 0 (codes "start") ∷ name_at 6 (codes "S") ∷ mark_at 7 punctuation.Semicolon ∷
    name_at 9 (codes "symbol") ∷ name_at 16 (codes "S") ∷ name_at 18 (codes "syn") ∷ name_at 22 (codes "out")
    ∷ mark_at 25 punctuation.Semicolon ∷
    name_at 27 (codes "S") ∷ mark_at 29 punctuation.Equal ∷ record { at = 31; token = token.Text (codes "x") } ∷ name_at 35
    (codes "S") ∷ name_at 37 (codes "NAME") ∷ mark_at 42 punctuation.OpenTable ∷
    record { at = 44; token = token.Occurrence 0 (codes "out") } ∷ mark_at 51 punctuation.Equal ∷ record
    { at = 53; token = token.Number (pos 7) } ∷ mark_at 54 punctuation.Semicolon ∷
    mark_at 56 punctuation.CloseTable ∷ []

-- the rule `$0.out = 7;`
abbrev pub constant_rule : RawRule
constant_rule =
    record {
      target = record { place = 0; attr = codes "out"; at = 44 };
      expr = record { tree = node.Literal (value.Num (pos 7)); occurrences = [] };
    }

-- the grammar of the tokens `constant_tokens`; class 0 is NAME
abbrev pub constant : RawGrammar
constant = record {
  start = named 6 (codes "S");
  symbols = record { name = named 16 (codes "S"); syn = named 22 (codes "out") ∷ []; inh = [] } ∷ [];
  productions =
      record {
        left = named 27 (codes "S");
        items = item.Literal (codes "x") ∷ item.Name (named 35 (codes "S")) ∷ item.Class 0 ∷ [];
        rules = constant_rule ∷ [];
      } ∷ [];
}
