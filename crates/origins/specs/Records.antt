-- What the body of a record of the file of the last pass is. All of this is this project's.
use Rattle.std.specs.Prelude.{ℕ, ◌≡◌, ◌^◌, ◌<◌, ◌≤◌, List, All, length}
use Rattle.std.specs.List.{flat_map}
use Rattle.ag_value.specs.Spelling.{spelling_of}
use Rattle.ag_value.specs.declared.value.Value.{Value}
use Rattle.ag_value.specs.Well.{IsWell}
use Rattle.ag_grammar.specs.declared.grammar.Item.{Item}
use Rattle.ag_grammar.specs.declared.grammar.Item.TheVariants as item
use Rattle.ag_grammar.specs.declared.grammar.Production.{Production}
use Rattle.ag_grammar.specs.declared.grammar.Terminal.TheVariants.{Class, Literal}
use Rattle.ag_grammar.specs.grammars.AttributeGrammar.{Grammar, IsProduction}
use Rattle.treefile.specs.declared.body.Kind.TheVariants.{Node, Token}
use Rattle.treefile.specs.records.TreeFile.{body_from, body_of, version_two}
use Rattle.origins.specs.declared.record.LastRecord.{LastRecord}
use Rattle.origins.specs.declared.record.LastRecord.TheVariants as record_of

-- a body is the record of a node of the production with number p, with the values vs, which are well
pub record IsNode (g : Grammar) (body : List ℕ) (p : ℕ) (vs : List Value) : Type 0 where
  pub production : Production
  pub there : IsProduction g p production
  pub well : All IsWell vs
  pub same : body ≡ body_of Node p vs

-- A body is the record of an item that `record_of` returns. Any bytes may follow the class of a token.
abbrev pub IsRecord : Grammar → Item → List ℕ → LastRecord → Type 0
IsRecord g x body (record_of.Node p vs) = (node : IsNode g body p vs) × (x ≡ item.Symbol node.production.left)
IsRecord g x body record_of.Token = (c : ℕ) × (spelling : List ℕ) × (x ≡ item.Terminal (Class c))
    × (body ≡ body_from Token c spelling)

-- bytes are not the spellings of well values, or of more values than a record may have
abbrev pub AreNoValues : List ℕ → Type 0
AreNoValues bytes = (vs : List Value) → All IsWell vs → length vs ≤ version_two.max_values → bytes ≡ flat_map spelling_of vs → ⊥

-- a body is not the record of a node of the symbol with number s, or has more values than a record may have
abbrev pub IsNoNode : Grammar → ℕ → List ℕ → Type 0
IsNoNode g s body = (p : ℕ) (vs : List Value) (node : IsNode g body p vs) → p < 2 ^ 16 → node.production.left ≡ s
    → length vs ≤ version_two.max_values → ⊥

-- A body is not a record of the item. (A literal has no records.)
abbrev pub IsNoRecord : Grammar → Item → List ℕ → Type 0
IsNoRecord g (item.Symbol s) body = IsNoNode g s body
IsNoRecord g (item.Terminal (Class c)) body = (spelling : List ℕ) → c < 2 ^ 16 → body ≡ body_from Token c spelling → ⊥
IsNoRecord g (item.Terminal (Literal l)) body = Unit {0}
