-- A grammar as parsed from a text: the children of a right side, and the names of the attributes of a symbol, in order.
use Rattle.std.specs.Prelude.{ℕ, List, [], ◌∷◌, ◌++◌, map}
use Rattle.ag_grammar.specs.declared.raw.Named.{Named}
use Rattle.ag_grammar.specs.declared.raw.RawItem.{RawItem}
use Rattle.ag_grammar.specs.declared.raw.RawItem.TheVariants as raw_item
use Rattle.ag_grammar.specs.declared.raw.RawSymbol.{RawSymbol}

-- The children of a right side: names of symbols and classes, but not literals (this project's).
abbrev pub raw_stored : List RawItem → List RawItem
raw_stored [] = []
raw_stored (raw_item.Name name ∷ xs) = raw_item.Name name ∷ raw_stored xs
raw_stored (raw_item.Class c ∷ xs) = raw_item.Class c ∷ raw_stored xs
raw_stored (raw_item.Literal text ∷ xs) = raw_stored xs

-- names without their offsets
abbrev pub texts_of : List Named → List (List ℕ)
texts_of names = map (λ n. n.name) names

-- the names of a symbol's attributes, indexed by their numbers: the synthesized ones come first
abbrev pub raw_attribute_names : RawSymbol → List (List ℕ)
raw_attribute_names s = texts_of s.syn ++ texts_of s.inh
