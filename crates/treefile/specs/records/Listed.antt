-- The values of a record as a list; its body has their spellings, one after the other. The letters are those of `Records.antt`,
-- but ps are passes, of which p is one (except in `IsListedRecord`), vs values, of which v is one, and xs items, of which x is
-- one. All of this is this project's.
use Rattle.std.specs.Prelude.{ℕ, zero, suc, ◌≡◌, ◌+◌, ◌++◌, nat_le, Bool, true, false, List, [], ◌∷◌, length, pos, All}
use Rattle.std.specs.Prelude.{if◌then◌else◌, refl}
use Rattle.std.specs.List.{flat_map}
use Rattle.ag_value.specs.declared.value.Value.{Value, Num}
use Rattle.ag_value.specs.Spelling.{spelling_of}
use Rattle.ag_value.specs.Well.{IsWell}
use Rattle.ag_grammar.specs.declared.grammar.Production.{Production}
use Rattle.ag_grammar.specs.declared.grammar.Item.TheVariants as item
use Rattle.ag_grammar.specs.declared.grammar.Item.{Item}
use Rattle.ag_grammar.specs.declared.grammar.Terminal.TheVariants.{Literal, Class}
use Rattle.ag_grammar.specs.grammars.AttributeGrammar.{Grammar, IsProduction, stored_items}
use Rattle.ag_grammar.specs.grammars.Passes.{Passes}
use Rattle.treefile.specs.records.Records.{synthesized_passes}
use Rattle.treefile.specs.records.TreeFile.{Version, body_of}
use Rattle.treefile.specs.declared.body.Kind.TheVariants.{Node}

-- the number of the attributes with these passes whose pass is at most k
abbrev pub count_up_to : ℕ → List ℕ → ℕ
count_up_to k [] = 0
count_up_to k (p ∷ ps) = (if nat_le p k then 1 else 0) + count_up_to k ps

-- the first of some values, and the number 0 if there is none
abbrev pub first_of_values : List Value → Value
first_of_values [] = Num (pos 0)
first_of_values (v ∷ vs) = v

-- the values after the first
abbrev pub others_of_values : List Value → List Value
others_of_values [] = []
others_of_values (v ∷ vs) = vs

-- The value of attribute a, if a list has the values of the attributes whose pass is at most k, in declared order. For the other
-- attributes the result doesn't matter.
abbrev pub listed_value : ℕ → List ℕ → List Value → ℕ → Value
listed_value k [] vs a = Num (pos 0)
listed_value k (p ∷ ps) vs zero = first_of_values vs
listed_value k (p ∷ ps) vs (suc a) = listed_value k ps (if nat_le p k then others_of_values vs else vs) a

-- the number of values in the copy of an item's tree in the file of pass k
abbrev pub copied_count : Grammar → Passes → ℕ → Item → ℕ
copied_count g m k (item.Symbol s) = count_up_to k (synthesized_passes g m s)
copied_count g m k (item.Terminal (Class c)) = 1
copied_count g m k (item.Terminal (Literal l)) = 0

-- the number of values in the copies of some items' trees
abbrev pub copies_count : Grammar → Passes → ℕ → List Item → ℕ
copies_count g m k [] = 0
copies_count g m k (x ∷ xs) = copied_count g m k x + copies_count g m k xs

-- the number of values in the record of a node in the file of pass k, with copies if the version has them
abbrev pub stored_count : Bool → Grammar → Passes → ℕ → Production → ℕ
stored_count false g m k q = count_up_to k (m q.left)
stored_count true g m k q = count_up_to k (m q.left) + copies_count g m k (stored_items q.items)

-- A body is the record of a node of symbol s in the file of pass k, with the values vs. The node is of a production of the
-- symbol. There is a well value for each attribute of the symbol whose pass is at most k. In a version with copies, a well value
-- follows for each copy of a child's value (`copies_count`).
pub record IsListedRecord (version : Version) (g : Grammar) (m : Passes) (k s : ℕ) (body : List ℕ) (p : ℕ) (q : Production)
    (vs : List Value) : Type 0 where
  pub production : IsProduction g p q
  pub left : q.left ≡ s
  pub count : length vs ≡ stored_count version.has_copies g m k q
  pub well : All IsWell vs
  pub occurs : body ≡ body_of Node p vs

-- Some bytes spell n well values, one after the other.
abbrev pub AreSpelled : ℕ → List ℕ → Type 0
AreSpelled n bytes = (vs : List Value) × (length vs ≡ n) × All IsWell vs × (bytes ≡ flat_map spelling_of vs)

-- Some well values were read from bytes: the bytes begin with their spellings, and `rest` follows.
pub record HasReadValues (bytes : List ℕ) (vs : List Value) (rest : List ℕ) : Type 0 where
  pub well : All IsWell vs
  pub split : bytes ≡ flat_map spelling_of vs ++ rest

-- No prefix of some bytes is the spelling of a well value.
abbrev pub BeginsNoValue : List ℕ → Type 0
BeginsNoValue bytes = (v : Value) (rest : List ℕ) → IsWell v → bytes ≡ spelling_of v ++ rest → ⊥

-- ---- worked examples

-- of three attributes of the passes 1, 2 and 2 one is of a pass up to 1, and all are of a pass up to 2
pub one_up_to_first : count_up_to 1 (1 ∷ 2 ∷ 2 ∷ []) ≡ 1
one_up_to_first = refl

pub three_up_to_second : count_up_to 2 (1 ∷ 2 ∷ 2 ∷ []) ≡ 3
three_up_to_second = refl

-- of three attributes of the passes 2, 1 and 1, the last two have the two values in the file of pass 1
pub placed_first : listed_value 1 (2 ∷ 1 ∷ 1 ∷ []) (Num (pos 7) ∷ Num (pos 8) ∷ []) 1 ≡ Num (pos 7)
placed_first = refl

pub placed_second : listed_value 1 (2 ∷ 1 ∷ 1 ∷ []) (Num (pos 7) ∷ Num (pos 8) ∷ []) 2 ≡ Num (pos 8)
placed_second = refl
