-- The meaning of one token in a grammar's text (this project's).
use Rattle.std.specs.Prelude.{ℕ, ◌==◌, ◌&&◌, length, Bool, not, cond, if◌then◌else◌, List, [], ◌∷◌, Option, Some, None, bytes_eq}
use Rattle.std.specs.Prelude.{codes}
use Rattle.std.specs.List.{list_any}
use Rattle.ag_tokens.specs.declared.token.Punctuation.{Punctuation}
use Rattle.ag_grammar.specs.declared.syntax.occurrence.Occ.{Occ}
use Rattle.ag_tokens.specs.Parsing.{is_sign}
use Rattle.ag_tokens.specs.GrammarToken.{GrammarToken, mark, word}
use Rattle.ag_tokens.specs.GrammarToken as token
use Rattle.ag_tokens.specs.Tokens.{is_separator}
use Rattle.ag_grammar.specs.declared.raw.Named.{Named}
use Rattle.ag_grammar.specs.grammars.Accepted.{name_class, number_class, text_class}
use Rattle.ag_grammar.specs.declared.raw.RawItem.{RawItem}
use Rattle.ag_grammar.specs.declared.raw.RawItem.TheVariants as item

-- the names that cannot be names of symbols or attributes
abbrev pub reserved : List (List ℕ)
reserved = codes "start" ∷ codes "symbol" ∷ codes "syn" ∷ codes "inh" ∷ codes "NAME" ∷ codes "NUMBER" ∷ codes "TEXT" ∷ []

abbrev pub is_reserved : List ℕ → Bool
is_reserved name = list_any (bytes_eq name) reserved

-- `Some a` if b is true, else `None`
abbrev pub some_if : {A : Type 0} → Bool → A → Option A
some_if b a = if b then Some a else None

-- whether the token is this punctuation, or this reserved name
abbrev pub is_mark : Punctuation → GrammarToken → Bool
is_mark m = is_sign (mark m)

abbrev pub is_word : List ℕ → GrammarToken → Bool
is_word w = is_sign (word w)

-- the meaning of a token that is this punctuation, or this reserved name: `tt`, the only value of `Unit`; other tokens have none
abbrev pub mark_in : Punctuation → ℕ → GrammarToken → Option (Unit {0})
mark_in m at t = some_if (is_mark m t) tt

abbrev pub word_in : List ℕ → ℕ → GrammarToken → Option (Unit {0})
word_in w at t = some_if (is_word w t) tt

-- a name that is not reserved, with its offset
abbrev pub named : ℕ → List ℕ → Option Named
named at name = some_if (not (is_reserved name)) (record { name = name; at = at })

-- the same for a token
abbrev pub name_in : ℕ → GrammarToken → Option Named
name_in at (token.Name name) = named at name
name_in at _ = None

-- whether the bytes can be a literal: they are not empty and contain no separator
abbrev pub is_literal : List ℕ → Bool
is_literal bytes = not (length bytes == 0) && not (list_any is_separator bytes)

-- the item of a literal, if the bytes can be one
abbrev pub literal_of : List ℕ → Option RawItem
literal_of bytes = some_if (is_literal bytes) (item.Literal bytes)

-- the token class with this reserved name
abbrev pub class_of : List ℕ → Option ℕ
class_of name =
    cond (bytes_eq name (codes "NAME")) (Some name_class)
    (cond (bytes_eq name (codes "NUMBER")) (Some number_class) (cond (bytes_eq name (codes "TEXT")) (Some text_class) None))

-- the item of the class if there is a class, else the item of the name if there is a name
abbrev pub class_or_name : Option ℕ → Option Named → Option RawItem
class_or_name (Some class) name = Some (item.Class class)
class_or_name None (Some name) = Some (item.Name name)
class_or_name None None = None

-- an item of a right side: a class, a name or a literal
abbrev pub item_in : ℕ → GrammarToken → Option RawItem
item_in at (token.Name name) = class_or_name (class_of name) (named at name)
item_in at (token.Text bytes) = literal_of bytes
item_in at _ = None

-- the target of a rule: an occurrence, with its offset
abbrev pub target_in : ℕ → GrammarToken → Option Occ
target_in at (token.Occurrence place attr) = Some (record { place = place; attr = attr; at = at })
target_in at _ = None
