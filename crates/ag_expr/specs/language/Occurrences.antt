-- The distinct occurrences of attributes in a text. All definitions are this project's.
use Rattle.std.specs.Prelude.{ℕ, Bool, not, ◌&&◌, ◌==◌, cond, List, [], ◌∷◌, ◌++◌, filter, Option, position, bytes_eq}
use Rattle.std.specs.List.{list_any}
use Rattle.ag_tokens.specs.PlacedToken.{PlacedToken}
use Rattle.ag_tokens.specs.GrammarToken.{GrammarToken}
use Rattle.ag_tokens.specs.GrammarToken as token
use Rattle.ag_grammar.specs.declared.syntax.occurrence.Occ.{Occ}

-- an occurrence has this place and this name
abbrev pub is_of : ℕ → List ℕ → Occ → Bool
is_of place attr occurrence = occurrence.place == place && bytes_eq occurrence.attr attr

-- the index of the first occurrence with this place and this name
abbrev pub position_of : List Occ → ℕ → List ℕ → Option ℕ
position_of listed place attr = position (is_of place attr) listed

-- the occurrence for a token at an offset, if the token is one
abbrev pub occurrence_in : GrammarToken → ℕ → List Occ
occurrence_in (token.Occurrence place attr) at = record { place = place; attr = attr; at = at } ∷ []
occurrence_in _ at = []

-- all occurrences among tokens, in order
abbrev pub all_occurrences : List PlacedToken → List Occ
all_occurrences [] = []
all_occurrences (p ∷ ps) = occurrence_in p.token p.at ++ all_occurrences ps

-- the first occurrence of each place and name, in order
abbrev pub distinct_occurrences : List Occ → List Occ
distinct_occurrences [] = []
distinct_occurrences (x ∷ xs) = x ∷ filter (λ y. not (is_of y.place y.attr x)) (distinct_occurrences xs)

-- the list with one more occurrence; the list itself if the occurrence's place and name are listed already
abbrev pub listed_with : List Occ → Occ → List Occ
listed_with so_far x = cond (list_any (is_of x.place x.attr) so_far) so_far (so_far ++ x ∷ [])

-- the list with further occurrences
abbrev pub listed_with_all : List Occ → List Occ → List Occ
listed_with_all so_far [] = so_far
listed_with_all so_far (x ∷ xs) = listed_with_all (listed_with so_far x) xs
