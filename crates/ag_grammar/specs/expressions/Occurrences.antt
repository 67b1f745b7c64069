-- The occurrences of attributes in an expression. All definitions are this project's.
use Rattle.std.specs.Prelude.{◌≡◌, List}
use Rattle.std.specs.List.{AllPairs}
use Rattle.ag_grammar.specs.declared.syntax.occurrence.Occ.{Occ}

-- two occurrences differ in their place or in their name
abbrev pub AreApart : Occ → Occ → Type 0
AreApart x y = x.place ≡ y.place → x.attr ≡ y.attr → ⊥

-- no two occurrences of a list have the same place and the same name
abbrev pub AreDifferent : List Occ → Type 0
AreDifferent = AllPairs AreApart
