-- The indexes of occurrences by place and name. All definitions are this project's.
use Rattle.std.specs.Prelude.{ℕ, ◌≡◌, ◌&&◌, ◌==◌, Bool, List, bytes_eq}
use Rattle.std.specs.HashMap.{HashMap, get}
use Rattle.std.specs.Borrow.{Bor}
use Rattle.ag_grammar.specs.declared.syntax.occurrence.Occ.{Occ}
use Rattle.ag_expr.specs.language.Occurrences.{position_of}

-- a place and a borrowed name
abbrev pub Key : Type 0
Key = ℕ × Bor (List ℕ)

-- two keys have the same place and the same name
abbrev pub same_key : Key → Key → Bool
same_key x y = x.0 == y.0 && bytes_eq x.1.now y.1.now

-- the map contains, for each place and name, the index of the first such occurrence in the list, if there is one; S is the type
-- of the map's hasher, which has no effect on what the map contains
abbrev pub AreIndexesOf : {S : Type 0} → HashMap Key ℕ S → List Occ → Type 0
AreIndexesOf numbers listed = (key : Key) → get same_key numbers key ≡ position_of listed key.0 key.1.now
