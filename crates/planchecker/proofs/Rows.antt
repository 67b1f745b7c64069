-- For a number beyond the symbols and beyond the rows of an assignment, the row is empty, as it has to be.
use Rattle.planchecker.proofs.Common
use Common.{ℕ, ◌≡◌, ◌≤◌, List, [], Some, slice_get, length, refl, get_or_past, symbol_kinds, passes_of, IsRow}
use Rattle.std.proofs.lemmas.Option.{slice_get_past}
use Rattle.ag_grammar.specs.declared.grammar.Symbol.{Symbol}

pub rows_past : (symbols : List Symbol) (rows : List (List ℕ)) (s : ℕ) → length symbols ≤ s → length rows ≤ s
    → IsRow (length (symbol_kinds (slice_get symbols s))) (passes_of rows s)
rows_past symbols rows s a b = rw (slice_get_past symbols s a) (rw (get_or_past rows s [] b) (record {
  len = refl;
  in_range = λ i k e. absurd (let is : slice_get {X = ℕ} [] i ≡ Some k = e in let bad : ⊥ = cc in bad);
}))
