-- The parts of the checks of names, and the bounds of the numbers in a grammar whose names are right.
use Rattle.normalform.proofs.Common
use Common.{◌≡◌, ◌<◌, ◌++◌, [], ◌∷◌, length, None, All, All-cons, All-nil, RawGrammar, first_wrong, unknown_checks}
use Common.{doubled_checks, start_checks, naming_checks, resolved_productions, IsClauseBelow, IsEdgeBelow}
use Rattle.normalform.proofs.found.Reduced.{symbols, clauses, edges, clauses_below, edges_below, start, start_below}
use Rattle.normalform.proofs.found.Right.{both_right}

-- the parts of the checks of names
pub naming_parts : (raw : RawGrammar) → first_wrong (naming_checks raw) ≡ None
    → (first_wrong (unknown_checks (symbols raw) (resolved_productions raw)) ≡ None) × (first_wrong (doubled_checks raw.symbols) ≡ None)
    × (first_wrong (start_checks (symbols raw) raw.start) ≡ None)
naming_parts raw h =
    let unknown = unknown_checks (symbols raw) (resolved_productions raw) in
    let w = both_right (unknown ++ doubled_checks raw.symbols) _ h in
    let v = both_right unknown _ w.0 in (v.0, v.1, w.1)

pub bounded : (raw : RawGrammar) → first_wrong (naming_checks raw) ≡ None
    → All (IsClauseBelow (length (symbols raw))) (clauses raw)
bounded raw h = clauses_below (symbols raw) raw.productions (naming_parts raw h).0

pub edges_bounded : (raw : RawGrammar) → first_wrong (naming_checks raw) ≡ None
    → All (IsEdgeBelow (length (symbols raw))) (edges raw)
edges_bounded raw h = edges_below (length (symbols raw)) (clauses raw) (bounded raw h)

pub start_bounded : (raw : RawGrammar) → first_wrong (naming_checks raw) ≡ None
    → All (λ t. t < length (symbols raw)) (start raw ∷ [])
start_bounded raw h =
    All-cons (λ t. t < length (symbols raw)) (start raw) [] (start_below (symbols raw) raw.start (naming_parts raw h).2)
    (All-nil _)
