-- The rows of a table, as they are made one after the other.
use Rattle.passassign.proofs.Common
use Common.{ℕ, ◌≡◌, ◌<◌, ◌≤◌, ◌+◌, ◌*◌, ◌++◌, List, [], ◌∷◌, Some, slice_get, length, unwrap_or, inl, inr, arith, cases_eq}
use Common.{cases_lt, get_or_append_left, get_or_push, map-append, slice_get_past, slice_get_within, get_or-eq_default}
use Common.{length-append, Vec, Symbol, attribute_names, numbers_of, passes_of, state_at, slot_of, pass_of_state, attribute_count}
use Common.{AreRowsOfTable, State}

-- the rows of the first n symbols
pub record AreRowsBelow (symbols : List Symbol) (states : List State) (n : ℕ) (rows : List (List ℕ)) : Type 0 where
  pub count : length rows ≡ n
  pub within : n ≤ length symbols
  pub len : (s : ℕ) → s < n → length (passes_of rows s) ≡ attribute_count (slice_get symbols s)
  pub passes : (s a : ℕ) → s < n → a < attribute_count (slice_get symbols s)
      → slice_get (passes_of rows s) a ≡ Some (unwrap_or (pass_of_state (state_at states (slot_of s a))) 0)

rows_push : (rows : List (List ℕ)) (row : List ℕ) (symbols : List Symbol) (states : List State) (n : ℕ) (symbol : Symbol)
    → slice_get symbols n ≡ Some symbol → length row ≡ length (attribute_names symbol)
    → ((a : ℕ) → a < length (attribute_names symbol)
    → slice_get row a ≡ Some (unwrap_or (pass_of_state (state_at states (n * 16 + a))) 0))
    → AreRowsBelow symbols states n rows
    → AreRowsBelow symbols states (n + 1) (rows ++ row ∷ [])
rows_push rows row symbols states n symbol is count has h =
    record { count = more; within = omega (arith, slice_get_within symbols n symbol is); len = len; passes = passes }
  where
    more : length (rows ++ row ∷ []) ≡ n + 1
    more = omega (arith, length-append rows (row ∷ []), h.count)

    same : (s : ℕ) → s < n → passes_of (rows ++ row ∷ []) s ≡ passes_of rows s
    same s lt = get_or_append_left rows (row ∷ []) [] s (omega arith)

    here : (s : ℕ) → s ≡ n → passes_of (rows ++ row ∷ []) s ≡ row
    here s e = get_or_push rows row [] s cc

    symbol_here : (s : ℕ) → s ≡ n → attribute_count (slice_get symbols s) ≡ length (attribute_names symbol)
    symbol_here s e = rw (e, is)

    len : (s : ℕ) → s < n + 1 → length (passes_of (rows ++ row ∷ []) s) ≡ attribute_count (slice_get symbols s)
    len s lt = elim (cases_eq s n) [
      | inl e ↦ cc (here s e, symbol_here s e)
      | inr ne ↦ (let l : s < n = omega arith in rw (same s l) (h.len s l))
    ]

    passes : (s a : ℕ) → s < n + 1 → a < attribute_count (slice_get symbols s)
        → slice_get (passes_of (rows ++ row ∷ []) s) a ≡ Some (unwrap_or (pass_of_state (state_at states (slot_of s a))) 0)
    passes s a lt less = elim (cases_eq s n) [
      | inl e ↦ rw (here s e, e) (has a (rw (symbol_here s e) at less))
      | inr ne ↦ (let l : s < n = omega arith in rw (same s l) (h.passes s a l less))
    ]

pub rows_more : (table rest : List (Vec ℕ)) (row : Vec ℕ) (symbols : List Symbol) (states : List State) (n : ℕ) (symbol : Symbol)
    → rest ≡ table ++ row ∷ [] → slice_get symbols n ≡ Some symbol → length row.items ≡ length (attribute_names symbol)
    → ((a : ℕ) → a < length (attribute_names symbol)
    → slice_get row.items a ≡ Some (unwrap_or (pass_of_state (state_at states (n * 16 + a))) 0))
    → AreRowsBelow symbols states n (numbers_of table)
    → AreRowsBelow symbols states (n + 1) (numbers_of rest)
rows_more table rest row symbols states n symbol e is count has h =
    rw (e, map-append)
    (rows_push (numbers_of table) row.items symbols states n symbol is count has h)

pub rows_end : {symbols : List Symbol} {states : List State} {n : ℕ} {rows : List (List ℕ)} → length symbols ≤ n
    → AreRowsBelow symbols states n rows → AreRowsOfTable symbols states rows
rows_end {symbols} {states} {n} {rows} most h =
    record { count = omega arith; len = len; passes = passes }
  where
    none : (s : ℕ) → n ≤ s → attribute_count (slice_get symbols s) ≡ 0
    none s le = rw (slice_get_past symbols s (omega arith))

    len : (s : ℕ) → length (passes_of rows s) ≡ attribute_count (slice_get symbols s)
    len s = elim (cases_lt s n) [
      | inl lt ↦ h.len s lt
      | inr le ↦ cc (get_or-eq_default rows [] {n = s} (omega arith), none s le)
    ]

    passes : (s a : ℕ) → a < attribute_count (slice_get symbols s)
        → slice_get (passes_of rows s) a ≡ Some (unwrap_or (pass_of_state (state_at states (slot_of s a))) 0)
    passes s a less = elim (cases_lt s n) [
      | inl lt ↦ h.passes s a lt less
      | inr le ↦ absurd (omega (arith, none s le))
    ]
