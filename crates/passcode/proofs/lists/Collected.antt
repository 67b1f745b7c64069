-- The lists of a production, and those of all productions, as they are collected.
use Rattle.passcode.proofs.Common
use Common.{ℕ, ◌≡◌, ◌+◌, ◌-◌, ◌⊎◌, ◌++◌, List, [], ◌∷◌, Some, slice_get, get_or, length, inl, inr, ap, ◌∙◌, sym, arith}
use Common.{slice_get-get_or, slice_get_within, Each, Production, Grammar, Passes, Instr, AreGeneratedLists}
use Common.{generated_list, Lists, row_of, rows_of}
use Rattle.std.proofs.lemmas.List.{map_push, length-map}
use Rattle.std.specs.Global.{Vec}
use Rattle.passassign.proofs.slots.Lists.{get_push_cases}

-- these are lists of a production, from pass 1
abbrev pub AreGenerated : Passes → Production → List (List Instr) → Type 0
AreGenerated m q lists = (i : ℕ) (xs : List Instr) → slice_get lists i ≡ Some xs → xs ≡ generated_list m q (i + 1)

-- if the first n lists of a production are the generated ones, and list n + 1 is, then all n + 1 lists are
pub lists_more : (m : Passes) (q : Production) (n : ℕ) (lists new : List (Vec Instr)) (one : Vec Instr) → new ≡ lists ++ one ∷ []
    → length lists ≡ n → one.items ≡ generated_list m q (n + 1) → AreGenerated m q (row_of lists) → AreGenerated m q (row_of new)
lists_more m q n lists new one put len here before i xs is =
    elim (get_push_cases (row_of lists) one.items xs i (rw (put, map_push) at is)) [
      | inl old ↦ before i xs old
      | inr last ↦ (let at : i ≡ n = omega (arith, length-map lists (λ (v : Vec Instr). v.items)) in rw (sym last.1, at) here)
    ]

-- The rows of some productions: each has as many lists as there are passes, which are generated.
pub record AreCollected (m : Passes) (passes : ℕ) (productions : List Production) (rows : Lists) : Type 0 where
  pub lengths : Each (λ row. length row ≡ passes) rows
  pub lists : (p : ℕ) (q : Production) (row : List (List Instr)) → slice_get productions p ≡ Some q → slice_get rows p ≡ Some row
      → AreGenerated m q row

pub rows_more : (m : Passes) (passes n : ℕ) (productions : List Production) (q : Production) (rows new : List (Vec (Vec Instr)))
    (one : Vec (Vec Instr)) → new ≡ rows ++ one ∷ [] → length rows ≡ n → slice_get productions n ≡ Some q
    → length one.items ≡ passes → AreGenerated m q (row_of one.items) → AreCollected m passes productions (rows_of rows)
    → AreCollected m passes productions (rows_of new)
rows_more m passes n productions q rows new one put len this many here before = record { lengths = lengths; lists = lists }
  where
    cases : (p : ℕ) (row : List (List Instr)) → slice_get (rows_of new) p ≡ Some row → (slice_get (rows_of rows) p ≡ Some row)
        ⊎ ((p ≡ length (rows_of rows)) × (row_of one.items ≡ row))
    cases p row is = get_push_cases (rows_of rows) (row_of one.items) row p (rw (put, map_push) at is)

    lengths : Each (λ row. length row ≡ passes) (rows_of new)
    lengths p row is = elim (cases p row is) [
      | inl old ↦ before.lengths p row old
      | inr last ↦ ap length (sym last.1) ∙ length-map one.items _ ∙ many
    ]

    lists : (p : ℕ) (w : Production) (row : List (List Instr)) → slice_get productions p ≡ Some w
        → slice_get (rows_of new) p ≡ Some row → AreGenerated m w row
    lists p w row at is = elim (cases p row is) [
      | inl old ↦ before.lists p w row at old
      | inr last ↦ (
          let place : p ≡ n = omega (arith, length-map rows (λ (v : Vec (Vec Instr)). row_of v.items)) in
          let same : w ≡ q = cc in
          rw (same, sym last.1) here)
    ]

module _ (g : Grammar) (m : Passes) (passes : ℕ) (code : Lists) (many : length code ≡ length g.productions)
    (all : AreCollected m passes g.productions code) where
  pub collected_lists : AreGeneratedLists g m code
  collected_lists p k q xs at is =
      let less = slice_get_within g.productions p q at in
      let same : k - 1 + 1 ≡ k = omega arith in
      rw same at (all.lists p q (get_or code p []) at (slice_get-get_or code p [] (omega arith)) (k - 1) xs is.1)
