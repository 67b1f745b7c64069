-- Lemmas on the rows of the clauses that wait for each number.
use Rattle.std.proofs.Common.{ℕ, zero, suc, Contains, ◌+◌, ◌≡◌, ◌<◌, List, [], ◌∷◌, ◌++◌, length, get_or, take, All, refl}
use Rattle.std.proofs.Common.{inl, inr, set, arith, length-set}
use Rattle.std.proofs.lemmas.Bool.{cases_eq}
use Rattle.std.proofs.lemmas.List.{get_or-set_other, get_or-set_same, get_or_default, get_or-map, map-set, take_more}
use Rattle.std.proofs.lemmas.List.Elements.{All-push, Contains-push_cases, Contains-append_left, Contains-push, All-head}
use Rattle.std.proofs.lemmas.List.Elements.{All-tail}
use Rattle.std.specs.Global.{Vec}
use Rattle.closure.specs.declared.clause.Clause.{Clause}
use Rattle.closure.specs.Waiting.{AddsClause, row, rows}

-- `AddsClause` holds if a clause is added to the row of the number `symbol`
pub notes_at : (clause symbol : ℕ) (uses : List (List ℕ)) → symbol < length uses
    → AddsClause clause uses (set uses symbol (row uses symbol ++ clause ∷ []))
notes_at clause symbol uses lt = record {
  same = length-set uses symbol (row uses symbol ++ clause ∷ []);
  kept = λ t p h. elim (cases_eq t symbol) [
    | inl e ↦ rw (e, get_or-set_same uses symbol (row uses symbol ++ clause ∷ []) [] lt)
        (Contains-append_left (row uses symbol) (clause ∷ []) p (rw (← e) h))
    | inr other ↦ rw (get_or-set_other uses symbol t (row uses symbol ++ clause ∷ []) [] other) h
  ];
  fits = λ n below all t. elim (cases_eq t symbol) [
    | inl e ↦ rw (e, get_or-set_same uses symbol (row uses symbol ++ clause ∷ []) [] lt)
        (All-push (λ p. p < n) (row uses symbol) clause (all symbol) below)
    | inr other ↦ rw (get_or-set_other uses symbol t (row uses symbol ++ clause ∷ []) [] other) (all t)
  ];
}

pub noted_at : (clause symbol : ℕ) (uses : List (List ℕ)) → symbol < length uses
    → Contains (row (set uses symbol (row uses symbol ++ clause ∷ [])) symbol) clause
noted_at clause symbol uses lt =
    rw (get_or-set_same uses symbol (row uses symbol ++ clause ∷ []) [] lt) (Contains-push (row uses symbol) clause)

pub row_of : (table : List (Vec ℕ)) (u : ℕ) (v : Vec ℕ) → u < length table → v ≡ get_or table u v → row (rows table) u ≡ v.items
row_of table u v lt is = cc (get_or-map (λ (x : Vec ℕ). x.items) table u v [] lt)

-- the rows of a table in which an entry is added to one row
pub rows_set : (table : List (Vec ℕ)) (u clause : ℕ) (v w : Vec ℕ) → u < length table → v ≡ get_or table u v
    → w.items ≡ v.items ++ clause ∷ [] → rows (set table u w) ≡ set (rows table) u (row (rows table) u ++ clause ∷ [])
rows_set table u clause v w lt is pushed = cc (map-set (λ (x : Vec ℕ). x.items) table u w, row_of table u v lt is)

pub notes_on : (clause : ℕ) (a b c : List (List ℕ)) → AddsClause clause a b → AddsClause clause b c → AddsClause clause a c
notes_on clause a b c m n =
    record {
      same = cc;
      kept = λ t p h. n.kept t p (m.kept t p h);
      fits = λ k below all. n.fits k below (m.fits k below all);
    }

-- the rows of the first i + 1 numbers of a body contain the clause, if those of the first i do, and that of number i does too
pub noted_more : (clause : ℕ) (a b : List (List ℕ)) (body : List ℕ) (i : ℕ) (d : ℕ) → i < length body → AddsClause clause a b
    → ((t : ℕ) → Contains (take i body) t → Contains (row a t) clause)
    → ((t : ℕ) → get_or body i d ≡ t → Contains (row b t) clause) → (t : ℕ) → Contains (take (i + 1) body) t
    → Contains (row b t) clause
noted_more clause a b body i d lt adds before here t h =
    elim (Contains-push_cases (take i body) (get_or body i d) t (rw (← take_more body i d lt) h)) [
      | inl old ↦ adds.kept t clause (before t old)
      | inr e ↦ here t e
    ]

-- each row of a table of empty lists is empty
pub rows_empty : (table : List (Vec ℕ)) → All (λ (v : Vec ℕ). v.items ≡ []) table → (t : ℕ) → row (rows table) t ≡ []
rows_empty [] empty t = refl
rows_empty (v ∷ table) empty zero = All-head (λ (w : Vec ℕ). w.items ≡ []) v table empty
rows_empty (v ∷ table) empty (suc t) = rows_empty table (All-tail (λ (w : Vec ℕ). w.items ≡ []) v table empty) t

-- if the clauses before index `at` are listed in the rows, and clause `at` is added, those before `at + 1` are listed
pub noted_lines : (a b : List (List ℕ)) (clauses : List Clause) (at : ℕ) (q : Clause) (body : List ℕ) → at < length clauses
    → body ≡ (get_or clauses at q).body → AddsClause at a b
    → ((p t : ℕ) (d : Clause) → p < at → Contains (get_or clauses p d).body t → Contains (row a t) p)
    → ((t : ℕ) → Contains body t → Contains (row b t) at)
    → (p t : ℕ) (d : Clause) → p < at + 1 → Contains (get_or clauses p d).body t → Contains (row b t) p
noted_lines a b clauses at q body inside is adds before here p t d lt h = elim (cases_eq p at) [
  | inl e ↦ rw e (here t (rw (is, get_or_default clauses at q d inside, ← e) h))
  | inr other ↦ adds.kept t p (before p t d (omega arith) h)
]
