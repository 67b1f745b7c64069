-- Examples of listings for the grammar `sample` of ag_grammar, `R = A A` with the attributes R.out, A.s and A.i.
use Rattle.std.specs.Prelude.{ℕ, List, [], ◌∷◌, codes}

-- an assignment: all attributes belong to pass 1, which goes from right to left
abbrev pub sample_rows : List (List ℕ)
sample_rows = (1 ∷ []) ∷ (1 ∷ 1 ∷ []) ∷ []

-- the listing of the passes of that assignment
abbrev pub sample_plan : List ℕ
sample_plan = codes "pass 1 right-to-left: R.out A.s A.i\n"

-- the line of production 0, `R = A A`, and pass 1
abbrev pub sample_line : List ℕ
sample_line = codes "0 pass 1: get 2, set 2.i rule 2, go 2, put 2, get 1, set 1.i rule 1, go 1, put 1, def out rule 0, end\n"
