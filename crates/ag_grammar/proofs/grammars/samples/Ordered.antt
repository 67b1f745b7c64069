-- Sample grammars that are in order, and some that are not.
use Rattle.ag_grammar.proofs.Common.{zero, suc, ◌≡◌, [], ◌∷◌, refl, arith}
use Rattle.ag_grammar.specs.grammars.Order.{IsInOrder, IsInOrderOfAppearance}
use Rattle.ag_grammar.specs.grammars.Sample.{both_ways, back_first, token_sample}

one_number : IsInOrderOfAppearance (0 ∷ [])
one_number zero n m e lt = let z : 0 ≡ n = cc in absurd (omega arith)
one_number (suc i) n m e lt = absurd (cc)

two_numbers : IsInOrderOfAppearance (0 ∷ 1 ∷ [])
two_numbers zero n m e lt = let z : 0 ≡ n = cc in absurd (omega arith)
two_numbers (suc zero) n zero e lt = (0, refl)
two_numbers (suc zero) n (suc m) e lt = let z : 1 ≡ n = cc in absurd (omega arith)
two_numbers (suc (suc i)) n m e lt = absurd (cc)

pub two_literals : IsInOrder both_ways
two_literals = record { classes = λ k lt. absurd (omega arith); literals = two_numbers }

pub exchanged : IsInOrder back_first → ⊥
exchanged o = let h = o.literals 0 1 0 refl (omega arith) in let e = h.1 in absurd (cc)

pub one_class : IsInOrder token_sample
one_class = record { classes = λ k lt. absurd (omega arith); literals = one_number }
