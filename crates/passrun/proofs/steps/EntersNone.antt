-- The states in which the pass does not enter a child next.
use Rattle.passrun.proofs.Common
use Common.{◌≡◌, false, List, [], ◌∷◌, refl, Production, Instr, Got, Setting, goes_next}
use Common.instr
use Rattle.passcode.specs.Course.{Runs, State, after}

-- If no record was read since the pass left a child, or since the node's own record was read, the pass enters
-- no child before it reads the next record.
pub goes_nowhere : (c : Setting) (q : Production) (state : State) (xs : List Instr) → (state.phase ≡ Got → ⊥)
    → Runs c.passes q c.write state xs → goes_next xs ≡ false
goes_nowhere c q state [] apart runs = refl
goes_nowhere c q state (instr.Get j ∷ xs) apart runs = refl
goes_nowhere c q state (instr.Set j a r ∷ xs) apart runs = absurd (apart runs.0.0.phase_is)
goes_nowhere c q state (instr.Go j ∷ xs) apart runs = absurd (apart runs.0.0.phase_is)
goes_nowhere c q state (instr.Put j ∷ xs) apart runs = refl
goes_nowhere c q state (instr.Def a r ∷ xs) apart runs = goes_nowhere c q (after q state (instr.Def a r)) xs apart runs.1
goes_nowhere c q state (instr.End ∷ xs) apart runs = refl
