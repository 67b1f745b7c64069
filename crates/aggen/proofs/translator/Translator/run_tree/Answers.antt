use Rattle.aggen.proofs.Common.{◌≡◌, ◌+◌, ◌-◌, inr, refl, arith, left_again}
use Rattle.aggen.proofs.Composed.{last_pass}
use Rattle.aggen.proofs.Evaluated.{are_left_of_tree, first_refused, never_later}
use Rattle.aggen.proofs.Exits.{at_exit}
use Rattle.aggen.proofs.translator.Translator.run_tree.Goals as goal

-- there is a pass
pub run_pass-requires-clause-last : goal.run_pass-requires-clause-last
run_pass-requires-clause-last g c = last_pass c.grammar-grammar.ensures.accepted c.requires.least.plan

pub run_all-requires-clause-last : goal.run_all-requires-clause-last
run_all-requires-clause-last g c = let last = last_pass c.grammar-grammar.ensures.accepted c.requires.least.plan in
    (last.0, last.1, omega (arith, last.2))

pub returns-in_err-first-clause-refused : goal.returns-in_err-first-clause-refused
returns-in_err-first-clause-refused g c =
    at_exit _ _ _ c.from_residual.ensures
    (first_refused c.grammar-grammar.ensures.accepted c.requires.least.plan c.in_err-first.field-0.0 _ _ _ _
    (rw c.grammar-grammar.ensures.grammar at c.in_err-first.ensures.refused))

pub returns-in_err-last-clause-refused : goal.returns-in_err-last-clause-refused
returns-in_err-last-clause-refused g c =
    let passed = rw c.grammar-grammar.ensures.grammar at c.in_ok-first.ensures.passed in
    at_exit _ _ _ c.from_residual-in_err-last.ensures
    (never_later c.grammar-grammar.ensures.accepted c.requires.least.plan c.in_err-last.field-0.0 _ _ _ _
    (λ x z. passed x (c.in_err-last.ensures.devices.first.honest z))
    (rw c.grammar-grammar.ensures.grammar at c.in_err-last.ensures.refused))

-- all passes ran over the one tree of the file
pub returns-clause-left : goal.returns-clause-left
returns-clause-left g c =
    let greatest = rw c.assignment.ensures at c.passes.ensures in
    let evals : c.count.result ≡ (c.run_pass.new.meter - c.new-meter.result) + (c.run_all.new.meter - c.run_pass.new.meter) =
    omega (arith, c.new-meter.ensures, c.count.ensures, c.in_ok-first.ensures.meter, c.in_ok-last.ensures.meter) in
    let passed = rw c.grammar-grammar.ensures.grammar at c.in_ok-first.ensures.passed in
    let ran = rw c.grammar-grammar.ensures.grammar at (c.in_ok-last.ensures.passed c.passes.result greatest) in
    record {
      greatest = greatest;
      left = λ t x y.
          are_left_of_tree c.grammar-grammar.ensures.accepted c.requires.least.plan c.in_ok-first.first greatest
          (passed t (c.in_ok-last.ensures.devices.first.honest y)) c.in_ok-first.ensures.counts (ran y x) c.other.ensures refl
          evals refl refl;
    }

-- the contents of the devices: the passes from 2 on use `b` first
pub returns-in_err-first-clause-b_left : goal.returns-in_err-first-clause-b_left
returns-in_err-first-clause-b_left g c = λ h. (1, c.in_err-first.ensures.left h)

pub returns-in_err-last-clause-b_left : goal.returns-in_err-last-clause-b_left
returns-in_err-last-clause-b_left g c = λ h.
    left_again _ _ _ (1, inr (c.in_ok-first.ensures.begins (c.in_err-last.ensures.devices.first.honest h)))
    (c.in_err-last.ensures.a_left h)

pub returns-clause-b_left : goal.returns-clause-b_left
returns-clause-b_left g c = λ h.
    left_again _ _ _ (1, inr (c.in_ok-first.ensures.begins (c.in_ok-last.ensures.devices.first.honest h)))
    (c.in_ok-last.ensures.a_left h)
