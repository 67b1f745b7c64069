use Rattle.causes.proofs.Common.{inr}
use Rattle.causes.proofs.chain.Chain.step.Goals as goal

pub returns-in-None-2-clause-stops : goal.returns-in-None-2-clause-stops
returns-in-None-2-clause-stops g c = λ nothing honest.
    let read = rw (c.in-Some-Passes.is, c.in-Some-Passes.field-0-is) at c.in_ok-argument.ensures.next in
    inr (inr (record {
      argument = c.in-Some-Passes.argument;
      passes = read honest;
      nowhere = rw c.in-None-2.is at c.in_ok-next-in-Some-Passes.ensures.none;
    }))
