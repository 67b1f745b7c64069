use Rattle.std.proofs.Common.{List, sym, subst}
use Rattle.grammar_commands.specs.FaultLists.{AreReported}
use Rattle.ag_fault.specs.declared.fault.Fault.{Fault}
use Rattle.grammar_commands.proofs.faults.report_each.Goals as goal

pub loop-fault-preserved : goal.loop-fault-preserved
loop-fault-preserved g c = λ new then.
    let report = c.of_read_grammar-report.result in
    c.loop-fault.invariant new
    (subst (λ (es : List Fault). AreReported es c.loop-fault.session new) (sym c.in-Some.ensures.steps.0)
    (report, c.report.new.self, c.of_read_grammar-report.ensures, c.report.ensures, then))
