use Rattle.ag_eval.proofs.Common.{ap, scalar_value}
use Rattle.ag_eval.proofs.Arguments.{right_is_fault}
use Rattle.ag_eval.proofs.calls.apply_to_number.Goals as goal

pub returns-in-Fault : goal.returns-in-Fault
returns-in-Fault c =
    right_is_fault c.args.operator c.args.m (scalar_value c.args.right) c.in-Fault.code (ap scalar_value c.in-Fault.is)
