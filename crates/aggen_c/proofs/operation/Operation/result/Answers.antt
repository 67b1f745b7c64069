use Rattle.aggen_c.proofs.operation.Operation.result.Goals as goal

pub returns-in-Translate-clause-bytes : goal.returns-in-Translate-clause-bytes
returns-in-Translate-clause-bytes c = rw c.in-Translate.is c.translation.ensures.text

pub returns-in-Evaluate-clause-bytes : goal.returns-in-Evaluate-clause-bytes
returns-in-Evaluate-clause-bytes c = rw c.in-Evaluate.is c.evaluation.ensures.text

pub returns-in-Parse-clause-bytes : goal.returns-in-Parse-clause-bytes
returns-in-Parse-clause-bytes c = rw c.in-Parse.is c.tree_file.ensures.file

pub returns-in-Plan-clause-bytes : goal.returns-in-Plan-clause-bytes
returns-in-Plan-clause-bytes c = rw c.in-Plan.is c.plan_text.ensures.text
