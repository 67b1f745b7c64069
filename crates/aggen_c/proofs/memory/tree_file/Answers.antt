use Rattle.aggen_c.proofs.Results.{has_tree_file, tree_refused}
use Rattle.aggen_c.proofs.memory.tree_file.Goals as goal

pub returns-in-Ok-clause-file : goal.returns-in-Ok-clause-file
returns-in-Ok-clause-file c =
    let made = c.in-Ok.ensures in
    has_tree_file c.args.translator.now c.args.sentence.now c.parse_tree.new.device c.bytes.result.now
    c.in_ok-file-in-Ok.file.items
    made.tree c.parse_tree.ensures.one made.limits made.file c.bytes.ensures c.in_ok-file-in-Ok.ensures.copy

pub returns-clause-refused : goal.returns-clause-refused
returns-clause-refused c =
    let fault = c.memory_fault in
    tree_refused c.args.translator.now c.args.sentence.now c.in-Err.fault fault.result c.in-Err.ensures.refused fault.ensures.same
    fault.ensures.device
