use Rattle.std.proofs.Common.{chars, drop}
use Rattle.ag_text.specs.Resuming.{rest_from}
use Rattle.ag_text.proofs.Continued.{noted_err, noted_ok}
use Rattle.ag_text.proofs.resuming.read_further.Goals as goal

pub returns-in-Ok : goal.returns-in-Ok
returns-in-Ok c =
    noted_ok c.args.text.now rest_from c.args.from (chars (drop c.args.from c.args.text.now)) c.at-cursor.result
    c.at-cursor.ensures c.args.faults.now.items _ _ c.in-Ok.ensures

pub returns-in-Err : goal.returns-in-Err
returns-in-Err c =
    noted_err c.args.text.now rest_from c.args.from (chars (drop c.args.from c.args.text.now)) c.at-cursor.result
    c.at-cursor.ensures c.in-Err.fault c.args.faults.now.items c.push_fault.new.faults.items c.push_fault.result c.in-Err.ensures
    c.push_fault.ensures.known c.push_fault.ensures.pushed c.push_fault.ensures.next
