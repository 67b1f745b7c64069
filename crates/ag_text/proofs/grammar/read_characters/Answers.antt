use Rattle.ag_text.proofs.Read.{read_ok, read_err}
use Rattle.ag_text.proofs.grammar.read_characters.Goals as goal

pub returns-in-Ok : goal.returns-in-Ok
returns-in-Ok c = read_ok c.args.text.now _ _ _ c.new-cursor.ensures c.in-Ok.ensures

pub returns-in-Err : goal.returns-in-Err
returns-in-Err c = read_err c.args.text.now _ _ _ c.fault_of_stop.ensures c.new-cursor.ensures c.in-Err.ensures
