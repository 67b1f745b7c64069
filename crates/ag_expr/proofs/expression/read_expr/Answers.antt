use Rattle.ag_expr.proofs.language.Texts.{read_to, reads_as, refuses_of, first_of, offsets_of}
use Rattle.ag_expr.proofs.expression.read_expr.Goals as goal

pub returns-clause-exact : goal.returns-clause-exact
returns-clause-exact c =
    read_to c.args.text.now 0 _ c.new.ensures c.whole.result (rw c.new-2.ensures at c.whole.ensures)

pub returns-clause-first : goal.returns-clause-first
returns-clause-first c = first_of c.args.text.now c.whole.result (returns-clause-exact c)

pub returns-clause-reads : goal.returns-clause-reads
returns-clause-reads c = reads_as c.args.text.now c.whole.result c.utf8.text (returns-clause-exact c)

pub returns-clause-refuses : goal.returns-clause-refuses
returns-clause-refuses c = refuses_of c.args.text.now c.whole.result (returns-clause-exact c)

pub returns-clause-offsets : goal.returns-clause-offsets
returns-clause-offsets c = offsets_of c.args.text.now c.whole.result (returns-clause-exact c)
