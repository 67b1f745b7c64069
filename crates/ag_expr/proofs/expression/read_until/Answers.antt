use Rattle.ag_expr.proofs.language.Until.{is_read, first_until, reads_until, refuses_until, offsets_until}
use Rattle.ag_expr.proofs.expression.read_until.Goals as goal

pub returns-clause-exact : goal.returns-clause-exact
returns-clause-exact c = is_read c.args.text.now c.args.from _ c.at-cursor.ensures _ _ c.read_ended.ensures

pub returns-clause-first : goal.returns-clause-first
returns-clause-first c = first_until c.args.text.now c.args.from _ (returns-clause-exact c)

pub returns-clause-reads : goal.returns-clause-reads
returns-clause-reads c = reads_until c.args.text.now c.args.from _ c.at-cursor.ensures _ (returns-clause-exact c)

pub returns-clause-refuses : goal.returns-clause-refuses
returns-clause-refuses c = refuses_until c.args.text.now c.args.from _ c.at-cursor.ensures _ (returns-clause-exact c)

pub returns-clause-offsets : goal.returns-clause-offsets
returns-clause-offsets c = offsets_until c.args.text.now c.args.from _ c.at-cursor.ensures _ (returns-clause-exact c)
