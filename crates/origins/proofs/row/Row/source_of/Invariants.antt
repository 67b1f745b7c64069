use Rattle.origins.proofs.Common.{◌≡◌, true, table_of}
use Rattle.origins.specs.Causes.{is_still}
use Rattle.origins.proofs.row.Row.source_of.Given as goal

abbrev pub invariant-loop-number : goal.invariant-loop-number
invariant-loop-number l = is_still l.rule (table_of l.self.grammar.now l.self.production.now l.self.values.now) l.number ≡ true
