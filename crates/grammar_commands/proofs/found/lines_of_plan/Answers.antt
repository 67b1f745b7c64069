use Rattle.std.proofs.Common.{[], rules}
use Rattle.grammar_commands.proofs.found.lines_of_plan.Goals as goal

pub returns-in-Ok-assign : goal.returns-in-Ok-assign
returns-in-Ok-assign c = record {
  grammar = c.in-Ok.grammar;
  is_of = c.in-Ok.ensures.grammar;
  first = c.in_ok-lines.lines.items;
  last = [];
  conflicts = c.in_ok-lines.ensures;
  stuck = (_, c.in-Ok-assign.ensures.least.legal);
  is = search rules;
}
