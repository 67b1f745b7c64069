use Rattle.std.proofs.Common.{false, length}
use Rattle.ag_tokens.specs.declared.token.Punctuation.TheVariants as punctuation
use Rattle.ag_text.specs.Reading.{next_name_from, names_from}
use Rattle.ag_text.specs.Meanings.{is_mark}
use Rattle.ag_expr.proofs.reading.Turns.{Going}
use Rattle.ag_text.proofs.parser.names.Given as goal

abbrev pub invariant-loop-alloc : goal.invariant-loop-alloc
invariant-loop-alloc l = Going false (is_mark punctuation.Comma) next_name_from l.names.items l.cursor (names_from l.fn.cursor)

abbrev pub decreases-loop-alloc : goal.decreases-loop-alloc
decreases-loop-alloc l = length l.cursor.left
