use Rattle.std.proofs.Common.{Err, ap, refl, subst, sym}
use Rattle.grammar_commands.proofs.Values.{none_risen, value_fault}
use Rattle.grammar_commands.specs.Listings.{IsValueFault}
use Rattle.grammar_commands.proofs.listings.line_of_value.Goals as goal

pub returns-clause-refused : goal.returns-clause-refused
returns-clause-refused c =
    let is = c.in-Err.ensures in
    subst (IsValueFault c.args.text.now) (sym c.in_memory.ensures.exact)
    (value_fault c.args.text.now c.in-Err.fault is.kinds (is.undamaged refl) is.offsets
    (λ same. none_risen (is.persists.cause (ap Err same))) is.refused)
