use Rattle.aggen.proofs.Building.{of_plan, write_exact}
use Rattle.aggen.proofs.listing.print_code.Goals as goal

-- O2: the prefix of the listing that was written is one of the text's listing, since the translator has the text's grammar
pub returns-in_err-write_code-clause-write : goal.returns-in_err-write_code-clause-write
returns-in_err-write_code-clause-write g c = λ is.
    let begins = c.in_err-write_code.ensures.write (write_exact _ _ c.from_residual-in_err-write_code.ensures is) in
    of_plan _ c.args.text.now _ _ _ c.in_ok-translator.ensures.grammar c.plan.ensures (rw c.grammar.ensures.grammar at begins)
