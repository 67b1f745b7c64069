-- N4, then N5.
use Rattle.normalform.proofs.Common.{◌≡◌, ◌++◌, List, subst, sym, NormalFault}
use Rattle.normalform.specs.declared.faults.structure.SymbolCheck.TheVariants as symbol_check
use Rattle.normalform.specs.faults.AllFaults.{if_none, marked_checks}
use Rattle.normalform.specs.faults.FaultList.{after_checks}
use Rattle.normalform.proofs.Listing.{two_parts}
use Rattle.normalform.proofs.checking.push_marked.Goals as goal

pub returns : goal.returns
returns c =
    let ss = c.args.raw.now.symbols in
    let productive = c.in_ok-productive.productive.items in
    let reached = c.in_ok-reached.reached.items in
    let checks = marked_checks symbol_check.Productive productive ss ++ marked_checks symbol_check.Reached reached ss in record {
      productive = productive;
      reached = reached;
      marks_productive = λ none. c.in_ok-productive.ensures;
      marks_reached = λ none. c.in_ok-reached.ensures;
      list =
          subst (λ (fs : List NormalFault). c.push_unmarked-2.new.faults ≡ after_checks c.args.faults.now (if_none fs checks))
          (sym c.requires.names)
          (two_parts (marked_checks symbol_check.Productive productive ss) (marked_checks symbol_check.Reached reached ss) _ _ _
          (rw (c.as_slice-4.ensures.value, c.as_slice-symbols.ensures) at c.in_ok-push_unmarked.ensures)
          (rw (c.as_slice-5.ensures.value, c.as_slice-symbols.ensures) at c.in_ok-push_unmarked-2.ensures));
    }
