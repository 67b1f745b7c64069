use Rattle.planchecker.proofs.Common.{slice_get-get_or, Strike}
use Rattle.planchecker.proofs.Loops.{prefix_more, prefix_whole, is_no, is_yes, says_no, says_yes}
use Rattle.planchecker.proofs.Strikes.{marks_more, next_same, within_limits}
use Rattle.planchecker.proofs.striking.marks_of.Goals as goal

abbrev none : Strike
none = record { symbol = 0; attr = 0; production = 0; rule = 0; arg = 0 }

pub returns-then-not-is_next-clause-good : goal.returns-then-not-is_next-clause-good
returns-then-not-is_next-clause-good g c =
    says_no (λ h. is_no c.if-not-is_next.ensures ((next_same _ _ _ _ _ _ _ c.loop-strike.invariant.marked).1
    (h _ _ (slice_get-get_or c.args.strikes.now _ none c.loop-strike-test.true))))

pub mark-requires-clause-symbol : goal.mark-requires-clause-symbol
mark-requires-clause-symbol g c =
    (within_limits _ c.productions-productions.ensures.accepted _ _ _ _ (is_yes c.if-not-is_next.ensures).good).0

pub mark-requires-clause-attr : goal.mark-requires-clause-attr
mark-requires-clause-attr g c =
    (within_limits _ c.productions-productions.ensures.accepted _ _ _ _ (is_yes c.if-not-is_next.ensures).good).1

pub loop-strike-preserved : goal.loop-strike-preserved
loop-strike-preserved g c =
    let at = slice_get-get_or c.args.strikes.now c.loop-strike.strike-index none c.loop-strike-test.true in
    let marked = c.loop-strike.invariant.marked in
    record {
      good = prefix_more _ _ _ _ at c.loop-strike.invariant.good
          ((next_same _ _ _ _ _ _ _ marked).0 (is_yes c.if-not-is_next.ensures));
      full = c.mark.ensures.full;
      marked = marks_more _ _ _ _ _ at marked c.mark.ensures.marked;
    }

pub returns-clause-good : goal.returns-clause-good
returns-clause-good g c = says_yes (prefix_whole _ _ _ c.loop-strike-test.false c.loop-strike.invariant.good)
