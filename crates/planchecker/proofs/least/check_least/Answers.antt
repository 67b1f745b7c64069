use Rattle.planchecker.proofs.Common.{IsTrue, ap, ◌∙◌, length, sym, AreStrikesOf}
use Rattle.planchecker.proofs.least.check_least.Goals as goal

pub returns : goal.returns
returns c =
    let lent = c.as_slice-lists.ensures in
    let is : IsTrue c.are_all_strikes.result → AreStrikesOf c.args.grammar.now c.args.assignment.now c.args.strikes.now.lists =
    λ t. record {
      count = rw (sym (ap length lent) ∙ c.if-lists-passes.false) c.passes.ensures;
      each = rw lent at (c.are_all_strikes.ensures.0 t);
    } in
    record {
      strikes = (is, λ h. c.are_all_strikes.ensures.1 (rw lent h.each));
      least = λ t other. c.none_is_earlier.ensures _ _ _ other (is t);
    }
