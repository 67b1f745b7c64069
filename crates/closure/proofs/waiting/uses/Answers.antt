-- The remaining goals of `uses`.
use Rattle.std.proofs.Common.{◌<◌, length, arith, ap, ◌∙◌}
use Rattle.std.proofs.lemmas.List.{length-map}
use Rattle.closure.specs.declared.clause.Clause.{Clause}
use Rattle.std.proofs.lemmas.List.Elements.{All-nil}
use Rattle.closure.proofs.Noted.{rows_empty, noted_lines}
use Rattle.closure.proofs.waiting.uses.Goals as goal

pub loop-at-init : goal.loop-at-init
loop-at-init c = record {
  count = omega arith;
  listed = λ p t d lt h. absurd (omega arith);
  fits = λ t. rw (rows_empty c.loop.uses.items c.loop.invariant.empty t) (All-nil (λ p. p < length c.args.clauses.now));
}

pub loop-at-preserved : goal.loop-at-preserved
loop-at-preserved c = record {
  count = cc (length-map _ _, c.in_ok-add_uses.ensures.adds.same, c.loop-at.invariant.count);
  listed =
      noted_lines _ _ _ _ _ _ c.loop-at-test.true
      (c.as_slice.ensures ∙ ap (λ (q : Clause). q.body) c.index-clauses-at.is) c.in_ok-add_uses.ensures.adds
      c.loop-at.invariant.listed c.in_ok-add_uses.ensures.listed;
  fits = c.in_ok-add_uses.ensures.adds.fits (length c.args.clauses.now) c.loop-at-test.true c.loop-at.invariant.fits;
}

pub returns-clause-listed : goal.returns-clause-listed
returns-clause-listed c = λ p t d lt h. c.loop-at.invariant.listed p t d (omega arith) h
