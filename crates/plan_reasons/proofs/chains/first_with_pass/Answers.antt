use Rattle.std.proofs.Common.{◌≡◌, Some, slice_get, get_or, subst, sym}
use Rattle.std.proofs.lemmas.Option.{slice_get-get_or}
use Rattle.passassign.proofs.slots.Lists.{whole_prefix, prefix_more}
use Rattle.passassign.proofs.strikes.Following.{has_strikes, strikes_has}
use Rattle.passassign.proofs.strikes.Walked.{none}
use Rattle.passassign.specs.declared.stuck.Strike.{Strike}
use Rattle.passassign.specs.Rows.{passes_of}
use Rattle.planchecker.proofs.Loops.{is_no, is_yes}
use Rattle.plan_reasons.proofs.chains.first_with_pass.Goals as goal

pub loop-strike-preserved : goal.loop-strike-preserved
loop-strike-preserved c =
    prefix_more (λ k (x : Strike). slice_get (passes_of c.args.assignment.now x.symbol) x.attr ≡ Some c.args.pass → ⊥)
    c.args.strikes.now c.loop-strike.strike-index none c.loop-strike-test.true c.loop-strike.invariant
    (is_no c.if-has_pass.ensures)

pub returns-then-has_pass-clause-found : goal.returns-then-has_pass-clause-found
returns-then-has_pass-clause-found c =
    let xs = c.args.strikes.now in
    let i = c.loop-strike.strike-index in
    (has_strikes xs (get_or xs i none) (i, slice_get-get_or xs i none c.loop-strike-test.true), is_yes c.if-has_pass.ensures)

pub returns-clause-none : goal.returns-clause-none
returns-clause-none c = λ same s a hit e.
    let w = strikes_has c.args.strikes.now s a hit in
    whole_prefix (λ k (x : Strike). slice_get (passes_of c.args.assignment.now x.symbol) x.attr ≡ Some c.args.pass → ⊥)
    c.args.strikes.now c.loop-strike.strike-index c.loop-strike-test.false c.loop-strike.invariant w.1.0 w.0 w.1.1
    (subst (λ b. slice_get (passes_of c.args.assignment.now w.0.symbol) b ≡ Some c.args.pass) (sym w.3)
    (subst (λ t. slice_get (passes_of c.args.assignment.now t) a ≡ Some c.args.pass) (sym w.2) e))
