use Rattle.planchecker.proofs.Common.{sym, read_at}
use Rattle.passcode.proofs.Leaving.{same_target}
use Rattle.planchecker.proofs.Completing.{available}
use Rattle.planchecker.proofs.Loops.{is_no, is_yes}
use Rattle.planchecker.proofs.following.NodeState.may_compute.Goals as goal

pub returns : goal.returns
returns c =
    let i = c.index-rules-number in
    let is = read_at _ _ _ i.result c.as_slice-rules.ensures c.if-number-rules.false i.is in (
      (λ t. record {
        rule = _;
        numbered = is;
        target = same_target _ (record { place = c.args.target.place; attr = c.args.target.attr }) (sym c.if-not-is_same.ensures);
        passed = is_yes c.if-not-has_pass.ensures;
        available = λ o arg. c.are_available.ensures.0 t o (rw c.as_slice.ensures arg);
        fresh = is_no c.if-was_run.ensures;
      }),
      (λ h. c.are_available.ensures.1 (λ o arg. available _ _ _ _ _ _ _ _ is h o (rw c.as_slice.ensures at arg))),
    )
