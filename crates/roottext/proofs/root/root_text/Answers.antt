use Rattle.std.proofs.Common.{rules, Err, Ok, subst}
use Rattle.std.proofs.lemmas.Result.{err_from_is_err_and}
use Rattle.ag_value.specs.Well.{IsWell}
use Rattle.agoutput.specs.OutFaults.{out_fault_of}
use Rattle.roottext.specs.Roots.{EndsWithRoot}
use Rattle.agoutput.specs.declared.out_fault.OutFault.TheVariants as out_fault
use Rattle.roottext.proofs.Roots.{fault_found, found_matches_root}
use Rattle.roottext.proofs.root.root_text.Goals as goal

pub returns-in_err-value-clause-root : goal.returns-in_err-value-clause-root
returns-in_err-value-clause-root g c = λ honest.
    let content = g.D.Device.content c.args.device.now in
    let fault = c.in_err-value.field-0.0 in
    let p = err_from_is_err_and c.from_residual.result c.from_residual.ensures.1 in
    rw (p.1, p.2)
    (found_matches_root c.args.grammar.now c.args.plan.now.assignment c.args.plan.now.code content
    (Err (out_fault_of fault)) c.out_number-out.ensures.accepted c.requires.plan
    (fault_found c.args.grammar.now c.args.plan.now.assignment content fault (c.in_err-value.ensures.found honest)))

pub returns-in-Text-clause-root : goal.returns-in-Text-clause-root
returns-in-Text-clause-root g c = λ honest.
    let content = g.D.Device.content c.args.device.now in
    found_matches_root c.args.grammar.now c.args.plan.now.assignment c.args.plan.now.code content
    (Ok c.in-Text.text) c.out_number-out.ensures.accepted c.requires.plan
    (subst (EndsWithRoot c.args.grammar.now c.args.plan.now.assignment content) c.in-Text.is (c.in_ok-value.ensures.found honest))

pub returns-in-Text-clause-well : goal.returns-in-Text-clause-well
returns-in-Text-clause-well g c = subst IsWell c.in-Text.is c.in_ok-value.ensures.well

-- O1
pub returns-in_default : goal.returns-in_default
returns-in_default g c =
    let content = g.D.Device.content c.args.device.now in
    record {
      found = λ honest. (c.in_ok-value.ensures.found honest, c.in_default.not-Text);
      root =
          λ honest. found_matches_root c.args.grammar.now c.args.plan.now.assignment c.args.plan.now.code content
          (Err (out_fault.NoText c.in_ok-value.value)) c.out_number-out.ensures.accepted c.requires.plan
          (c.in_ok-value.ensures.found honest, c.in_default.not-Text);
      well = tt;
      content = c.in_ok-value.ensures.content;
      persists = search rules;
    }
