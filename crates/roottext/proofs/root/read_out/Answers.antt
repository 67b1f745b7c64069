use Rattle.std.proofs.Common.{◌+◌, arith, subst}
use Rattle.std.proofs.lemmas.Result.{err_from_is_err_and}
use Rattle.passassign.specs.Rows.{IsGreatest}
use Rattle.passcode.specs.Settings.{setting_of}
use Rattle.pass_rows.specs.reading.Reading.{IsNoNode}
use Rattle.roottext.proofs.Roots.{no_root, out_well, out_within, root_read, same_fault, started}
use Rattle.roottext.proofs.root.read_out.Goals as goal

pub returns-in_err-read_node-clause-none : goal.returns-in_err-read_node-clause-none
returns-in_err-read_node-clause-none c =
    let g = c.args.grammar.now in
    let plan = c.args.plan.now in
    let last = c.passes-last.result in
    let greatest = subst (IsGreatest last) c.assignment.ensures c.passes-last.ensures in
    let p = err_from_is_err_and c.from_residual.result c.from_residual.ensures.1 in
    rw (p.1, p.2)
    (λ damaged x root. no_root g plan last c.args.body.now greatest
    (subst (λ s. IsNoNode (setting_of g plan (last + 1)) s c.args.body.now) c.start.ensures.value
    (c.in_err-read_node.ensures.none (same_fault _ _ damaged))) x root)

-- the number of `out` is less than the length of the row
pub swap_remove-requires : goal.swap_remove-requires
swap_remove-requires c =
    let g = c.args.grammar.now in
    let plan = c.args.plan.now in
    let last = c.passes-last.result in
    let greatest = subst (IsGreatest last) c.assignment.ensures c.passes-last.ensures in
    let read =
    started (setting_of g plan (last + 1)) c.start.result c.in_ok-read_node.field-0 c.args.body.now c.new-values.result.items
    c.read_node.new.values.items c.start.ensures.value c.new-values.ensures.items c.in_ok-read_node.ensures.read in
    let less =
    out_within g plan last c.args.out c.in_ok-read_node.field-0 c.args.body.now c.read_node.new.values.items
    c.requires.plan greatest c.requires.out read in
    omega (arith, less, c.read_node.new.values.ok.0)

pub returns-clause-read : goal.returns-clause-read
returns-clause-read c =
    let g = c.args.grammar.now in
    let plan = c.args.plan.now in
    let last = c.passes-last.result in
    let greatest = subst (IsGreatest last) c.assignment.ensures c.passes-last.ensures in
    let read =
    started (setting_of g plan (last + 1)) c.start.result c.in_ok-read_node.field-0 c.args.body.now c.new-values.result.items
    c.read_node.new.values.items c.start.ensures.value c.new-values.ensures.items c.in_ok-read_node.ensures.read in
    root_read g plan last c.args.out c.in_ok-read_node.field-0 c.args.body.now c.read_node.new.values.items
    c.swap_remove.result c.requires.plan greatest c.requires.out read c.swap_remove.ensures.value

pub returns-clause-well : goal.returns-clause-well
returns-clause-well c =
    let plan = c.args.plan.now in
    out_well c.args.grammar.now plan.assignment plan.code c.args.body.now c.swap_remove.result c.requires.plan
    (returns-clause-read c)
