use Rattle.aggen.proofs.Common.{◌≡◌, ◌-◌, inr, refl, arith, left_again}
use Rattle.aggen.proofs.Composed.{are_left, never_refused}
use Rattle.aggen.proofs.Exits.{at_exit}
use Rattle.aggen.proofs.translator.Translator.leave_files.Goals as goal

-- honest devices return a file that no pass rejects
pub returns-in_err-last-clause-refused : goal.returns-in_err-last-clause-refused
returns-in_err-last-clause-refused g c =
    let parsed = c.in_ok-nodes.ensures in
    let tree = parsed.tree in
    at_exit _ _ _ c.from_residual-in_err-last.ensures
    (never_refused c.grammar.ensures.accepted c.requires.least.plan c.args.sentence.now c.in_err-last.field-0.0 _ _
    tree.1.tree.tree (parsed.limits tree.0 tree.1)
    (λ h. parsed.file tree.0 tree.1 (c.in_err-last.ensures.devices.first.honest h))
    (rw c.grammar.ensures.grammar at c.in_err-last.ensures.refused))

-- all passes ran over the one tree of the sentence
pub returns-clause-left : goal.returns-clause-left
returns-clause-left g c =
    let parsed = c.in_ok-nodes.ensures in
    let tree = parsed.tree in
    let greatest = rw c.assignment.ensures at c.passes.ensures in
    let evals : c.run_all.new.meter - c.new-meter.result ≡ c.count.result = omega (arith, c.new-meter.ensures, c.count.ensures) in
    record {
      tree = tree.0;
      one = record { is_tree = tree.1; only = λ s is. parsed.one s tree.0 is tree.1; within = parsed.limits tree.0 tree.1 };
      greatest = greatest;
      left = λ x y. are_left c.grammar.ensures.accepted c.requires.least.plan greatest tree.1.tree.tree
          (parsed.file tree.0 tree.1 (c.in_ok-last.ensures.devices.first.honest x))
          (rw (c.grammar.ensures.grammar, evals) at (c.in_ok-last.ensures.passed c.passes.result greatest x y))
          (parsed.count tree.0 tree.1) refl refl;
    }

-- the content of each device
pub returns-in_err-nodes-clause-a_left : goal.returns-in_err-nodes-clause-a_left
returns-in_err-nodes-clause-a_left g c = λ h. (0, c.in_err-nodes.ensures.left h)

pub returns-in_err-last-clause-a_left : goal.returns-in_err-last-clause-a_left
returns-in_err-last-clause-a_left g c = λ h.
    left_again _ _ _ (0, inr (c.in_ok-nodes.ensures.begins (c.in_err-last.ensures.devices.first.honest h)))
    (c.in_err-last.ensures.a_left h)

pub returns-clause-a_left : goal.returns-clause-a_left
returns-clause-a_left g c = λ h.
    left_again _ _ _ (0, inr (c.in_ok-nodes.ensures.begins (c.in_ok-last.ensures.devices.first.honest h)))
    (c.in_ok-last.ensures.a_left h)
