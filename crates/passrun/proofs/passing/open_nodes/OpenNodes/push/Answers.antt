use Rattle.passrun.proofs.Common.{[], ◌∷◌, ◌∙◌, ap, arith, length, length-append, sym}
use Rattle.passrun.specs.passing.OpenNodes.{RootPath, end_of}
use Rattle.passrun.proofs.steps.Paths.{longer}
use Rattle.passrun.proofs.passing.open_nodes.OpenNodes.push.Goals as goal

pub invariant_of-self-2 : goal.invariant_of-self-2
invariant_of-self-2 c =
    let xs = c.self.inside.nodes.items in
    let path = c.requires.path ∙ sym (ap (λ (s : RootPath). end_of s.root s.nodes) c.self.view_is) in
    let same = ap (λ (s : RootPath). length s.nodes) c.self.view_is in
    rw c.in_ok-push.ensures.items (
      longer c.self.inside.root xs c.args.node c.self.invariant.0 path,
      omega (arith, length-append xs (c.args.node ∷ []), c.requires.room),
    )
