use Rattle.ag_eval.proofs.Common
use Common.{◌≡◌, ◌≢◌, ◌<◌, ◌++◌, ◌∷◌, [], length, ap, arith, subst, sym, ◌∙◌, option_to_list, bound_value, IsIn, held_value}
use Common.{operand_value}
use Rattle.ag_eval.proofs.Innermost.{seen_stays}
use Rattle.ag_eval.proofs.bindings.Bindings.unbind.Goals as goal

pub returns-clause-value : goal.returns-clause-value
returns-clause-value c =
    let split : c.self.inside.held.items ≡ c.pop.new.self.items ++ c.in-Some.innermost ∷ [] =
    c.pop.ensures.items ∙ ap (λ o. c.pop.new.self.items ++ option_to_list o) c.in-Some.is in
    let other : c.in-Bound.k ≢ length c.pop.new.self.items =
    λ same. c.if-k-len.false (omega (arith, c.pop.new.self.ok.0, c.len.ensures, same)) in
    let within : c.in-Bound.k < length c.args.self.now = subst (IsIn c.args.self.now) c.in-Bound.is c.requires.within in
    ap bound_value
    (seen_stays held_value c.args.self.now c.self.inside.held.items c.pop.new.self.items c.in-Some.innermost c.in-Bound.k
    c.self.view_is split within other) ∙ ap (operand_value c.args.self.now) (sym c.in-Bound.is)
