use Rattle.origins.proofs.Common
use Common.{rules, ◌≡◌, None, ap, sym, ◌∙◌, value_of, fault_of, environment, exchanged, is_same_error, table_of}
use Rattle.origins.specs.Arising.{arises}
use Rattle.origins.proofs.Quiet.{occurrence_is_quiet}
use Rattle.origins.proofs.row.Row.is_arising.Goals as goal

pub returns-in_default-error_of : goal.returns-in_default-error_of
unfolding arises
returns-in_default-error_of c =
    let expr = c.args.rule.now.expr.tree in
    let env =
    environment c.args.rule.now
    (table_of c.args.self.now.grammar.now c.args.self.now.production.now c.args.self.now.values.now) in
    let nothing : fault_of (value_of expr env) ≡ None =
    ap fault_of (sym c.in_ok-value.ensures) ∙ sym c.error_of.ensures ∙ c.in_default-error_of.is in
    sym (ap (λ z. is_same_error z (fault_of (value_of expr (λ k. exchanged (env k))))) nothing)

pub returns : goal.returns
unfolding arises
returns c = search rules

pub returns-in-Occurrence : goal.returns-in-Occurrence
returns-in-Occurrence c =
    sym
    (occurrence_is_quiet c.args.rule.now.expr.tree c.in-Occurrence.field-0
    (environment c.args.rule.now
    (table_of c.args.self.now.grammar.now c.args.self.now.production.now c.args.self.now.values.now))
    (sym c.tree.ensures.value ∙ c.in-Occurrence.is))
