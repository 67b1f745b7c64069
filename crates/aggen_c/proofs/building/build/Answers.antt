use Rattle.std.proofs.Common.{sym, subst}
use Rattle.ag_grammar.specs.grammars.AttributeGrammar.{Grammar}
use Rattle.aggen_c.specs.Answers.{IsTranslatorOf}
use Rattle.aggen_c.proofs.building.build.Goals as goal

pub returns-in-Ok-new-clause-built : goal.returns-in-Ok-new-clause-built
returns-in-Ok-new-clause-built c =
    let made = c.in-Ok.ensures in
    subst (λ (g : Grammar). IsTranslatorOf c.args.grammar.now g) (sym c.in-Ok-new.ensures.ok)
    (record { is = made.grammar; free = made.free; alternating = made.alternating })
