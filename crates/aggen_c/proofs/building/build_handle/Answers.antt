use Rattle.aggen_c.specs.Answers.{IsTranslatorOf}
use Rattle.aggen_c.proofs.Answered.{is_some}
use Rattle.aggen_c.proofs.building.build_handle.Goals as goal

pub returns-in-Ok-clause-built : goal.returns-in-Ok-clause-built
returns-in-Ok-clause-built c =
    is_some (IsTranslatorOf c.args.grammar.now) c.put.new.self.value c.in-Ok.translator.value c.put.ensures c.in-Ok.ensures.built
