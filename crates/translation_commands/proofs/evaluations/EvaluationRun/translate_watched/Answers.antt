use Rattle.std.proofs.Common.{ap, refl, true}
use Rattle.std.proofs.lemmas.Result.{IfOk-weaker}
use Rattle.program_io.specs.Sessions.{State, path_of}
use Rattle.translation_commands.proofs.Translated.{evaluated, honest_file}
use Rattle.translation_commands.proofs.evaluations.EvaluationRun.translate_watched.Goals as goal

pub returns-in_default-clause-evaluated : goal.returns-in_default-clause-evaluated
returns-in_default-clause-evaluated g c =
    IfOk-weaker c.translate_with.result _ _ (λ text was.
    evaluated c.args.self.translator.now (path_of c.args.self.work) _ _ c.args.session.now true true _ _ text.items was.0
    (λ _. refl) (λ _. refl) was.1) c.translate_with.ensures.evaluates

pub returns-in-Ok-clause-evaluated : goal.returns-in-Ok-clause-evaluated
returns-in-Ok-clause-evaluated g c =
    let made = c.translate_with-translated in
    let closed = c.close_work in
    let work = ap path_of c.in-Some.is in
    IfOk-weaker made.result _ _ (λ text was.
    evaluated c.args.self.translator.now (path_of c.args.self.work) _ _ closed.new.self _ _ _ _ text.items was.0
    (honest_file _ _ made.new.files.a.inner.events _ work (ap (λ (s : State). s.a) closed.ensures))
    (honest_file _ _ made.new.files.b.inner.events _ work (ap (λ (s : State). s.b) closed.ensures)) was.1)
    made.ensures.evaluates
