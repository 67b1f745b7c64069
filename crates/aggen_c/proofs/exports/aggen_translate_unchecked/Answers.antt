use Rattle.aggen.specs.Results.{IsTranslationOf}
use Rattle.aggen_c.specs.Results.{IsTranslationRefusal}
use Rattle.aggen_c.proofs.Answered.{answered}
use Rattle.aggen_c.proofs.exports.aggen_translate_unchecked.Goals as goal

pub returns-clause-answer : goal.returns-clause-answer
returns-clause-answer c =
    let made = c.answer_by_handle-answer in
    let done = c.write_answer in
    answered _ _ (λ v. v.items) (λ r. r.status) (λ r. r.fields) (λ g. IsTranslationOf g c.args.sentence.now)
    (λ g. IsTranslationRefusal g c.args.sentence.now)
    c.args.handle.now.value c.args.out.now done.new.out done.new.length done.result done.new.fields made.result
    made.ensures.bytes made.ensures.refused done.ensures.ok done.ensures.err done.ensures.kept
