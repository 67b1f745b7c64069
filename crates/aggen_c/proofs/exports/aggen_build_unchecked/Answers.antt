use Rattle.aggen_c.proofs.Answered.{built}
use Rattle.aggen_c.proofs.exports.aggen_build_unchecked.Goals as goal

pub returns-clause-built : goal.returns-clause-built
returns-clause-built c =
    let made = c.build_handle-built in
    let done = c.write_built in
    built _ (λ r. r.status) (λ r. r.fields) c.args.grammar.now made.new.handle.value done.result done.new.fields made.result
    made.ensures.built made.ensures.emptied made.ensures.refused done.ensures.ok done.ensures.err
