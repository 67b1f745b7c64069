use Rattle.std.specs.Prelude.{Some}
use Rattle.aggen_c.proofs.Results.{translated, translation_refused}
use Rattle.aggen_c.proofs.memory.translation.Goals as goal

pub returns-in-Ok-clause-text : goal.returns-in-Ok-clause-text
returns-in-Ok-clause-text c =
    let made = c.translate in
    translated c.args.translator.now c.args.sentence.now made.new.a made.new.b c.new-text.result.items made.new.out.items
    c.in-Ok.field-0
    c.new-text.ensures.items c.in-Ok.ensures.translates

pub returns-clause-refused : goal.returns-clause-refused
returns-clause-refused c =
    let fault = c.memory_fault in
    translation_refused c.args.translator.now c.args.sentence.now (Some c.new-text.result.items) (Some c.translate.new.out.items)
    c.in-Err.fault fault.result c.in-Err.ensures.refused fault.ensures.same fault.ensures.device fault.ensures.write
