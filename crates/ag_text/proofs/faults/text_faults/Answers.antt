use Rattle.std.proofs.Common.{◌∙◌, arith}
use Rattle.ag_text.proofs.AllFaults.{by_characters, by_list, none_by, of_bad_utf8}
use Rattle.ag_text.proofs.faults.text_faults.Goals as goal

pub returns-in-Ok-clause-exact : goal.returns-in-Ok-clause-exact
returns-in-Ok-clause-exact c =
    let case = c.in-Ok.ensures.cases in
    by_characters c.character_faults.result (λ v. v.items) c.args.text.now c.in-Ok.characters.now case.0 case.1
    (omega (arith, c.if-text-gt-MAX_TEXT_BYTES.false)) c.character_faults.ensures

pub returns-in-Ok-clause-none : goal.returns-in-Ok-clause-none
returns-in-Ok-clause-none c =
    none_by c.character_faults.result (λ v. v.items) c.args.text.now (returns-in-Ok-clause-exact c)

pub returns-in-Err-clause-exact : goal.returns-in-Err-clause-exact
returns-in-Err-clause-exact c =
    by_list c.list_of-in-Err.result (λ v. v.items) c.args.text.now _
    (of_bad_utf8 c.args.text.now c.valid_up_to.result c.in-Err.ensures.cases.0
    (c.valid_up_to.ensures ∙ c.in-Err.ensures.valid_len) (omega (arith, c.if-text-gt-MAX_TEXT_BYTES.false)))
    c.list_of-in-Err.ensures
