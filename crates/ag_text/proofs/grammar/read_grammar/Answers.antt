use Rattle.std.proofs.Common.{arith, ◌∙◌}
use Rattle.ag_text.proofs.Read.{bad_utf8, first_of, is_read, is_text, never_of, reads_of, refuses_of}
use Rattle.ag_text.proofs.grammar.read_grammar.Goals as goal

pub returns-in-Ok-clause-exact : goal.returns-in-Ok-clause-exact
returns-in-Ok-clause-exact c =
    let case = c.in-Ok.ensures.cases in
    is_read c.args.text.now case.1 (omega (arith, c.if-text-gt-MAX_TEXT_BYTES.false)) _
    (is_text _ _ case.0 _ c.read_characters.ensures)

pub returns-in-Ok-clause-first : goal.returns-in-Ok-clause-first
returns-in-Ok-clause-first c = first_of _ _ (returns-in-Ok-clause-exact c)

pub returns-in-Ok-clause-reads : goal.returns-in-Ok-clause-reads
returns-in-Ok-clause-reads c = reads_of _ _ (returns-in-Ok-clause-exact c)

pub returns-in-Ok-clause-refuses : goal.returns-in-Ok-clause-refuses
returns-in-Ok-clause-refuses c = refuses_of _ _ (returns-in-Ok-clause-exact c)

pub returns-in-Ok-clause-never : goal.returns-in-Ok-clause-never
returns-in-Ok-clause-never c = never_of _ _ (returns-in-Ok-clause-exact c)

pub returns-in-Err-clause-exact : goal.returns-in-Err-clause-exact
returns-in-Err-clause-exact c =
    bad_utf8 c.args.text.now _ c.in-Err.ensures.cases.0 (c.valid_up_to.ensures ∙ c.in-Err.ensures.valid_len)
    (omega (arith, c.if-text-gt-MAX_TEXT_BYTES.false))
