-- The kind of an attribute by its number.
use Rattle.normalform.proofs.Common.{◌∙◌}
use Rattle.normalform.proofs.numbered.KindAt.{role_same}
use Rattle.normalform.proofs.numbers.declared.Declared.symbol_role.Goals as goal

pub returns-in-Some : goal.returns-in-Some
returns-in-Some c =
    c.role_at.ensures ∙ role_same _ c.in-Some.raw.now c.as_slice.result.now c.as_slice-in-Some.result.now c.args.attr c.args.place
    c.in-Some.ensures.there c.as_slice.ensures c.as_slice-in-Some.ensures
