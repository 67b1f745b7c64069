use Rattle.ag_eval.proofs.Common.{◌∙◌, subst, IsUtf8, well_decimal}
use Rattle.ag_eval.proofs.builtins.numbers.decimal.Goals as goal

pub returns-clause-well : goal.returns-clause-well
returns-clause-well c =
    well_decimal _ c.in-Num.number (c.in_ok-text.ensures ∙ c.format.ensures.text)
    (subst IsUtf8 c.as_str-utf8.ensures c.as_str-utf8.utf8)
