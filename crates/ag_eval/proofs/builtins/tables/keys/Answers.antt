use Rattle.ag_eval.proofs.Common
use Common.{◌∙◌, ap, map, well_keys}
use Common.value
use Rattle.ag_eval.proofs.builtins.tables.keys.Goals as goal

pub returns-in_ok-key_texts-in-Table-clause-well : goal.returns-in_ok-key_texts-in-Table-clause-well
returns-in_ok-key_texts-in-Table-clause-well c =
    well_keys c.args.table.now c.in-Table.pairs c.in_ok-key_texts-in-Table.field-0 c.in-Table.is c.requires
    (c.in_ok-key_texts-in-Table.ensures ∙ ap (map (λ p. value.Text p.0)) c.as_slice.ensures)
