use Rattle.std.proofs.Common.{◌∙◌, refl, sym, ap}
use Rattle.std.specs.Prelude.{option_copied}
use Rattle.ag_value.specs.declared.value.Value.TheVariants as v
use Rattle.ag_value.proofs.operations.Wells.{well_item}
use Rattle.list_tree.proofs.list.ListTree.get.Goals as goal

pub returns-clause-well : goal.returns-clause-well
returns-clause-well c =
    let items = c.parts.result.now.items in
    well_item (v.List items) items c.args.index c.in_ok-item.item.now refl c.parts.ensures.list.well
    (sym c.get.ensures ∙ ap option_copied c.in_ok-item.was)
