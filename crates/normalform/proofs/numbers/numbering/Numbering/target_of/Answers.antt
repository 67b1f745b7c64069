-- The remaining goals of `Numbering::target_of`.
use Rattle.normalform.proofs.Common.{map, item_placed}
use Rattle.normalform.proofs.numbered.Small.{attribute_small}
use Rattle.normalform.proofs.numbers.numbering.Numbering.target_of.Goals as goal

pub to_u16-requires : goal.to_u16-requires
to_u16-requires c =
    rw (c.attribute.ensures)
    (attribute_small c.args.self.now.declared (map item_placed c.args.items.now) c.args.occurrence.now
    c.args.self.now.small.attributes)
