-- The remaining goals of `Numbering::item_of`.
use Rattle.normalform.proofs.numbered.Small.{symbol_small, text_small}
use Rattle.normalform.proofs.numbers.numbering.Numbering.item_of.Goals as goal

pub to_u16-requires : goal.to_u16-requires
to_u16-requires c =
    rw (c.number.ensures) (symbol_small c.args.self.now.declared c.as_str.result.now c.args.self.now.small.symbols)

pub to_u16-requires-in-Literal : goal.to_u16-requires-in-Literal
to_u16-requires-in-Literal c =
    rw (c.number-in-Literal.ensures)
    (text_small c.args.self.now.literals c.as_str-in-Literal.result.now c.args.self.now.small.texts)
