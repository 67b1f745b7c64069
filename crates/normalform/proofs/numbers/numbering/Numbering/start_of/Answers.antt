-- The remaining goals of `Numbering::start_of`.
use Rattle.normalform.proofs.numbered.Small.{symbol_small}
use Rattle.normalform.proofs.numbers.numbering.Numbering.start_of.Goals as goal

pub to_u16-requires : goal.to_u16-requires
to_u16-requires c = rw (c.number.ensures) (symbol_small c.args.self.now.declared c.args.name.now c.args.self.now.small.symbols)
