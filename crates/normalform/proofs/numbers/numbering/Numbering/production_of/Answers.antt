-- The remaining goals of `Numbering::production_of`.
use Rattle.normalform.proofs.numbered.Small.{symbol_small}
use Rattle.normalform.proofs.numbers.numbering.Numbering.production_of.Goals as goal

pub to_u16-left-requires : goal.to_u16-left-requires
to_u16-left-requires c =
    rw (c.number.ensures) (symbol_small c.args.self.now.declared c.as_str.result.now c.args.self.now.small.symbols)
