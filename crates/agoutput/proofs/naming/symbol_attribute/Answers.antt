use Rattle.agoutput.proofs.Names.{no_name}
use Rattle.agoutput.proofs.naming.symbol_attribute.Goals as goal

-- the symbol has no attribute with this number
pub returns-in-None : goal.returns-in-None
returns-in-None c =
    no_name c.args.symbols.now c.args.symbol c.args.attr c.index-symbols-symbol.result c.if-symbol-symbols.false
    c.index-symbols-symbol.is (c.attribute_name.ensures.none c.in-None.is)
