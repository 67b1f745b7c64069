use Rattle.causes.proofs.InIndex.{number_of_last, number_of_root}
use Rattle.causes.proofs.chain.Chain.node.Goals as goal

pub returns-in-Some : goal.returns-in-Some
returns-in-Some c =
    number_of_last c.args.self.now.grammar.now c.deref.ensures.value c.in-Some.ensures.value c.requires.leads

pub returns-in-None : goal.returns-in-None
returns-in-None c = number_of_root c.args.self.now.grammar.now c.deref.ensures.value c.in-None.ensures.item.3
