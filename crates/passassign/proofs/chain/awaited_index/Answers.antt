use Rattle.passassign.proofs.strikes.Walked.{found_before, none_before}
use Rattle.passassign.proofs.chain.awaited_index.Goals as goal

pub returns-in-Some-clause-found : goal.returns-in-Some-clause-found
returns-in-Some-clause-found c =
    found_before c.args.grammar.now c.args.direction c.args.strikes.now c.args.at c.in-Some.symbol c.in-Some.attr
    c.in-Some.ensures c.index_of.result c.index_of.ensures.found

pub returns-in-Some-clause-none : goal.returns-in-Some-clause-none
returns-in-Some-clause-none c =
    none_before c.args.grammar.now c.args.direction c.args.strikes.now c.args.at c.in-Some.symbol c.in-Some.attr c.requires
    c.in-Some.ensures c.index_of.result c.index_of.ensures.none
