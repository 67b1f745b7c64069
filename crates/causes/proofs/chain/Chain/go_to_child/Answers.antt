use Rattle.causes.proofs.InIndex.{child_number, leads_down}
use Rattle.causes.proofs.chain.Chain.go_to_child.Goals as goal

pub returns-clause-leads : goal.returns-clause-leads
returns-clause-leads c =
    let chain = c.args.self.now in
    leads_down chain.grammar.now chain.nodes.items (record { node = c.in-Some.node; place = c.args.place })
    c.in_ok-push.ensures.items c.requires.leads
    (child_number chain.grammar.now c.args.place c.node.ensures c.in-Some.ensures.child)
