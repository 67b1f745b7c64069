use Rattle.llparse.proofs.Common.{◌∷◌, reverse, arith, max_nodes, advanced}
use Rattle.llparse.proofs.steps.Prefixes.{on_top}
use Rattle.llparse.proofs.steps.Stacks.{fewer_opened, fewer_passed}
use Rattle.llparse.proofs.sentence.expected.can_accept.Goals as goal

-- opening a node makes the bound of the number of remaining steps smaller, since the node counts against the limit of nodes
pub loop-terminal-smaller-in-Some-Symbol : goal.loop-terminal-smaller-in-Some-Symbol
loop-terminal-smaller-in-Some-Symbol c =
    let g = c.args.language.now.grammar.now in
    let p = c.loop-terminal.parser in
    let under = reverse p.waiting.items in
    let passed = c.in-Some-Symbol.ensures in
    let fewer = fewer_passed g max_nodes c.loop-terminal.node c.in-Some-Symbol.field-0 under p.count passed.0 in
    let less =
    fewer_opened g max_nodes (advanced c.loop-terminal.node ∷ under) c.in-Some.inner.production c.in-Some.inner.base p.count
    c.in-Ok.ensures.room.1 in
    rw (
      c.in-Some.ensures.begins,
      on_top p.waiting.items c.push.new.self.items c.next_if_any.new.node c.in_ok-push-in-Some-Symbol.ensures.items,
      passed.1,
    ) (omega (arith, fewer, less))
